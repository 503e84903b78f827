-- Values that are written, and the lines of an image.
use Rattle.std.proofs.Common.{◌≡◌, ℕ, ◌+◌, ◌-◌, ◌<◌, ◌≤◌, List, [], ◌∷◌, ◌++◌, length, drop, get_or, false, refl, sym, ap, ◌∙◌, drop-cons, add-one, drop_of_length-le}
use Rattle.serde_json.specs.Data.{Data, Items, no_items, item, number, unsigned}
use Rattle.serde_json.specs.View.{view, items_view}
use Rattle.serde_json.specs.Written.{has_float, items_have_float}
use Rattle.serde_json.specs.declared.value.Value.{Value}
use Rattle.nn_model.specs.declared.form.Form.{Form}
use Rattle.nn_model.specs.Namespace.{Path, Namespace}
use Rattle.nn_image.specs.Text.{number_items, head_data, header_data, row_lines, value_line, end_data, image_text}

-- ---- no floats

numbers_whole : (ns : List ℕ) → items_have_float (number_items ns) ≡ false
numbers_whole [] = refl
numbers_whole (n ∷ ns) = numbers_whole ns

pub head_whole : (n : Namespace) (txid : ℕ) → has_float (header_data n txid) ≡ false
unfolding head_data
head_whole n txid = rw (numbers_whole n.issued.awaiting) refl

-- ---- lists that grow

abbrev pub items_then : List Value → Items → Items
items_then [] rest = rest
items_then (v ∷ vs) rest = item (view v) (items_then vs rest)

pub items_all : (vs : List Value) → items_then vs no_items ≡ items_view vs
items_all [] = refl
items_all (v ∷ vs) = ap (item (view v)) (items_all vs)

pub items_push : (vs : List Value) (v : Value) (rest : Items) → items_then (vs ++ v ∷ []) rest ≡ items_then vs (item (view v) rest)
items_push [] v rest = refl
items_push (w ∷ vs) v rest = ap (item (view w)) (items_push vs v rest)

pub number_turn : (vs : List Value) (v : Value) (ns : List ℕ) (k n d : ℕ) → k < length ns → n ≡ get_or ns k d → view v ≡ number (unsigned n)
    → items_then (vs ++ v ∷ []) (number_items (drop (k + 1) ns)) ≡ items_then vs (number_items (drop k ns))
number_turn vs v ns k n d within is e =
    let left = drop (k + 1) ns in
    let next : drop k ns ≡ n ∷ left = drop-cons ns k d within ∙ rw (add-one, ← is) refl in
    let put : items_then vs (item (view v) (number_items left)) ≡ items_then vs (number_items (n ∷ left)) = ap (λ (d : Data). items_then vs (item d (number_items left))) e in
    items_push vs v (number_items left) ∙ put ∙ ap (λ r. items_then vs (number_items r)) (sym next)

pub numbers_done : (vs : List Value) (ns : List ℕ) (k : ℕ) → length ns ≤ k → items_then vs (number_items (drop k ns)) ≡ items_view vs
numbers_done vs ns k over = ap (λ r. items_then vs (number_items r)) (drop_of_length-le ns over) ∙ items_all vs

-- ---- the whole text

pub whole_image : (n : Namespace) (txid : ℕ) (head : List ℕ) (rows : List (Path × Form)) (paths : ℕ)
    → head ≡ value_line (header_data n txid) → rows ≡ drop 1 n.rows → paths ≡ length n.rows - 1 → head ++ (row_lines rows ++ value_line (end_data paths)) ≡ image_text n txid
unfolding image_text
whole_image n txid head rows paths header below count = rw (header, below, count) refl
