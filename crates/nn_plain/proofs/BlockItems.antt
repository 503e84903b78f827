-- Blocks, one item after another, and their numbers.
use Rattle.std.proofs.Common.{◌≡◌, ℕ, List, [], ◌∷◌, ◌++◌, Bool, true, false, cond, bytes_eq, Option, option_and_then, refl, sym, ap, ap₂, ◌∙◌, subst, append_assoc, append-nil}
use Rattle.std.proofs.lemmas.Bool.{false≢true}
use Rattle.std.proofs.lemmas.Slice.Eq.{bytes_eq-Decides}
use Rattle.serde_json.specs.Data.{Data, Items, Members, object, no_items, item, put}
use Rattle.serde_json.proofs.Views.{get_member-put, get_member-put_other}
use Rattle.nn_types.specs.declared.block.Block.{Block}
use Rattle.nn_plain.specs.Spelling.{SpellsBlock, SpellsBlocks, whole_of, whole_at}

-- ---- items

-- The items `es` are those that were read as the blocks `prefix`, and then the items `ds`.
abbrev pub GoesOn : Items → List Block → Items → Type 0
GoesOn es prefix ds = (bs : List Block) → SpellsBlocks ds bs → SpellsBlocks es (prefix ++ bs)

pub item_more : (es : Items) (prefix : List Block) (d : Data) (ds : Items) (b : Block) → SpellsBlock d b → GoesOn es prefix (item d ds) → GoesOn es (prefix ++ b ∷ []) ds
item_more es prefix d ds b one all = λ bs rest. subst (SpellsBlocks es) (sym (append_assoc prefix (b ∷ []) bs)) (all (b ∷ bs) (one, rest))

pub items_done : (es : Items) (prefix : List Block) → GoesOn es prefix no_items → SpellsBlocks es prefix
items_done es prefix all = subst (SpellsBlocks es) (append-nil prefix) (all [] tt)

-- ---- numbers

whole_put : (q k : List ℕ) (d : Data) (found : Members) → whole_at q (object (put k d found)) ≡ cond (bytes_eq k q) (whole_of d) (whole_at q (object found))
whole_put q k d found = at (bytes_eq k q) refl
  where
    at : (t : Bool) → bytes_eq k q ≡ t → whole_at q (object (put k d found)) ≡ cond t (whole_of d) (whole_at q (object found))
    at true e = let same = (bytes_eq-Decides k q).0 e in ap (λ (x : List ℕ). whole_at x (object (put k d found))) (sym same) ∙ ap (option_and_then whole_of) (get_member-put k d found)
    at false e = ap (option_and_then whole_of) (get_member-put_other q k d found (λ (h : q ≡ k). false≢true (sym e ∙ (bytes_eq-Decides k q).1 (sym h))))

pub kept : (q k : List ℕ) (d : Data) (found : Members) (new n old : Option ℕ) → new ≡ cond (bytes_eq k q) n old → n ≡ whole_of d → old ≡ whole_at q (object found) → new ≡ whole_at q (object (put k d found))
kept q k d found new n old e f g = e ∙ ap₂ (cond (bytes_eq k q)) f g ∙ sym (whole_put q k d found)
