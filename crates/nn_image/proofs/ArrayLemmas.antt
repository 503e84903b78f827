-- The value of a line, and ids that rise.
use Rattle.std.proofs.Common.{◌≡◌, ℕ, ◌+◌, ◌<◌, ◌≤◌, List, [], ◌∷◌, length, drop, get_or, Bool, true, false, cond, Some, None, refl, ap, ◌∙◌, drop-cons, add-one}
use Rattle.std.proofs.lemmas.Bool.{lt-ltb, le-ltb}
use Rattle.std.specs.Str.{IsUtf8, is_utf8}
use Rattle.std.proofs.lemmas.Str.{is_utf8-from_IsUtf8, IsUtf8-from_is_utf8}
use Rattle.serde_json.specs.Data.{Data}
use Rattle.serde_json.specs.Read.{read}
use Rattle.nn_tree.specs.Restore.{rises}
use Rattle.nn_image.specs.Reading.{value_of_line}

pub value_of_text : (line : List ℕ) (d : Data) → IsUtf8 line → read line ≡ Some d → value_of_line line ≡ Some d
unfolding value_of_line
value_of_text line d text e = rw (is_utf8-from_IsUtf8 line text) e

pub value_of_none : (line : List ℕ) → (IsUtf8 line → read line ≡ None) → value_of_line line ≡ None
unfolding value_of_line
value_of_none line h = at (is_utf8 line) refl
  where
    at : (t : Bool) → is_utf8 line ≡ t → cond t (read line) None ≡ None
    at true e = h (IsUtf8-from_is_utf8 line e)
    at false e = refl

-- ---- ids that rise

next_id : (ids : List ℕ) (k : ℕ) → k < length ids → drop k ids ≡ get_or ids k 0 ∷ drop (k + 1) ids
next_id ids k within = drop-cons ids k 0 within ∙ rw add-one refl

pub rises_turn : (last : ℕ) (ids : List ℕ) (k : ℕ) → k < length ids → last < get_or ids k 0 → rises (last ∷ drop k ids) ≡ rises (get_or ids k 0 ∷ drop (k + 1) ids)
rises_turn last ids k within less = ap (λ rest. rises (last ∷ rest)) (next_id ids k within) ∙ rw (lt-ltb last (get_or ids k 0) less) refl

pub rises_not : (last : ℕ) (ids : List ℕ) (k : ℕ) → k < length ids → get_or ids k 0 ≤ last → rises (last ∷ drop k ids) ≡ false
rises_not last ids k within more = ap (λ rest. rises (last ∷ rest)) (next_id ids k within) ∙ rw (le-ltb last (get_or ids k 0) more) refl

pub rises_end : (last : ℕ) (ids : List ℕ) → ids ≡ [] → rises (last ∷ ids) ≡ true
rises_end last [] e = refl
rises_end last (i ∷ ids) e = absurd (cc)
