-- Bytes and names as a string of JSON has them.
use Rattle.std.proofs.Common.{◌≡◌, ◌<◌, ◌≤◌, ℕ, suc, length, List, [], ◌∷◌, ◌++◌, true, refl, sym, ap, ◌∙◌, arith}
use Rattle.std.specs.Prelude.{◌==◌, ◌/◌, ◌%◌, flat_map, codes}
use Rattle.std.specs.Borrow.{Bor}
use Rattle.std.specs.Char.{digit_char}
use Rattle.std.specs.Map.Iter.{deref}
use Rattle.std.proofs.lemmas.Bool.{eqb-true, lt-ltb, le-ltb}
use Rattle.std.proofs.lemmas.Grind.{flat_map-append}
use Rattle.std.proofs.lemmas.List.Folds.{flat_map-map}
use Rattle.json.specs.Print.{escape_letter, escape_byte, escape}
use Rattle.nn_types.specs.Path.{joined, path_text, slash}
use Rattle.nn_tree.specs.Listing.{lent_names}
use Rattle.nn_text.specs.Plain.{escaped_name}

-- ---- A path.

escape_joined : (names : List (List ℕ)) → escape (joined names) ≡ flat_map escaped_name names
unfolding escape_byte
escape_joined [] = refl
escape_joined (name ∷ names) = ap (λ t. slash ∷ t) (flat_map-append escape_byte name (joined names) ∙ ap (λ t. escape name ++ t) (escape_joined names))

pub escape_path : (name : List ℕ) (names : List (List ℕ)) → escape (path_text (name ∷ names)) ≡ flat_map escaped_name (name ∷ names)
escape_path name names = escape_joined (name ∷ names)

pub escape_root : escape (path_text []) ≡ slash ∷ []
unfolding escape_byte
escape_root = refl

-- ---- A byte.

pub short_escape : (b : ℕ) → 0 < escape_letter b → escape_byte b ≡ 92 ∷ escape_letter b ∷ []
unfolding escape_byte
short_escape b some = rw (lt-ltb 0 (escape_letter b) some) refl

pub long_escape : (b : ℕ) → escape_letter b ≤ 0 → b < 32 → escape_byte b ≡ codes "\\u00" ++ digit_char (b / 16) ∷ digit_char (b % 16) ∷ []
unfolding escape_byte
long_escape b none small = rw (le-ltb 0 (escape_letter b) none, lt-ltb b 32 small) refl

pub no_escape : (b : ℕ) → escape_letter b ≤ 0 → 32 ≤ b → escape_byte b ≡ b ∷ []
unfolding escape_byte
no_escape b none high = rw (le-ltb 0 (escape_letter b) none, le-ltb b 32 high) refl

-- ---- A path that is lent.

pub lent_path : (names : List (Bor (List ℕ))) → (names ≡ [] → ⊥) → flat_map (λ n. escaped_name (deref n)) names ≡ escape (path_text (lent_names names))
lent_path [] some = absurd (some refl)
lent_path (name ∷ names) some = sym (escape_path (deref name) (lent_names names) ∙ flat_map-map escaped_name deref (name ∷ names))

pub lent_root : (names : List (Bor (List ℕ))) → (length names == 0) ≡ true → slash ∷ [] ≡ escape (path_text (lent_names names))
lent_root [] none = sym escape_root
lent_root (name ∷ names) none = absurd (let z : suc (length names) ≡ 0 = eqb-true (suc (length names)) 0 none in omega (arith, z))
