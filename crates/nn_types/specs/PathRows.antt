-- Paths at their limits, and what is just past them.
use Rattle.std.specs.Prelude.{◌≡◌, ◌≤◌, ℕ, zero, suc, true, false, List, [], ◌∷◌, map, codes, refl}
use Rattle.std.proofs.Common.{lit≤, arith}
use Rattle.std.specs.Char.{IsScalar}
use Rattle.std.specs.Str.{is_utf8}
use Rattle.std.proofs.Math.Utf8.{encode}
use Rattle.std.proofs.lemmas.Bool.{and_from, and_parts}
use Rattle.std.proofs.lemmas.Str.{IsUtf8-encode, is_utf8-from_IsUtf8, IsUtf8-from_is_utf8, lead_after_ascii}
use Rattle.nn_types.specs.Path.{is_name, path_text, IsPath, AreUtf8}

-- so many letters n
abbrev letters : ℕ → List ℕ
letters zero = []
letters (suc n) = 110 ∷ letters n

-- so many names of one letter
abbrev names : ℕ → List (List ℕ)
names zero = []
names (suc n) = letters 1 ∷ names n

-- ---- Names.

names_taken : map is_name (codes "a" ∷ codes "..." ∷ codes ".a" ∷ codes "a b" ∷ letters 255 ∷ []) ≡ true ∷ true ∷ true ∷ true ∷ true ∷ []
names_taken = refl

names_refused : map is_name ([] ∷ codes "." ∷ codes ".." ∷ codes "a/b" ∷ codes "a:b" ∷ letters 256 ∷ []) ≡ false ∷ false ∷ false ∷ false ∷ false ∷ false ∷ []
names_refused = refl

-- ---- Texts.

texts : map path_text ([] ∷ (codes "a" ∷ []) ∷ (codes "a" ∷ codes "b" ∷ []) ∷ []) ≡ codes "/" ∷ codes "/a" ∷ codes "/a/b" ∷ []
texts = refl

-- the second name is the letter é
utf8_names : AreUtf8 (encode 97 ∷ encode 233 ∷ [])
utf8_names = and_from _ _ (letter 97 refl) (and_from _ true (letter 233 refl) refl)
  where
    letter : (c : ℕ) → IsScalar c → is_utf8 (encode c) ≡ true
    letter c scalar = is_utf8-from_IsUtf8 _ (IsUtf8-encode c scalar)

-- the second name is the letter a, and the end of another one
half_a_letter : AreUtf8 (codes "a" ∷ (97 ∷ 169 ∷ []) ∷ []) → ⊥
half_a_letter utf8 =
    let name = (and_parts (is_utf8 (97 ∷ 169 ∷ [])) true (and_parts (is_utf8 (codes "a")) _ utf8).1).0 in
    let lead : 192 ≤ 169 = lead_after_ascii (97 ∷ 169 ∷ []) 0 (IsUtf8-from_is_utf8 _ name) (omega arith) (omega arith) (omega arith) in
    omega (arith, lead)

-- ---- 1000 names and 8000 bytes.

thousand_names : IsPath (names 1000)
thousand_names = record { each = refl; few = lit≤ tt; short = lit≤ tt }

one_name_more : IsPath (names 1001) → ⊥
one_name_more path = let few = path.few in omega (arith, few)

-- 31 names of 255 bytes and one of so many, each with its slash
abbrev long_names : ℕ → List (List ℕ)
long_names rest =
    let n = letters 255 in
    n ∷ n ∷ n ∷ n ∷ n ∷ n ∷ n ∷ n ∷ n ∷ n ∷ n ∷ n ∷ n ∷ n ∷ n ∷ n ∷ n ∷ n ∷ n ∷ n ∷ n ∷ n ∷ n ∷ n ∷ n ∷ n ∷ n ∷ n ∷ n ∷ n ∷ n ∷ letters rest ∷ []

eight_thousand_bytes : IsPath (long_names 63)
eight_thousand_bytes = record { each = refl; few = lit≤ tt; short = lit≤ tt }

one_byte_more : IsPath (long_names 64) → ⊥
one_byte_more path = let short = path.short in omega (arith, short)
