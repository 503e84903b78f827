-- Which values of JSON plain values stand for, and how items and members come together.
use Rattle.std.specs.Prelude.{◌≡◌, [], ◌∷◌, true, false, map, Some, None, codes, refl}
use Rattle.serde_json.specs.Data.{null, boolean, number, string, array, object, unsigned, no_items, item, no_members}
use Rattle.nn_plain.specs.Ahead.{with_last_item, IsArrayIf, IsObjectIf}
use Rattle.nn_plain.specs.Keys.{first_named}
use Rattle.std.specs.Simd.Lanes.{number_l}
use Rattle.nn_bytes.specs.Runs.{is_printable_byte, is_unescaped_byte}
use Rattle.nn_plain.specs.Spelling.{plain_of}
use Rattle.nn_plain.specs.Words.{high_word, value_of_pairs}

-- texts, whole numbers and truth values
plain : map plain_of (string (codes "a") ∷ number (unsigned 5) ∷ boolean true ∷ []) ≡ Some (string (codes "a")) ∷ Some (number (unsigned 5)) ∷ Some (boolean true) ∷ []
plain = refl

-- and no others
other : map plain_of (null ∷ array no_items ∷ object no_members ∷ []) ≡ None ∷ None ∷ None ∷ []
other = refl

-- an item comes behind those that are there
behind : with_last_item (item null (item (boolean true) no_items)) (string []) ≡ item null (item (boolean true) (item (string []) no_items))
behind = refl

-- an empty array is one, and no object
an_array : IsArrayIf true (array no_items) (λ ds. ds ≡ no_items)
an_array = (no_items, refl, refl)

no_object : IsObjectIf true (array no_items) (λ ms. Unit {0}) → ⊥
no_object h = absurd (cc)

-- the first key of a name
first : first_named (λ k. k) (codes "b") (codes "a" ∷ codes "b" ∷ []) ≡ Some (codes "b")
first = refl

no_key : first_named (λ k. k) (codes "c") (codes "a" ∷ codes "b" ∷ []) ≡ None
no_key = refl

-- blanks and quotes need no escape, and no byte of another character; a backslash and a control character do
unescaped : map is_unescaped_byte (31 ∷ 32 ∷ 34 ∷ 91 ∷ 92 ∷ 93 ∷ 127 ∷ 128 ∷ 255 ∷ []) ≡ false ∷ true ∷ true ∷ true ∷ false ∷ true ∷ true ∷ true ∷ true ∷ []
unescaped = refl

-- and of these the ASCII ones without control characters are printable
printable : map is_printable_byte (31 ∷ 32 ∷ 34 ∷ 91 ∷ 92 ∷ 93 ∷ 126 ∷ 127 ∷ []) ≡ false ∷ true ∷ true ∷ true ∷ false ∷ true ∷ true ∷ false ∷ []
printable = refl

-- the first of eight digits stands in the least byte
eight_digits : value_of_pairs (number_l 256 (1 ∷ 2 ∷ 3 ∷ 4 ∷ 5 ∷ 6 ∷ 7 ∷ 8 ∷ [])) ≡ 12345678
eight_digits = refl

-- a short key has zeros before it
high : high_word (codes "id") ≡ number_l 256 (0 ∷ 0 ∷ 0 ∷ 0 ∷ 0 ∷ 0 ∷ codes "id")
high = refl
