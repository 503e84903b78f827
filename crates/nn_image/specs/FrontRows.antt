-- Inputs that begin with an image, divided.
use Rattle.std.specs.Prelude.{◌≡◌, ℕ, List, [], ◌∷◌, ◌++◌, true, false, map, flat_map, Some, None, codes, refl}
use Rattle.std.specs.Str.{is_utf8, chars}
use Rattle.std.specs.Float.Numeral.{scan_numeral}
use lib.Utf8.{encode}
use Rattle.json.specs.Json.{value}
use Rattle.json.specs.Lex.{punctuate, lex}
use Rattle.json.specs.Text.{content}
use Rattle.json.specs.Word.{word, after_number}
use Rattle.serde_json.specs.Read.{number_of}
use Rattle.nn_bytes.specs.Lines.{line_feed}
use Rattle.nn_image.specs.Reading.{is_end_line, object_of, value_of_line}
use Rattle.nn_image.specs.Front.{divided, passed_over, rest_of}

-- lines, each with its line feed
abbrev lines : List (List ℕ) → List ℕ
lines each = flat_map (λ l. l ++ line_feed ∷ []) each

end_lines : map is_end_line (codes "{\"end\":1}" ∷ codes "{\"x\":0,\"end\":\"y\"}" ∷ codes "{\"path\":\"/end\"}" ∷ codes "[\"end\"]" ∷ codes "\"end\"" ∷ codes "{\"end\":1} 2" ∷ [] ∷ [])
    ≡ true ∷ true ∷ false ∷ false ∷ false ∷ false ∷ false ∷ []
unfolding is_end_line object_of value_of_line is_utf8 chars encode value punctuate lex content word after_number number_of scan_numeral
end_lines = refl

-- the image is at once there
at_once : divided (lines (codes "{}" ∷ codes "{\"end\":1}" ∷ codes "a" ∷ [])) ≡ Some (record { image = lines (codes "{}" ∷ codes "{\"end\":1}" ∷ []); rest = codes "a" ++ line_feed ∷ [] })
unfolding divided is_end_line object_of value_of_line is_utf8 chars encode value punctuate lex content word after_number number_of scan_numeral
at_once = refl

-- where the input begins with `{` no line `image` is looked for
no_mark : divided (lines (codes "{}" ∷ codes "image" ∷ codes "{\"end\":1}" ∷ [])) ≡ Some (record { image = lines (codes "{}" ∷ codes "image" ∷ codes "{\"end\":1}" ∷ []); rest = [] })
unfolding divided is_end_line object_of value_of_line is_utf8 chars encode value punctuate lex content word after_number number_of scan_numeral
no_mark = refl

-- or after the line `image`, and not after one that only begins so
behind_the_line : divided (lines (codes "images" ∷ codes " image" ∷ codes "image" ∷ codes "x" ∷ codes "{\"end\":1}" ∷ codes "image" ∷ []))
    ≡ Some (record { image = lines (codes "x" ∷ codes "{\"end\":1}" ∷ []); rest = codes "image" ++ line_feed ∷ [] })
unfolding divided is_end_line object_of value_of_line is_utf8 chars encode value punctuate lex content word after_number number_of scan_numeral
behind_the_line = refl

-- a header ends no image, and an end line without its line feed ends none
no_end : divided (lines (codes "{\"end\":1}" ∷ codes "{" ∷ []) ++ codes "{\"end\":1}")
    ≡ Some (record { image = lines (codes "{\"end\":1}" ∷ codes "{" ∷ []) ++ codes "{\"end\":1}"; rest = [] })
unfolding divided is_end_line object_of value_of_line is_utf8 chars encode value punctuate lex content word after_number number_of scan_numeral
no_end = refl

-- no image begins
none_begins : map divided ([] ∷ codes "image" ∷ (codes "a" ++ line_feed ∷ codes "{}") ∷ (codes " {}" ++ line_feed ∷ []) ∷ []) ≡ None ∷ None ∷ None ∷ None ∷ []
unfolding divided is_end_line object_of value_of_line is_utf8 chars encode value punctuate lex content word after_number number_of scan_numeral
none_begins = refl

-- nothing follows where no image begins, and else what is behind it
rests : map rest_of (None ∷ Some (record { image = codes "a"; rest = codes "b" }) ∷ []) ≡ [] ∷ codes "b" ∷ []
rests = refl

-- what stands before an image is passed over; all, where none begins
are_passed_over : map passed_over ([] ∷ codes "image" ∷ lines (codes "ab" ∷ codes "image" ∷ codes "{}" ∷ []) ∷ lines (codes "{}" ∷ codes "image" ∷ []) ∷ []) ≡ 0 ∷ 5 ∷ 9 ∷ 0 ∷ []
unfolding passed_over
are_passed_over = refl
