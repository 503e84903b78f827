-- The lines of paths, computed.
use Rattle.std.specs.Prelude.{◌≡◌, true, false, [], ◌∷◌, ◌++◌, map, codes, refl}
use Rattle.std.specs.Fmt.{digits}
use Rattle.json.specs.Print.{escape_byte}
use Rattle.nn_bytes.specs.Lines.{line_feed}
use Rattle.nn_types.specs.declared.profile.Profile.TheVariants.{One}
use Rattle.nn_model.specs.declared.form.Form.TheVariants.{Dir, File}
use Rattle.nn_model.specs.Namespace.{Namespace}
use Rattle.nn_listing.specs.Listing.{path_json, path_line, listing_text}

-- quotes, backslashes and what lies below a blank are escaped; all else is left as it is, U+007F and U+00E9 too
paths : map path_json ([] ∷ (codes "a" ∷ codes "b c" ∷ []) ∷ (codes "\"\\" ∷ []) ∷ ((8 ∷ 9 ∷ 10 ∷ 12 ∷ 13 ∷ 1 ∷ 31 ∷ []) ∷ []) ∷ ((127 ∷ 195 ∷ 169 ∷ []) ∷ []) ∷ [])
    ≡ codes "\"/\"" ∷ codes "\"/a/b c\"" ∷ codes "\"/\\\"\\\\\"" ∷ codes "\"/\\b\\t\\n\\f\\r\\u0001\\u001f\"" ∷ (codes "\"/" ++ 127 ∷ 195 ∷ 169 ∷ codes "\"") ∷ []
unfolding escape_byte
paths = refl

directory : path_line (codes "a" ∷ []) Dir ≡ codes "dir \"/a\"" ++ line_feed ∷ []
unfolding escape_byte
directory = refl

file_without_blocks : path_line (codes "f" ∷ []) (File (record { replication = 512; closed = false; blocks = [] }))
    ≡ codes "file \"/f\" 512 open" ++ line_feed ∷ []
unfolding escape_byte digits
file_without_blocks = refl

file_of_two_blocks : path_line (codes "f" ∷ []) (File (record {
  replication = 3;
  closed = true;
  blocks = record { id = 1073741826; stamp = 1002; len = 0 } ∷ record { id = 1073741825; stamp = 1001; len = 5 } ∷ [];
})) ≡ codes "file \"/f\" 3 closed 1073741826:1002:0 1073741825:1001:5" ++ line_feed ∷ []
unfolding escape_byte digits
file_of_two_blocks = refl

abbrev of_two : Namespace
of_two = record { rows = ([], Dir) ∷ (codes "a" ∷ [], Dir) ∷ []; issued = record { last_block = 1073741824; last_stamp = 1000; awaiting = []; profile = One } }

-- the last transaction first, then each path
whole : listing_text 9 of_two ≡ codes "txid 9" ++ line_feed ∷ codes "dir \"/\"" ++ line_feed ∷ codes "dir \"/a\"" ++ line_feed ∷ []
unfolding escape_byte digits
whole = refl
