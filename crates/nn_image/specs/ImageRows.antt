-- What each rule of an image makes of a namespace's next line, and the text of two images.
use Rattle.std.specs.Fmt.{digits}
use Rattle.std.specs.Prelude.{◌≡◌, ℕ, true, List, [], ◌∷◌, map, Some, None, Ok, Err, codes, refl}
use Rattle.serde_json.specs.Data.{Data, number, unsigned, string, boolean, array, object, no_items, item, no_members, member, null}
use Rattle.nn_types.specs.declared.profile.Profile.TheVariants.{One, Two}
use Rattle.nn_model.specs.declared.form.Form.TheVariants.{Dir, File}
use Rattle.nn_model.specs.Namespace.{Namespace, with_row}
use Rattle.nn_model.specs.Laws.{in_profile}
use Rattle.nn_tree.specs.Restore.{bare}
use Rattle.json.specs.Print.{escape_byte}
use Rattle.serde_json.specs.Written.{compact_text}
use Rattle.nn_image.specs.Text.{header_data, head_data}
use Rattle.nn_image.specs.OldText.{old_header_data}
use Rattle.nn_image.specs.declared.fault.ImageFault.TheVariants.{NotHeader, BadLine, WrongOrder, CountMismatch, Truncated, BadVersion}
use Rattle.nn_image.specs.Reading.{number_under, text_under, flag_under, array_under, path_under, block_of, gathered, blocks_at, numbers_at, replication_value, file_in, form_by_kind, form_in, row_of_line, header_profile, fields_in, of_header, with_next_row, at_end_line}

abbrev a : List ℕ
a = codes "a"

abbrev b : List ℕ
b = codes "b"

abbrev start : Namespace
start = bare (record { last_block = 1073741830; last_stamp = 1005; awaiting = 1073741826 ∷ []; profile = One })

abbrev one : Namespace
one = with_row start (b ∷ []) Dir

abbrev numeral : ℕ → Data
numeral n = number (unsigned n)

-- ---- the next path

-- the order is asked for before the parent, and the line is told
next : map (λ p. with_next_row one (Some (p, Dir))) ([] ∷ (a ∷ []) ∷ (b ∷ []) ∷ (a ∷ a ∷ []) ∷ (b ∷ a ∷ b ∷ []) ∷ [])
    ≡ Err (WrongOrder 3) ∷ Err (WrongOrder 3) ∷ Err (WrongOrder 3) ∷ Err (WrongOrder 3) ∷ Err (BadLine 3) ∷ []
next = refl

added : with_next_row one (Some (b ∷ a ∷ [], Dir)) ≡ Ok (with_row one (b ∷ a ∷ []) Dir)
added = refl

no_row : map (λ n. with_next_row n None) (start ∷ one ∷ []) ≡ Err (BadLine 2) ∷ Err (BadLine 3) ∷ []
no_row = refl

-- ---- the end line, and what follows it

counts : map (λ count. at_end_line one count ([] ∷ [])) (None ∷ Some 0 ∷ Some 1 ∷ Some 2 ∷ []) ≡ Err (BadLine 3) ∷ Err CountMismatch ∷ Ok one ∷ Err CountMismatch ∷ []
counts = refl

after_it : map (at_end_line one (Some 1)) (([] ∷ []) ∷ (a ∷ []) ∷ ([] ∷ [] ∷ []) ∷ (a ∷ a ∷ []) ∷ []) ≡ Ok one ∷ Err Truncated ∷ Err (BadLine 4) ∷ Err (BadLine 4) ∷ []
after_it = refl

-- the count is asked for first
count_first : at_end_line one (Some 2) (a ∷ []) ≡ Err CountMismatch
count_first = refl

-- ---- headers

abbrev header : List ℕ → ℕ → ℕ → ℕ → Data
header mark last_block last_stamp version =
    object (member (codes "image") (string mark) (member (codes "version") (numeral version) (member (codes "last_gen") (numeral last_stamp)
    (member (codes "last_block") (numeral last_block) (member (codes "end") null (member (codes "txid") (numeral 4)
    (member (codes "awaiting") (array (item (numeral 1073741826) no_items)) no_members)))))))

a_header : of_header (Some (header (codes "hdfs-standby") 1073741830 1005 1)) ≡ Ok (start, 4)
unfolding fields_in header_profile number_under text_under numbers_at array_under gathered
a_header = refl

no_headers : map of_header (None ∷ Some (object no_members) ∷ Some (header (codes "hdfs") 1073741830 1005 1) ∷ Some (header (codes "hdfs-standby") 1073741825 1005 1) ∷ Some (header (codes "hdfs-standby") 1073741830 999 1) ∷ [])
    ≡ Err NotHeader ∷ Err NotHeader ∷ Err NotHeader ∷ Err NotHeader ∷ Err NotHeader ∷ []
unfolding fields_in header_profile number_under text_under numbers_at array_under gathered
no_headers = refl

-- the version is asked for first
versions : map (λ v. of_header (Some (object (member (codes "version") v no_members)))) (numeral 3 ∷ numeral 0 ∷ numeral 1 ∷ string (codes "2") ∷ numeral 9223372036854775808 ∷ [])
    ≡ Err BadVersion ∷ Err BadVersion ∷ Err NotHeader ∷ Err NotHeader ∷ Err NotHeader ∷ []
unfolding fields_in header_profile number_under text_under numbers_at array_under gathered
versions = refl

-- version 1 has no profile, whatever is there, and version 2 has one of two
abbrev with_profile : ℕ → Data → Data
with_profile version profile =
    object (member (codes "image") (string (codes "hdfs-standby")) (member (codes "version") (numeral version) (member (codes "last_gen") (numeral 1005)
    (member (codes "profile") profile (member (codes "last_block") (numeral 1073741830) (member (codes "txid") (numeral 4)
    (member (codes "awaiting") (array (item (numeral 1073741826) no_items)) no_members)))))))

profiles : map (λ p. of_header (Some (with_profile 2 p))) (numeral 1 ∷ numeral 2 ∷ numeral 0 ∷ numeral 3 ∷ string (codes "2") ∷ null ∷ [])
    ≡ Ok (start, 4) ∷ Ok (in_profile Two start, 4) ∷ Err NotHeader ∷ Err NotHeader ∷ Err NotHeader ∷ Err NotHeader ∷ []
unfolding fields_in header_profile number_under text_under numbers_at array_under gathered
profiles = refl

no_profile : of_header (Some (header (codes "hdfs-standby") 1073741830 1005 2)) ≡ Err NotHeader
unfolding fields_in header_profile number_under text_under numbers_at array_under gathered
no_profile = refl

old_profiles : map (λ p. of_header (Some (with_profile 1 p))) (numeral 2 ∷ string (codes "x") ∷ []) ≡ Ok (start, 4) ∷ Ok (start, 4) ∷ []
unfolding fields_in header_profile number_under text_under numbers_at array_under gathered
old_profiles = refl

-- ---- headers as they are written

abbrev high : Namespace
high = in_profile Two (bare (record { last_block = 1073741825; last_stamp = 1001; awaiting = 1073741825 ∷ []; profile = One }))

written : compact_text (header_data high 4) ≡ codes "{\"awaiting\":[1073741825],\"image\":\"hdfs-standby\",\"last_block\":1073741825,\"last_gen\":1001,\"profile\":2,\"txid\":4,\"version\":2}"
unfolding head_data digits escape_byte
written = refl

written_of_old : compact_text (old_header_data high 4) ≡ codes "{\"awaiting\":[1073741825],\"image\":\"hdfs-standby\",\"last_block\":1073741825,\"last_gen\":1001,\"txid\":4,\"version\":1}"
unfolding old_header_data digits escape_byte
written_of_old = refl

-- ---- lines of paths

abbrev dir_line : List ℕ → Data
dir_line path = object (member (codes "type") (string (codes "dir")) (member (codes "zz") null (member (codes "path") (string path) no_members)))

dirs : map (λ path. row_of_line (dir_line path)) (codes "/" ∷ codes "/a/b" ∷ codes "a" ∷ codes "/a/" ∷ codes "/.." ∷ []) ≡ Some ([], Dir) ∷ Some (a ∷ b ∷ [], Dir) ∷ None ∷ None ∷ None ∷ []
unfolding row_of_line path_under text_under form_in form_by_kind
dirs = refl

abbrev file_line : List ℕ → Data → ℕ → Data → Data
file_line kind closed replication blocks =
    object (member (codes "blocks") blocks (member (codes "closed") closed (member (codes "path") (string (codes "/a")) (member (codes "replication") (numeral replication)
    (member (codes "type") (string kind) no_members)))))

abbrev one_block : Data
one_block = array (item (object (member (codes "len") (numeral 5) (member (codes "id") (numeral 1) (member (codes "gen") (numeral 2) no_members)))) no_items)

a_file : row_of_line (file_line (codes "file") (boolean true) 3 one_block) ≡ Some (a ∷ [], File (record { replication = 3; closed = true; blocks = record { id = 1; stamp = 2; len = 5 } ∷ [] }))
unfolding row_of_line path_under text_under form_in form_by_kind file_in flag_under array_under blocks_at replication_value number_under block_of gathered
a_file = refl

no_files : map row_of_line (file_line (codes "files") (boolean true) 3 one_block ∷ file_line (codes "file") null 3 one_block ∷ file_line (codes "file") (boolean true) 0 one_block
    ∷ file_line (codes "file") (boolean true) 513 one_block ∷ file_line (codes "file") (boolean true) 3 null ∷ file_line (codes "file") (boolean true) 3 (array (item null no_items)) ∷ [])
    ≡ None ∷ None ∷ None ∷ None ∷ None ∷ None ∷ []
unfolding row_of_line path_under text_under form_in form_by_kind file_in flag_under array_under blocks_at replication_value number_under block_of gathered
no_files = refl
