-- The values of an image's lines: what they are made of, and that their text stands for what they were made of.
use Rattle.std.proofs.Common.{◌≡◌, ℕ, ◌≤◌, ◌<◌, ◌^◌, List, [], ◌∷◌, true, cond, Some, None, Ok, is_some, lit<, codes, refl, ap, arith, lit≤, max}
use Rattle.std.specs.Str.{IsUtf8}
use Rattle.std.proofs.lemmas.Bool.{lt-ltb, le-leb}
use Rattle.std.proofs.lemmas.Str.{is_utf8-from_IsUtf8}
use Rattle.json.specs.Tree as tree
use Rattle.json.proofs.Printed.Utf8.{IsUtf8-are_ascii}
use Rattle.serde_json.specs.Read.{max_depth, of_json, of_items}
use Rattle.serde_json.specs.Written.{outline, items_outline, compact_text}
use Rattle.serde_json.specs.Find.{as_object}
use Rattle.serde_json.proofs.Numbers.{number_of-decimal}
use Rattle.nn_types.specs.Profile.{profile_number, profile_of}
use Rattle.nn_types.specs.declared.profile.Profile.{Profile}
use Rattle.nn_types.specs.declared.profile.Profile.TheVariants.{One, Two}
use Rattle.nn_types.specs.Path.{IsPath, path_text}
use Rattle.nn_types.proofs.Paths.{path_of_path_text}
use Rattle.nn_types.specs.declared.block.Block.{Block}
use Rattle.nn_model.specs.declared.form.Form.{Form}
use Rattle.nn_model.specs.declared.form.Form.TheVariants.{Dir, File}
use Rattle.nn_model.specs.Namespace.{Path, Namespace}
use Rattle.nn_tree.specs.Restore.{bare, awaiting_fits, replication_fits}
use Rattle.nn_model.specs.Laws.{in_profile}
use Rattle.nn_image.specs.Text.{block_value, block_items, number_items, head_data, header_data, form_data, end_data}
use Rattle.nn_image.specs.OldText.{old_header_data}
use Rattle.nn_image.specs.Reading.{◌>>=◌, whole_value, number_under, text_under, flag_under, array_under, path_under, block_of, gathered, blocks_at, numbers_at, replication_value, file_in, form_by_kind, form_in, row_of_line, header_profile, fields_in, object_of, value_of_line, limited, of_version}
use Rattle.nn_image.proofs.Json.{IsPlain, ItemsArePlain, read_compact, utf8_compact}

-- ---- numbers

wider : (n : ℕ) → n < 2 ^ 63 → n < 2 ^ 64
wider n h = omega arith

limited_ok : (n : ℕ) → n < 2 ^ 63 → limited (Some n) ≡ Some n
limited_ok n h = rw (lt-ltb n (2 ^ 63) h)

-- each number of the list is below 2^63
abbrev pub AreShort : List ℕ → Type 0
AreShort [] = Unit {0}
AreShort (n ∷ ns) = (n < 2 ^ 63) × AreShort ns

abbrev pub IsShortBlock : Block → Type 0
IsShortBlock b = (b.id < 2 ^ 63) × (b.stamp < 2 ^ 63) × (b.len < 2 ^ 63)

abbrev pub AreShortBlocks : List Block → Type 0
AreShortBlocks [] = Unit {0}
AreShortBlocks (b ∷ bs) = IsShortBlock b × AreShortBlocks bs

numbers_plain : (ns : List ℕ) → AreShort ns → ItemsArePlain (number_items ns)
numbers_plain [] h = tt
numbers_plain (n ∷ ns) h = (wider n h.0, numbers_plain ns h.1)

numbers_deep : (ns : List ℕ) → tree.items_depth (items_outline (number_items ns)) ≡ 0
numbers_deep [] = refl
numbers_deep (n ∷ ns) = ap (max 0) (numbers_deep ns)

numbers_same : (ns : List ℕ) → AreShort ns → of_items (items_outline (number_items ns)) ≡ Some (number_items ns)
numbers_same [] h = refl
numbers_same (n ∷ ns) h = rw (number_of-decimal n (wider n h.0), numbers_same ns h.1) refl

numbers_read : (ns : List ℕ) → AreShort ns → gathered whole_value (number_items ns) ≡ Some ns
unfolding gathered
numbers_read [] h = refl
numbers_read (n ∷ ns) h = rw (limited_ok n h.0, numbers_read ns h.1) refl

-- ---- blocks

key_utf8 : IsUtf8 (codes "gen")
key_utf8 = IsUtf8-are_ascii _ refl

block_plain : (b : Block) → IsShortBlock b → IsPlain (block_value b)
block_plain b h =
    (IsUtf8-are_ascii _ refl, wider b.stamp h.1, (IsUtf8-are_ascii _ refl, wider b.id h.0, (IsUtf8-are_ascii _ refl, wider b.len h.2, tt)))

blocks_plain : (bs : List Block) → AreShortBlocks bs → ItemsArePlain (block_items bs)
blocks_plain [] h = tt
blocks_plain (b ∷ bs) h = (block_plain b h.0, blocks_plain bs h.1)

blocks_deep : (bs : List Block) → tree.items_depth (items_outline (block_items bs)) ≤ 1
blocks_deep [] = lit≤ tt
blocks_deep (b ∷ bs) = omega (arith, blocks_deep bs)

block_same : (b : Block) → IsShortBlock b → of_json (outline (block_value b)) ≡ Some (block_value b)
block_same b h = rw (number_of-decimal b.stamp (wider b.stamp h.1), number_of-decimal b.id (wider b.id h.0), number_of-decimal b.len (wider b.len h.2)) refl

blocks_same : (bs : List Block) → AreShortBlocks bs → of_items (items_outline (block_items bs)) ≡ Some (block_items bs)
blocks_same [] h = refl
blocks_same (b ∷ bs) h = rw (block_same b h.0, blocks_same bs h.1) refl

block_read : (b : Block) → IsShortBlock b → block_of (block_value b) ≡ Some b
unfolding block_of number_under
block_read b h = rw (limited_ok b.id h.0, limited_ok b.stamp h.1, limited_ok b.len h.2) refl

blocks_read : (bs : List Block) → AreShortBlocks bs → gathered block_of (block_items bs) ≡ Some bs
unfolding gathered
blocks_read [] h = refl
blocks_read (b ∷ bs) h = rw (block_read b h.0, blocks_read bs h.1) refl

-- ---- path lines

abbrev pub IsShortForm : Form → Type 0
IsShortForm Dir = Unit {0}
IsShortForm (File file) = AreShortBlocks file.blocks × (replication_fits file.replication ≡ true) × (file.replication < 2 ^ 63)

pub form_plain : (p : Path) (form : Form) → IsUtf8 (path_text p) → IsShortForm form → IsPlain (form_data p form)
unfolding form_data
form_plain p Dir text h = (IsUtf8-are_ascii _ refl, text, (IsUtf8-are_ascii _ refl, IsUtf8-are_ascii _ refl, tt))
form_plain p (File file) text h = (
  IsUtf8-are_ascii _ refl,
  blocks_plain file.blocks h.0,
  (IsUtf8-are_ascii _ refl, tt, (IsUtf8-are_ascii _ refl, text, (IsUtf8-are_ascii _ refl, wider file.replication h.2, (IsUtf8-are_ascii _ refl, IsUtf8-are_ascii _ refl, tt)))),
)

form_deep : (p : Path) (form : Form) → tree.depth (outline (form_data p form)) ≤ max_depth
unfolding form_data
form_deep p Dir = lit≤ tt
form_deep p (File file) = omega (arith, blocks_deep file.blocks)

form_same : (p : Path) (form : Form) → IsShortForm form → of_json (outline (form_data p form)) ≡ Some (form_data p form)
unfolding form_data
form_same p Dir h = refl
form_same p (File file) h = rw (blocks_same file.blocks h.0, number_of-decimal file.replication (wider file.replication h.2)) refl

pub row_read : (p : Path) (form : Form) → IsPath p → IsShortForm form → row_of_line (form_data p form) ≡ Some (p, form)
unfolding form_data row_of_line path_under text_under form_in form_by_kind file_in flag_under array_under blocks_at replication_value number_under
row_read p Dir path h = rw (path_of_path_text p path) refl
row_read p (File file) path h = rw (path_of_path_text p path, blocks_read file.blocks h.0, limited_ok file.replication h.2, h.1) refl

row_is_object : (p : Path) (form : Form) → (Some (form_data p form) >>= λ d. cond (is_some (as_object d)) (Some d) None) ≡ Some (form_data p form)
unfolding form_data
row_is_object p Dir = refl
row_is_object p (File file) = refl

pub row_object : (p : Path) (form : Form) → IsUtf8 (path_text p) → IsShortForm form → object_of (compact_text (form_data p form)) ≡ Some (form_data p form)
unfolding object_of value_of_line
row_object p form text h =
    let plain = form_plain p form text h in
    rw (is_utf8-from_IsUtf8 _ (utf8_compact (form_data p form) plain), read_compact (form_data p form) plain (form_deep p form) (form_same p form h)) (row_is_object p form)

-- ---- the end line

pub end_plain : (count : ℕ) → count < 2 ^ 63 → IsPlain (end_data count)
unfolding end_data
end_plain count h = (IsUtf8-are_ascii _ refl, wider count h, tt)

pub end_object : (count : ℕ) → count < 2 ^ 63 → object_of (compact_text (end_data count)) ≡ Some (end_data count)
unfolding object_of value_of_line end_data
end_object count h =
    let plain = end_plain count h in
    let same : of_json (outline (end_data count)) ≡ Some (end_data count) = rw (number_of-decimal count (wider count h)) refl in
    rw (is_utf8-from_IsUtf8 _ (utf8_compact (end_data count) plain), read_compact (end_data count) plain (lit≤ tt) same) refl

-- ---- the header

profile_small : (p : Profile) → profile_number p < 2 ^ 64
profile_small One = lit< tt
profile_small Two = lit< tt

profile_read : (p : Profile) → (limited (Some (profile_number p)) >>= profile_of) ≡ Some p
profile_read One = refl
profile_read Two = refl

module _ (n : Namespace) (txid : ℕ) (awaiting : AreShort n.issued.awaiting) (block : n.issued.last_block < 2 ^ 63) (stamp : n.issued.last_stamp < 2 ^ 63) (number : txid < 2 ^ 63) where
  pub header_plain : IsPlain (header_data n txid)
  unfolding head_data
  header_plain = (
    IsUtf8-are_ascii _ refl,
    numbers_plain n.issued.awaiting awaiting,
    (
      IsUtf8-are_ascii _ refl,
      IsUtf8-are_ascii _ refl,
      (
        IsUtf8-are_ascii _ refl,
        wider n.issued.last_block block,
        (
          IsUtf8-are_ascii _ refl,
          wider n.issued.last_stamp stamp,
          (
            IsUtf8-are_ascii _ refl,
            profile_small n.issued.profile,
            (
              IsUtf8-are_ascii _ refl,
              wider txid number,
              (IsUtf8-are_ascii _ refl, lit< tt, tt),
            ),
          ),
        ),
      ),
    ),
  )

  header_deep : tree.depth (outline (header_data n txid)) ≤ max_depth
  unfolding head_data
  header_deep = omega (arith, numbers_deep n.issued.awaiting)

  header_same : of_json (outline (header_data n txid)) ≡ Some (header_data n txid)
  unfolding head_data
  header_same =
      rw (numbers_same n.issued.awaiting awaiting, number_of-decimal n.issued.last_block (wider n.issued.last_block block), number_of-decimal n.issued.last_stamp (wider n.issued.last_stamp stamp), number_of-decimal (profile_number n.issued.profile) (profile_small n.issued.profile), number_of-decimal txid (wider txid number), number_of-decimal 2 (lit< tt)) refl

  header_is_object : (Some (header_data n txid) >>= λ d. cond (is_some (as_object d)) (Some d) None) ≡ Some (header_data n txid)
  unfolding head_data
  header_is_object = refl

  pub header_object : object_of (compact_text (header_data n txid)) ≡ Some (header_data n txid)
  unfolding object_of value_of_line
  header_object =
      rw (is_utf8-from_IsUtf8 _ (utf8_compact (header_data n txid) header_plain), read_compact (header_data n txid) header_plain header_deep header_same) header_is_object

  pub header_read : awaiting_fits n.issued.last_block n.issued.awaiting ≡ true → 1073741824 ≤ n.issued.last_block → 1000 ≤ n.issued.last_stamp
      → of_version (header_data n txid) (number_under (codes "version") (header_data n txid)) ≡ Ok (bare n.issued, txid)
  unfolding head_data fields_in header_profile number_under text_under numbers_at array_under
  header_read fits low old =
      rw (limited_ok txid number, limited_ok n.issued.last_block block, limited_ok n.issued.last_stamp stamp, numbers_read n.issued.awaiting awaiting, profile_read n.issued.profile, le-leb 1073741824 n.issued.last_block low, le-leb 1000 n.issued.last_stamp old, fits) refl

  -- of version 1
  pub old_header_plain : IsPlain (old_header_data n txid)
  unfolding old_header_data
  old_header_plain = (
    IsUtf8-are_ascii _ refl,
    numbers_plain n.issued.awaiting awaiting,
    (
      IsUtf8-are_ascii _ refl,
      IsUtf8-are_ascii _ refl,
      (
        IsUtf8-are_ascii _ refl,
        wider n.issued.last_block block,
        (
          IsUtf8-are_ascii _ refl,
          wider n.issued.last_stamp stamp,
          (
            IsUtf8-are_ascii _ refl,
            wider txid number,
            (IsUtf8-are_ascii _ refl, lit< tt, tt),
          ),
        ),
      ),
    ),
  )

  old_header_deep : tree.depth (outline (old_header_data n txid)) ≤ max_depth
  unfolding old_header_data
  old_header_deep = omega (arith, numbers_deep n.issued.awaiting)

  old_header_same : of_json (outline (old_header_data n txid)) ≡ Some (old_header_data n txid)
  unfolding old_header_data
  old_header_same =
      rw (numbers_same n.issued.awaiting awaiting, number_of-decimal n.issued.last_block (wider n.issued.last_block block), number_of-decimal n.issued.last_stamp (wider n.issued.last_stamp stamp), number_of-decimal txid (wider txid number), number_of-decimal 1 (lit< tt)) refl

  old_header_is_object : (Some (old_header_data n txid) >>= λ d. cond (is_some (as_object d)) (Some d) None) ≡ Some (old_header_data n txid)
  unfolding old_header_data
  old_header_is_object = refl

  pub old_header_object : object_of (compact_text (old_header_data n txid)) ≡ Some (old_header_data n txid)
  unfolding object_of value_of_line
  old_header_object =
      rw (is_utf8-from_IsUtf8 _ (utf8_compact (old_header_data n txid) old_header_plain), read_compact (old_header_data n txid) old_header_plain old_header_deep old_header_same) old_header_is_object

  pub old_header_read : awaiting_fits n.issued.last_block n.issued.awaiting ≡ true → 1073741824 ≤ n.issued.last_block → 1000 ≤ n.issued.last_stamp
      → of_version (old_header_data n txid) (number_under (codes "version") (old_header_data n txid)) ≡ Ok (bare (in_profile One n).issued, txid)
  unfolding old_header_data fields_in header_profile number_under text_under numbers_at array_under
  old_header_read fits low old =
      rw (limited_ok txid number, limited_ok n.issued.last_block block, limited_ok n.issued.last_stamp stamp, numbers_read n.issued.awaiting awaiting, le-leb 1073741824 n.issued.last_block low, le-leb 1000 n.issued.last_stamp old, fits) refl
