-- An image is read as what it was made of.
use Rattle.std.proofs.Common.{◌≡◌, ℕ, ◌-◌, ◌<◌, ◌^◌, List, [], ◌∷◌, ◌++◌, length, drop, true, eqb, is_some, Some, None, Ok, refl, sym, ap, ◌∙◌, arith, append-nil, append_assoc, subst}
use Rattle.std.specs.List.{slice_split}
use Rattle.std.specs.declared.cmp.Ordering.TheVariants.{Less}
use Rattle.std.proofs.lemmas.Bool.Decides.{Decides-eqb}
use Rattle.std.proofs.lemmas.Bool.{lt-ltb}
use Rattle.std.proofs.lemmas.List.Elements.{All-from_recursion}
use Rattle.std.proofs.lemmas.List.Splits.{slice_split_at, length-slice_split}
use Rattle.serde_json.specs.Data.{Data}
use Rattle.serde_json.specs.Find.{get}
use Rattle.serde_json.specs.Written.{compact_text}
use Rattle.std.specs.FinMap.Entries.{is_sorted}
use Rattle.nn_types.proofs.Utf8Names.{path_text_utf8}
use Rattle.nn_model.specs.declared.form.Form.{Form}
use Rattle.nn_model.specs.declared.form.Form.TheVariants.{Dir, File}
use Rattle.nn_model.specs.Namespace.{Path, path_cmp, Namespace}
use Rattle.nn_image.specs.Reading.{with_rows}
use Rattle.nn_tree.specs.Restore.{bare, row_fits}
use Rattle.nn_model.specs.WellFormed.{Includes, IsWellFormed, HasUtf8Names}
use Rattle.nn_image.proofs.Keeps.{Keeps}
use Rattle.nn_image.proofs.Kept.{keeps, found_row}
use Rattle.nn_image.specs.Text.{value_line, header_data, form_data, row_data, end_data, row_lines, image_text}
use Rattle.nn_image.specs.Reading.{row_of_line, object_of, of_header, ◌then◌, last_path, with_next_row, nothing_more, by_key, by_value, rows_from, pieces_of, all_from, read_image}
use Rattle.nn_types.specs.declared.profile.Profile.{Profile}
use Rattle.nn_types.specs.declared.profile.Profile.TheVariants.{One}
use Rattle.nn_model.specs.Laws.{in_profile}
use Rattle.nn_image.specs.OldText.{old_header_data, old_image_text}
use Rattle.nn_image.specs.Lawful.{HasPaths, IsCountable, IsReadBack, ReadsOldBack}
use Rattle.nn_image.proofs.Json.{IsPlain, no_feed_compact}
use Rattle.nn_image.proofs.Shapes.{IsShortForm, form_plain, row_read, row_object, end_plain, end_object, header_plain, header_object, header_read, old_header_plain, old_header_object, old_header_read}
use Rattle.nn_image.proofs.Rows.{Rows, T_of, root_first, has_mid, last_less, parent_less, short_awaiting, short_form, mid_sorted, fits_here}
use Rattle.std.specs.Prelude.{codes}
use Rattle.nn_bytes.specs.Lines.{line_feed}

-- ---- lines

pub piece_line : (d : Data) (rest : List ℕ) → IsPlain d → pieces_of (value_line d ++ rest) ≡ compact_text d ∷ pieces_of rest
unfolding pieces_of
piece_line d rest plain =
    ap (slice_split (λ b. eqb b line_feed)) (append_assoc (compact_text d) (line_feed ∷ []) rest)
    ∙ slice_split_at (λ b. eqb b line_feed) (compact_text d) line_feed rest (All-from_recursion _ _ (no_feed_compact d plain)) refl

-- a text has a piece
pub some_piece : (text : List ℕ) → pieces_of text ≡ [] → ⊥
unfolding pieces_of
some_piece text e = omega (arith, length-slice_split (λ b. eqb b line_feed) text, ap length e)

pub rows_turn : (n : Namespace) (line : List ℕ) (pieces : List (List ℕ)) → (pieces ≡ [] → ⊥)
    → rows_from n (line ∷ pieces) ≡ by_value n pieces (λ m. rows_from m pieces) (object_of line)
unfolding rows_from
rows_turn n line [] some = absurd (some refl)
rows_turn n line (next ∷ pieces) some = refl

pub all_turn : (line : List ℕ) (pieces : List (List ℕ)) → (pieces ≡ [] → ⊥)
    → all_from (line ∷ pieces) ≡ of_header (object_of line) then (λ head. rows_from head.0 pieces then (λ n. Ok (n, head.1)))
unfolding all_from
all_turn line [] some = absurd (some refl)
all_turn line (next ∷ pieces) some = refl

line_turn : (n : Namespace) (d : Data) (rest : List ℕ) → IsPlain d → object_of (compact_text d) ≡ Some d
    → rows_from n (pieces_of (value_line d ++ rest)) ≡ by_key n d (pieces_of rest) (λ m. rows_from m (pieces_of rest)) (get (codes "end") d)
line_turn n d rest plain is =
    ap (rows_from n) (piece_line d rest plain) ∙ rows_turn n (compact_text d) (pieces_of rest) (some_piece rest)
    ∙ ap (by_value n (pieces_of rest) (λ m. rows_from m (pieces_of rest))) is

no_end : (p : Path) (form : Form) → get (codes "end") (form_data p form) ≡ None
unfolding form_data
no_end p Dir = refl
no_end p (File file) = refl

nothing_after : (n : Namespace) → nothing_more n (pieces_of []) ≡ Ok n
unfolding pieces_of
nothing_after n = refl

same_test : (a : ℕ) → eqb a a ≡ true
same_test a = (Decides-eqb a a).1 refl

module _ (n : Namespace) (w : Keeps n) (utf8 : HasUtf8Names n) (paths : HasPaths n) (counted : IsCountable n) where
  abbrev the_end : Data
  the_end = end_data (length n.rows - 1)

  short_count : length n.rows - 1 < 2 ^ 63
  short_count = omega (arith, counted)

  ends : rows_from n (pieces_of (value_line the_end)) ≡ Ok n
  unfolding end_data
  ends =
      ap (λ text. rows_from n (pieces_of text)) (sym (append-nil (value_line the_end)))
      ∙ line_turn n the_end [] (end_plain _ short_count) (end_object _ short_count)
      ∙ rw (lt-ltb _ _ short_count, same_test (length n.rows - 1)) (nothing_after n)

  -- the lines of the rows that are left, and the end line
  rows_read : (rest : Rows) (first : Path × Form) (before : Rows) → n.rows ≡ (first ∷ before) ++ rest
      → rows_from (with_rows n (first ∷ before)) (pieces_of (row_lines rest ++ value_line the_end)) ≡ Ok n
  rows_read [] first before same =
      let all : n.rows ≡ first ∷ before = same ∙ append-nil (first ∷ before) in
      subst (λ rows. rows_from (with_rows n rows) (pieces_of (value_line the_end)) ≡ Ok n) all ends
  rows_read (row ∷ rest) first before same =
      let m = with_rows n (first ∷ before) in
      let left = row_lines rest ++ value_line the_end in
      let here : Includes n.rows row = subst (λ rows. Includes rows row) (sym same) (has_mid (first ∷ before) row rest) in
      let path = paths row here in
      let text = path_text_utf8 row.0 (utf8 row.0 (ap is_some (found_row n.rows row (T_of (is_sorted path_cmp n.rows) w.in_order) here))) in
      let short : IsShortForm row.1 = short_form n w (first ∷ before) row rest same in
      let less : path_cmp (last_path (first ∷ before)) row.0 ≡ Less = last_less first before row rest (mid_sorted n w (first ∷ before) row rest same) in
      let fits : row_fits m row.0 row.1 ≡ true = fits_here n w (first ∷ before) row rest same (parent_less _ row.0 less) in
      let read : row_of_line (row_data row) ≡ Some row = row_read row.0 row.1 path short in
      let accepted : with_next_row m (row_of_line (row_data row)) ≡ Ok (with_rows n ((first ∷ before) ++ row ∷ [])) = ap (with_next_row m) read ∙ rw (less, fits) refl in
      ap (λ text. rows_from m (pieces_of text)) (append_assoc (value_line (row_data row)) (row_lines rest) (value_line the_end))
      ∙ line_turn m (row_data row) left (form_plain row.0 row.1 text short) (row_object row.0 row.1 text short)
      ∙ ap (by_key m (row_data row) (pieces_of left) (λ m. rows_from m (pieces_of left))) (no_end row.0 row.1)
      ∙ ap (λ r. r then (λ m. rows_from m (pieces_of left))) accepted
      ∙ rows_read rest first (before ++ row ∷ []) (same ∙ sym (append_assoc (first ∷ before) (row ∷ []) rest))

  -- a header that says the namespace's numbers, and then its lines
  pub text_read : (head : Data) (txid : ℕ) → IsPlain head → of_header (object_of (compact_text head)) ≡ Ok (bare n.issued, txid)
      → read_image (value_line head ++ (row_lines (drop 1 n.rows) ++ value_line the_end)) ≡ Ok (n, txid)
  unfolding read_image
  text_read head txid plain found =
      let root = root_first n.rows (T_of (is_sorted path_cmp n.rows) w.in_order) w.root in
      let left = row_lines (drop 1 n.rows) ++ value_line the_end in
      let below : drop 1 n.rows ≡ root.0 = ap (drop 1) root.1 in
      let rows : rows_from (bare n.issued) (pieces_of left) ≡ Ok n =
      ap (λ rs. rows_from (bare n.issued) (pieces_of (row_lines rs ++ value_line the_end))) below
      ∙ rows_read root.0 ([], Dir) [] root.1 in
      ap all_from (piece_line head left plain) ∙ all_turn (compact_text head) (pieces_of left) (some_piece left)
      ∙ ap (λ r. r then (λ h. rows_from h.0 (pieces_of left) then (λ m. Ok (m, h.1)))) found
      ∙ ap (λ r. r then (λ m. Ok (m, txid))) rows

pub reads_back : (n : Namespace) (txid : ℕ) → IsWellFormed n → HasUtf8Names n → HasPaths n → IsCountable n → txid < 2 ^ 63 → read_image (image_text n txid) ≡ Ok (n, txid)
unfolding image_text
reads_back n txid well utf8 paths counted small =
    let w = keeps n well in
    let awaiting = short_awaiting n w in
    let is : object_of (compact_text (header_data n txid)) ≡ Some (header_data n txid) = header_object n txid awaiting w.last_block_to w.last_stamp_to small in
    text_read n w utf8 paths counted (header_data n txid) txid (header_plain n txid awaiting w.last_block_to w.last_stamp_to small)
    (ap of_header is ∙ header_read n txid awaiting w.last_block_to w.last_stamp_to small w.awaiting w.last_block_from w.last_stamp_from)

-- what the name says, where the types see to all but the limits of paths
pub is_read_back : (n : Namespace) (txid : ℕ) → IsWellFormed n → HasUtf8Names n → txid < 2 ^ 63 → IsReadBack n txid
is_read_back n txid well utf8 small paths counted = reads_back n txid well utf8 paths counted small

-- ---- the text of version 1

-- what is used of a namespace does not speak of its profile
keeps_in : (profile : Profile) (n : Namespace) → Keeps n → Keeps (in_profile profile n)
keeps_in profile n w = record {
  in_order = w.in_order;
  root = w.root;
  parents = w.parents;
  replications = w.replications;
  last_block_from = w.last_block_from;
  last_block_to = w.last_block_to;
  last_stamp_from = w.last_stamp_from;
  last_stamp_to = w.last_stamp_to;
  awaiting = w.awaiting;
  issued = w.issued;
  once = w.once;
  lengths = w.lengths;
}

pub reads_old_back : ReadsOldBack
unfolding old_image_text
reads_old_back n txid well utf8 paths counted small =
    let w = keeps n well in
    let awaiting = short_awaiting n w in
    let is : object_of (compact_text (old_header_data n txid)) ≡ Some (old_header_data n txid) = old_header_object n txid awaiting w.last_block_to w.last_stamp_to small in
    text_read (in_profile One n) (keeps_in One n w) utf8 paths counted (old_header_data n txid) txid (old_header_plain n txid awaiting w.last_block_to w.last_stamp_to small)
    (ap of_header is ∙ old_header_read n txid awaiting w.last_block_to w.last_stamp_to small w.awaiting w.last_block_from w.last_stamp_from)
