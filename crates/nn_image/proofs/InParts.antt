-- An image that is written in parts.
use Rattle.std.proofs.Common.{◌≡◌, ◌⊎◌, inl, inr, ℕ, ◌+◌, ◌-◌, ◌<◌, ◌≤◌, ◌==◌, ◌||◌, Bool, true, false, cond, List, [], ◌∷◌, ◌++◌, length, drop, Option, Some, None, Result, Ok, Err, String, Global, Vec, refl, sym, ap, subst, ◌∙◌, arith, append-nil, append_assoc, length-append, length-drop, ne_eqb}
use Rattle.std.specs.Prelude.{IfErr, IfSome, MatchOption, string_bytes}
use Rattle.std.specs.Result.{IsErrAnd}
use Rattle.std.specs.Ordering.{is_le}
use Rattle.std.specs.FinMap.Entries.{is_sorted}
use Rattle.std.proofs.Math.Seq.{drop-append_seam}
use Rattle.std.proofs.KnownBytes.{Appends-nil}
use Rattle.std.proofs.lemmas.Grind.{flat_map-append}
use Rattle.serde_json.specs.Written.{compact_text}
use Rattle.nn_bytes.specs.Lines.{line_feed}
use Rattle.nn_device.specs.Device.{Writer, Took}
use Rattle.nn_device.specs.Page.{Page, HasGone, HasPut, PutsPiece, TookAllBut}
use Rattle.nn_device.specs.Parts.{TookPrefix}
use Rattle.nn_device.specs.declared.writer.OutputFault.{OutputFault}
use Rattle.nn_device.specs.declared.writer.OutputFault.TheVariants.{WriteFailed, OutOfMemory}
use Rattle.nn_device.proofs.Parts.{prefix_after, prefix_of, took_both}
use Rattle.nn_model.specs.declared.form.Form.{Form}
use Rattle.nn_model.specs.declared.form.Form.TheVariants.{Dir}
use Rattle.nn_model.specs.Namespace.{Path, Namespace, path_cmp}
use Rattle.nn_model.specs.WellFormed.{IsWellFormed}
use Rattle.nn_tree.specs.At.{names_of}
use Rattle.nn_tree.specs.Rows.{rows_from, Resumes as ResumesRows}
use Rattle.nn_image.specs.declared.fault.SaveFault.{SaveFault}
use Rattle.nn_image.specs.declared.saving.parts.Part.{Part}
use Rattle.nn_image.specs.InParts.{Begin, WroteHeader, IsPart, IsRest, IsSaving, IsSavedBy, Place, Resumes, WrotePart, behind_part, fault_of, first_place, last_line, part_at, part_of, paths_from, rest_text}
use Rattle.nn_image.specs.Saving.{WrotePrefix, cause_of}
use Rattle.nn_image.specs.Text.{value_line, header_data, row_data, row_lines, end_data, image_text}
use Rattle.nn_image.proofs.Rows.{Rows, T_of, root_first}

lines_both : (a b : Rows) → row_lines (a ++ b) ≡ row_lines a ++ row_lines b
lines_both a b = flat_map-append (λ (row : Path × Form). value_line (row_data row)) a b

-- ---- The rows of a part.

-- the part, and then what is behind it
part_and_rest : (rows bytes : ℕ) (all : Rows) → all ≡ part_of rows bytes all ++ drop (length (part_of rows bytes all)) all
part_and_rest rows bytes [] = refl
part_and_rest rows bytes (row ∷ more) =
    let part = part_of (rows - 1) (bytes - length (value_line (row_data row))) more in
    elim (rows == 0 || bytes == 0) as (λ b. row ∷ more ≡ cond b [] (row ∷ part) ++ drop (length (cond b [] (row ∷ part))) (row ∷ more)) [
      | true ↦ refl
      | false ↦ ap (λ r. row ∷ r) (part_and_rest (rows - 1) (bytes - length (value_line (row_data row))) more)
    ]

none_of_a_full_part : (rows bytes : ℕ) (all : Rows) → (rows == 0 || bytes == 0) ≡ true → part_of rows bytes all ≡ []
none_of_a_full_part rows bytes [] full = refl
none_of_a_full_part rows bytes (row ∷ more) full = ap (λ b. cond b [] (row ∷ part_of (rows - 1) (bytes - length (value_line (row_data row))) more)) full

-- ---- The rows from a path on.

from_root : (rows : Rows) → rows_from [] rows ≡ rows
from_root [] = refl
from_root (([], form) ∷ rows) = ap (λ r. ([], form) ∷ r) (from_root rows)
from_root ((name ∷ p, form) ∷ rows) = ap (λ r. (name ∷ p, form) ∷ r) (from_root rows)

fewer_from : (p : Path) (rows : Rows) → length (rows_from p rows) ≤ length rows
fewer_from p [] = omega arith
fewer_from p (row ∷ rows) =
    let fewer = fewer_from p rows in
    elim (is_le (path_cmp p row.0)) as (λ b. length (cond b (row ∷ rows_from p rows) (rows_from p rows)) ≤ length (row ∷ rows)) [
      | true ↦ omega (arith, fewer)
      | false ↦ omega (arith, fewer)
    ]

module _ (n : Namespace) (w : IsWellFormed n) where
  first : (rest : Rows) × (n.rows ≡ ([], Dir) ∷ rest)
  first = root_first n.rows (T_of (is_sorted path_cmp n.rows) w.blocks.in_order) w.root

  -- at the root all rows are left, and behind it all that have lines
  behind_root : (left : Rows) (row : Path × Form) → rows_from [] n.rows ≡ row ∷ left → left ≡ paths_from [] n
  behind_root left row is = ap (drop 1) (sym is ∙ from_root n.rows) ∙ sym (from_root (drop 1 n.rows))

  some_at_root : rows_from [] n.rows ≡ [] → ⊥
  some_at_root none = omega (arith, ap length (sym (from_root n.rows) ∙ none), ap length first.1)

  -- the root is not behind a path that has a name
  from_named : (name : List ℕ) (p : Path) → rows_from (name ∷ p) n.rows ≡ paths_from (name ∷ p) n
  from_named name p = ap (rows_from (name ∷ p)) first.1 ∙ sym (ap (λ rows. rows_from (name ∷ p) (drop 1 rows)) first.1)

  -- a walk from a place, behind the root
  root_place : (place : List (String Global)) → true ≡ (length place == 0) → names_of place ≡ []
  root_place [] e = refl
  root_place (name ∷ place) e = let is : true ≡ false = e ∙ ne_eqb (length (name ∷ place)) 0 (λ z. omega (arith, z)) in absurd (cc)

  pub root_passed : {F : Type 0} (row : F → Path × Form) (o : Option F) (place : List (String Global)) (before left : Rows) → true ≡ (length place == 0)
      → before ≡ rows_from (names_of place) n.rows → IfSome o (λ x. before ≡ row x ∷ left) → (o ≡ None → (before ≡ []) × (left ≡ [])) → left ≡ paths_from (names_of place) n
  root_passed row (Some x) place before left none is one end =
      let root = root_place place none in
      behind_root left (row x) (ap (λ p. rows_from p n.rows) (sym root) ∙ sym is ∙ one) ∙ ap (λ p. paths_from p n) (sym root)
  root_passed row None place before left none is one end =
      absurd (some_at_root (ap (λ p. rows_from p n.rows) (sym (root_place place none)) ∙ sym is ∙ (end refl).0))

  pub named_place : (place : List (String Global)) → false ≡ (length place == 0) → rows_from (names_of place) n.rows ≡ paths_from (names_of place) n
  named_place [] some = absurd (cc)
  named_place (name ∷ place) some = from_named (string_bytes name) (names_of place)

  fewer_paths : (p : Path) → length (paths_from p n) < length n.rows
  fewer_paths p = omega (arith, fewer_from p (drop 1 n.rows), length-drop 1 n.rows, ap length first.1)

  resumes_named : (name : List ℕ) (q : Path) (row : Path × Form) (back : Rows) → rows_from (name ∷ q) n.rows ≡ row ∷ back → paths_from (name ∷ q) n ≡ row ∷ back
  resumes_named name q row back is = sym (from_named name q) ∙ is

  not_at_root : (p : Path) (prefix : Rows) (row : Path × Form) (back : Rows) → paths_from p n ≡ prefix ++ row ∷ back → rows_from [] n.rows ≡ row ∷ back → ⊥
  not_at_root p prefix row back is all =
      omega (arith, fewer_paths p, ap length is, length-append prefix (row ∷ back), ap length (sym (from_root n.rows) ∙ all))

  at_path : (p : Path) (prefix : Rows) (q : Path) (form : Form) (back : Rows) → paths_from p n ≡ prefix ++ (q, form) ∷ back → rows_from q n.rows ≡ (q, form) ∷ back → paths_from q n ≡ (q, form) ∷ back
  at_path p prefix [] form back is all = absurd (not_at_root p prefix ([], form) back is all)
  at_path p prefix (name ∷ q) form back is all = resumes_named name q (name ∷ q, form) back all

  all_rows_from : (p : Path) (prefix : Rows) (row : Path × Form) (back : Rows) → paths_from p n ≡ prefix ++ row ∷ back → (before : Rows) × (rows_from p n.rows ≡ before ++ row ∷ back)
  all_rows_from [] prefix row back is = (([], Dir) ∷ prefix, from_root n.rows ∙ first.1 ∙ ap (λ r. ([], Dir) ∷ r) (sym (ap (drop 1) first.1) ∙ sym (from_root (drop 1 n.rows)) ∙ is))
  all_rows_from (name ∷ p) prefix row back is = (prefix, from_named name p ∙ is)

  pub paths_resume : ResumesRows n.rows → Resumes n
  paths_resume resumes p prefix row back is =
      let all = all_rows_from p prefix row back is in
      at_path p prefix row.0 row.1 back is (resumes p all.0 row back all.1)

-- ---- The texts of a place.

-- an image is its first line, and then what is left at the first place
image_whole : (n : Namespace) (txid : ℕ) → image_text n txid ≡ value_line (header_data n txid) ++ rest_text first_place n
unfolding image_text
image_whole n txid =
    let all : paths_from [] n ≡ drop 1 n.rows = from_root (drop 1 n.rows) in
    let count : length n.rows - 1 ≡ 0 + length (paths_from [] n) = omega (arith, ap length all, length-drop 1 n.rows) in
    λ j. value_line (header_data n txid) ++ (row_lines (sym all j) ++ value_line (end_data (count j)))

module _ (n : Namespace) (rows : ℕ) (s : Place) where
  abbrev all : Rows
  all = paths_from s.path n

  abbrev part : Rows
  part = part_at rows s n

  abbrev back : Rows
  back = behind_part rows s n

  whole : all ≡ part ++ back
  whole = part_and_rest rows 262144 all

  lines : row_lines all ≡ row_lines part ++ row_lines back
  lines = ap row_lines whole ∙ lines_both part back

  -- what is left at a place is a part, and what is left behind that
  part_whole : (t : Place) → paths_from t.path n ≡ back → t.count ≡ s.count + length part → rest_text s n ≡ row_lines part ++ rest_text t n
  part_whole t next counted =
      let both : row_lines all ≡ row_lines part ++ row_lines (paths_from t.path n) = lines ∙ ap (λ r. row_lines part ++ row_lines r) (sym next) in
      let count : s.count + length all ≡ t.count + length (paths_from t.path n) = omega (arith, counted, ap length next, ap length whole, length-append part back) in
      (λ j. both j ++ value_line (end_data (count j))) ∙ append_assoc (row_lines part) (row_lines (paths_from t.path n)) (value_line (end_data (t.count + length (paths_from t.path n))))

-- ---- A saving goes on.

module _ (n : Namespace) (txid : ℕ) where
  pub begins : (old new : Writer) (s : Place) → WroteHeader n txid old new s → IsSaving n txid old new s
  begins old new s h = record {
    prefix = value_line (header_data n txid);
    took = h.took;
    whole = image_whole n txid ∙ ap (λ p. value_line (header_data n txid) ++ rest_text p n) (sym h.place);
  }

  pub head_prefix : (old new : Writer) (e : OutputFault) → TookPrefix old new (value_line (header_data n txid)) e → TookPrefix old new (image_text n txid) e
  head_prefix old new e h =
      subst (λ t. TookPrefix old new t e) (sym (image_whole n txid)) (prefix_of old new new (value_line (header_data n txid)) (rest_text first_place n) e h)

  goes_on : (start old new : Writer) (rows : ℕ) (s t : Place) → IsSaving n txid start old s → WrotePart n rows s old new t → IsSaving n txid start new t
  goes_on start old new rows s t h w =
      let part = row_lines (part_at rows s n) in
      record {
        prefix = h.prefix ++ part;
        took = took_both start old new h.prefix part h.took w.took;
        whole = h.whole ∙ ap (λ r. h.prefix ++ r) (part_whole n rows s t w.next w.counted) ∙ sym (append_assoc h.prefix part (rest_text t n));
      }

  ends : (start old new : Writer) (s : Place) → IsSaving n txid start old s → Took old new (rest_text s n) → Took start new (image_text n txid)
  ends start old new s h took = subst (Took start new) (sym h.whole) (took_both start old new h.prefix (rest_text s n) h.took took)

  pub stops : (start old new : Writer) (s : Place) (e : SaveFault) → IsSaving n txid start old s → WrotePrefix old new (rest_text s n) e → TookPrefix start new (image_text n txid) (cause_of e)
  stops start old new s e h w =
      subst (λ t. TookPrefix start new t (cause_of e)) (sym h.whole) (prefix_after start old new h.prefix (rest_text s n) (cause_of e) h.took w.took)

-- what a call that went well made of an image
pub saved_ok : (n : Namespace) (rows : ℕ) (s : Place) (w0 w1 : Writer) (o : Option Place) → IfSome o (WrotePart n rows s w0 w1) → (o ≡ None → IsRest n rows s w0 w1)
    → (txid : ℕ) (start : Writer) → IsSaving n txid start w0 s → IsSavedBy n txid start w1 (Ok o)
saved_ok n rows s w0 w1 None written ended txid start h = ends n txid start w0 w1 s h (ended refl).took
saved_ok n rows s w0 w1 (Some t) written ended txid start h = goes_on n txid start w0 w1 rows s t h written

-- a fault, told with the bytes of the call
pub told_with : (old new : Writer) (text : List ℕ) (e : OutputFault) (written : ℕ) → written ≡ new.taken - old.taken → TookPrefix old new text e → WrotePrefix old new text (fault_of e written)
told_with old new text WriteFailed written is h = record { took = h; told = omega (arith, is, h.counted) }
told_with old new text OutOfMemory written is h = record { took = h; told = tt }

-- ---- The lines of a part.

-- these rows were put, of those that are left at a place
pub record HasPutRows (start : Writer) (rows bytes : ℕ) (all : Rows) (lines : ℕ) (left : Rows) (page : Page) (now : Writer) : Type 0 where
  pub done : Rows
  pub whole : all ≡ done ++ left
  pub put : HasPut start (row_lines done) page now
  pub counted : lines ≡ length done
  pub part : part_of rows bytes all ≡ done ++ part_of (rows - lines) (bytes - length (row_lines done)) left

pub none_put : (start : Writer) (rows bytes : ℕ) (all : Rows) (page : Page) → HasPut start [] page start → HasPutRows start rows bytes all 0 all page start
none_put start rows bytes all page put =
    let same_rows : rows ≡ rows - 0 = omega arith in
    let same_bytes : bytes ≡ bytes - 0 = omega arith in
    record { done = []; whole = refl; put = put; counted = refl; part = λ j. part_of (same_rows j) (same_bytes j) all }

module _ (start : Writer) (rows bytes : ℕ) (all : Rows) (lines : ℕ) (left : Rows) (page : Page) (now : Writer) (h : HasPutRows start rows bytes all lines left page now) where
  still : page.lost ≡ false → TookAllBut start now (row_lines h.done) page.left
  still well = subst (λ b. HasGone b start (row_lines h.done) page.left now) well h.put

  -- how many bytes were put
  bytes_put : page.lost ≡ false → (now.taken - start.taken) + length page.left ≡ length (row_lines h.done)
  bytes_put well =
      let took = still well in
      omega (arith, took.took.counted, ap length took.whole, length-append took.prefix page.left)

  -- a prefix of what was left was written
  abbrev text : List ℕ → List ℕ
  text tail = row_lines all ++ tail

  split : (tail : List ℕ) → text tail ≡ row_lines h.done ++ (row_lines left ++ tail)
  split tail = ap (λ t. t ++ tail) (ap row_lines h.whole ∙ lines_both h.done left) ∙ append_assoc (row_lines h.done) (row_lines left) tail

  pub lost_prefix : (tail : List ℕ) → page.lost ≡ true → TookPrefix start now (text tail) WriteFailed
  lost_prefix tail lost =
      subst (λ t. TookPrefix start now t WriteFailed) (sym (split tail))
      (prefix_of start now now (row_lines h.done) (row_lines left ++ tail) WriteFailed (subst (λ b. HasGone b start (row_lines h.done) page.left now) lost h.put))

  pub unlost_prefix : (tail : List ℕ) → 0 < length tail → page.lost ≡ false → TookPrefix start now (text tail) OutOfMemory
  unlost_prefix tail some well =
      let took = still well in
      record {
        prefix = took.prefix;
        rest = page.left ++ (row_lines left ++ tail);
        whole = split tail ∙ ap (λ t. t ++ (row_lines left ++ tail)) took.whole ∙ append_assoc took.prefix page.left (row_lines left ++ tail);
        short = omega (arith, some, length-append page.left (row_lines left ++ tail), length-append (row_lines left) tail);
        bytes = took.took.bytes;
        counted = took.took.counted;
        caused = took.took.unfailed;
      }

  -- the part has all its rows
  ended : part_of (rows - lines) (bytes - length (row_lines h.done)) left ≡ [] → part_of rows bytes all ≡ h.done
  ended none = h.part ∙ ap (λ r. h.done ++ r) none ∙ append-nil h.done

  pub part_put : part_of (rows - lines) (bytes - length (row_lines h.done)) left ≡ [] → HasPut start (row_lines (part_of rows bytes all)) page now
  part_put none = subst (λ r. HasPut start (row_lines r) page now) (sym (ended none)) h.put

  behind : part_of (rows - lines) (bytes - length (row_lines h.done)) left ≡ [] → drop (length (part_of rows bytes all)) all ≡ left
  behind none = ap (λ r. drop (length r) all) (ended none) ∙ ap (drop (length h.done)) h.whole ∙ drop-append_seam h.done left

  none_more : left ≡ [] → part_of (rows - lines) (bytes - length (row_lines h.done)) left ≡ []
  none_more none = ap (part_of (rows - lines) (bytes - length (row_lines h.done))) none

  pub all_put : left ≡ [] → HasPut start (row_lines (part_of rows bytes all)) page now
  all_put none = part_put (none_more none)

  pub last_part : left ≡ [] → IsPart rows bytes all (record { lines = lines; next = None })
  last_part none = record { lines = h.counted ∙ sym (ap length (ended (none_more none))); next = behind (none_more none) ∙ none }

  -- no more rows go into it
  is_zero : (k : ℕ) → k ≡ 0 → (k == 0) ≡ true
  is_zero k none = ap (λ k. k == 0) none

  or_second : (b c : Bool) → c ≡ true → (b || c) ≡ true
  or_second true c is = refl
  or_second false c is = is

  rows_full : rows ≤ lines → (rows - lines == 0 || bytes - length (row_lines h.done) == 0) ≡ true
  rows_full full = ap (λ b. b || bytes - length (row_lines h.done) == 0) (is_zero (rows - lines) (omega (arith, full)))

  bytes_full : bytes ≤ length (row_lines h.done) → (rows - lines == 0 || bytes - length (row_lines h.done) == 0) ≡ true
  bytes_full full = or_second (rows - lines == 0) (bytes - length (row_lines h.done) == 0) (is_zero (bytes - length (row_lines h.done)) (omega (arith, full)))

  none_fit : page.lost ≡ false → (rows ≤ lines) ⊎ (bytes ≤ (now.taken - start.taken) + length page.left) → part_of (rows - lines) (bytes - length (row_lines h.done)) left ≡ []
  none_fit well (inl full) = none_of_a_full_part (rows - lines) (bytes - length (row_lines h.done)) left (rows_full full)
  none_fit well (inr full) = none_of_a_full_part (rows - lines) (bytes - length (row_lines h.done)) left (bytes_full (omega (arith, full, bytes_put well)))

  pub full_put : page.lost ≡ false → (rows ≤ lines) ⊎ (bytes ≤ (now.taken - start.taken) + length page.left) → HasPut start (row_lines (part_of rows bytes all)) page now
  full_put well full = part_put (none_fit well full)

  pub full_part : page.lost ≡ false → (rows ≤ lines) ⊎ (bytes ≤ (now.taken - start.taken) + length page.left)
      → (names : Vec (String Global) Global) (row : Path × Form) (more : Rows) → left ≡ row ∷ more → names_of names.items ≡ row.0 → IsPart rows bytes all (record { lines = lines; next = Some names })
  full_part well full names row more is at = record {
    lines = h.counted ∙ sym (ap length (ended (none_fit well full)));
    next = (row.1, more, behind (none_fit well full) ∙ is ∙ ap (λ p. (p, row.1) ∷ more) (sym at));
  }

  -- the next row goes into it
  not_zero : (k : ℕ) → 0 < k → (k == 0) ≡ false
  not_zero k some = ne_eqb k 0 (λ e. omega (arith, e, some))

  fits : lines < rows → length (row_lines h.done) < bytes → (rows - lines == 0 || bytes - length (row_lines h.done) == 0) ≡ false
  fits few short =
      ap (λ b. b || bytes - length (row_lines h.done) == 0) (not_zero (rows - lines) (omega (arith, few))) ∙ not_zero (bytes - length (row_lines h.done)) (omega (arith, short))

  pub row_put : page.lost ≡ false → lines < rows → (now.taken - start.taken) + length page.left < bytes → (row : Path × Form) (more : Rows) → left ≡ row ∷ more
      → (page' : Page) (now' : Writer) → PutsPiece (value_line (row_data row)) page now page' now' → HasPutRows start rows bytes all (lines + 1) more page' now'
  row_put well few short row more is page' now' puts =
      let line = value_line (row_data row) in
      let done' = h.done ++ row ∷ [] in
      let text : row_lines done' ≡ row_lines h.done ++ line = lines_both h.done (row ∷ []) ∙ ap (λ t. row_lines h.done ++ t) (append-nil line) in
      let room = bytes - length (row_lines h.done) in
      let left_rows : (rows - lines) - 1 ≡ rows - (lines + 1) = omega arith in
      let left_bytes : room - length line ≡ bytes - length (row_lines done') = omega (arith, ap length text, length-append (row_lines h.done) line) in
      let step : part_of (rows - lines) room (row ∷ more) ≡ row ∷ part_of (rows - (lines + 1)) (bytes - length (row_lines done')) more =
      ap (λ b. cond b [] (row ∷ part_of ((rows - lines) - 1) (room - length line) more)) (fits few (omega (arith, short, bytes_put well))) ∙ (λ j. row ∷ part_of (left_rows j) (left_bytes j) more) in
      record {
        done = done';
        whole = h.whole ∙ ap (λ l. h.done ++ l) is ∙ sym (append_assoc h.done (row ∷ []) more);
        put = subst (λ t. HasPut start t page' now') (sym text) (puts start (row_lines h.done) h.put);
        counted = omega (arith, h.counted, length-append h.done (row ∷ []));
        part = h.part ∙ ap (λ l. h.done ++ part_of (rows - lines) room l) is ∙ ap (λ l. h.done ++ l) step ∙ sym (append_assoc h.done (row ∷ []) (part_of (rows - (lines + 1)) (bytes - length (row_lines done')) more));
      }

-- ---- A call.

-- why a call ends
pub at_err : {T : Type 0} (r : Result T OutputFault) (P : OutputFault → Type 0) (why : OutputFault) → IsErrAnd r (λ e. e ≡ why) → P why → IfErr r P
at_err (Ok x) P why is holds = tt
at_err (Err e) P why is holds = subst P (sym is) holds

module _ (n : Namespace) (rows : ℕ) (s : Place) where
  abbrev end_line : List ℕ
  end_line = value_line (end_data (s.count + length (paths_from s.path n)))

  some_line : 0 < length end_line
  some_line = omega (arith, length-append (compact_text (end_data (s.count + length (paths_from s.path n)))) (line_feed ∷ []))

  -- where a walk has what is left at a place
  module _ (left : Rows) (is : left ≡ paths_from s.path n) where
    pub part_there : (part : Part) → IsPart rows 262144 left part → IsPart rows 262144 (paths_from s.path n) part
    part_there part h = subst (λ l. IsPart rows 262144 l part) is h

    pub put_there : (start now : Writer) (page : Page) → HasPut start (row_lines (part_of rows 262144 left)) page now → HasPut start (row_lines (part_at rows s n)) page now
    put_there start now page h = subst (λ l. HasPut start (row_lines (part_of rows 262144 l)) page now) is h

    pub walk_prefix : (start now : Writer) (e : OutputFault) → ((tail : List ℕ) → 0 < length tail → TookPrefix start now (row_lines left ++ tail) e) → TookPrefix start now (rest_text s n) e
    walk_prefix start now e h = subst (λ l. TookPrefix start now (row_lines l ++ end_line) e) is (h end_line some_line)

  -- nothing was written
  pub none_written : (w : Writer) → TookPrefix w w (rest_text s n) OutOfMemory
  none_written w = record {
    prefix = [];
    rest = rest_text s n;
    whole = refl;
    short = omega (arith, some_line, length-append (row_lines (paths_from s.path n)) end_line);
    bytes = Appends-nil w.contents;
    counted = omega arith;
    caused = refl;
  }

  -- what is left is the part, and more
  rest_is : (r : List ℕ) × (rest_text s n ≡ row_lines (part_at rows s n) ++ r)
  rest_is =
      (row_lines (behind_part rows s n) ++ end_line, ap (λ t. t ++ end_line) (lines n rows s) ∙ append_assoc (row_lines (part_at rows s n)) (row_lines (behind_part rows s n)) end_line)

  -- a part was put and not written
  pub part_unwritten : (start now : Writer) (page : Page) → page.lost ≡ false → HasPut start (row_lines (part_at rows s n)) page now → TookPrefix start now (rest_text s n) OutOfMemory
  unfolding rest_is
  part_unwritten start now page well put =
      let took : TookAllBut start now (row_lines (part_at rows s n)) page.left = subst (λ b. HasGone b start (row_lines (part_at rows s n)) page.left now) well put in
      let behind = row_lines (behind_part rows s n) ++ end_line in
      record {
        prefix = took.prefix;
        rest = page.left ++ behind;
        whole = rest_is.1 ∙ ap (λ t. t ++ behind) took.whole ∙ append_assoc took.prefix page.left behind;
        short = omega (arith, some_line, length-append page.left behind, length-append (row_lines (behind_part rows s n)) end_line);
        bytes = took.took.bytes;
        counted = took.took.counted;
        caused = took.took.unfailed;
      }

  -- a prefix of the part is a prefix of what is left
  pub part_prefix : (w0 w1 : Writer) (e : OutputFault) → TookPrefix w0 w1 (row_lines (part_at rows s n)) e → TookPrefix w0 w1 (rest_text s n) e
  part_prefix w0 w1 e h = subst (λ t. TookPrefix w0 w1 t e) (sym rest_is.1) (prefix_of w0 w1 w1 (row_lines (part_at rows s n)) rest_is.0 e h)

  module _ (part : Part) (h : IsPart rows 262144 (paths_from s.path n) part) where
    -- paths are left
    pub part_written : Resumes n → (names : Vec (String Global) Global) → part.next ≡ Some names → (count : ℕ) → count ≡ s.count + part.lines
        → (w0 w1 : Writer) → Took w0 w1 (row_lines (part_at rows s n)) → WrotePart n rows s w0 w1 (record { path = names_of names.items; count = count })
    part_written resumes names is count counted w0 w1 took =
        let next = subst (λ o. MatchOption o (behind_part rows s n ≡ []) (λ names. Begin (names_of names.items) (behind_part rows s n))) is h.next in
        let row : Path × Form = (names_of names.items, next.0) in
        record {
          took = took;
          left = omega (arith, ap length next.2);
          next = resumes s.path (part_at rows s n) row next.1 (whole n rows s ∙ ap (λ b. part_at rows s n ++ b) next.2) ∙ sym next.2;
          counted = omega (arith, counted, h.lines);
        }

    none_behind : part.next ≡ None → behind_part rows s n ≡ []
    none_behind is = subst (λ o. MatchOption o (behind_part rows s n ≡ []) (λ names. Begin (names_of names.items) (behind_part rows s n))) is h.next

    -- none are left
    all_text : part.next ≡ None → (count : ℕ) → count ≡ s.count + part.lines → row_lines (part_at rows s n) ++ value_line (end_data count) ≡ rest_text s n
    all_text is count counted =
        let none = none_behind is in
        let all : part_at rows s n ≡ paths_from s.path n = sym (append-nil (part_at rows s n)) ∙ ap (λ b. part_at rows s n ++ b) (sym none) ∙ sym (whole n rows s) in
        let same : count ≡ s.count + length (paths_from s.path n) = omega (arith, counted, h.lines, ap length all) in
        λ j. row_lines (all j) ++ value_line (end_data (same j))

    pub rest_written : part.next ≡ None → (count : ℕ) → count ≡ s.count + part.lines → (w0 w1 : Writer) → Took w0 w1 (row_lines (part_at rows s n) ++ value_line (end_data count)) → IsRest n rows s w0 w1
    rest_written is count counted w0 w1 took = record { took = subst (Took w0 w1) (all_text is count counted) took; none_left = none_behind is }

    rest_prefix : part.next ≡ None → (count : ℕ) → count ≡ s.count + part.lines → (w0 w1 : Writer) (e : OutputFault) → TookPrefix w0 w1 (row_lines (part_at rows s n) ++ value_line (end_data count)) e
        → TookPrefix w0 w1 (rest_text s n) e
    rest_prefix is count counted w0 w1 e prefix = subst (λ t. TookPrefix w0 w1 t e) (all_text is count counted) prefix

    -- a prefix of the part and of the last line, where that comes, is a prefix of what is left
    pub end_prefix : (count : ℕ) → count ≡ s.count + part.lines → (w0 w1 : Writer) (e : OutputFault) → TookPrefix w0 w1 (row_lines (part_at rows s n) ++ last_line part.next count) e → TookPrefix w0 w1 (rest_text s n) e
    end_prefix count counted w0 w1 e prefix =
        let text = row_lines (part_at rows s n) in
        elim part.next as (λ o. part.next ≡ o → TookPrefix w0 w1 (text ++ last_line o count) e → TookPrefix w0 w1 (rest_text s n) e) [
          | None ↦ λ is f. rest_prefix is count counted w0 w1 e f
          | Some next ↦ λ is f. part_prefix w0 w1 e (subst (λ t. TookPrefix w0 w1 t e) (append-nil text) f)
        ] refl prefix
