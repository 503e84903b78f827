-- A text is read exactly where it is an image.
use Rattle.std.proofs.Common.{◌≡◌, ℕ, suc, ◌-◌, List, [], ◌∷◌, ◌++◌, length, drop, Bool, true, false, cond, eqb, Option, Some, None, Result, Ok, Err, refl, sym, ap, subst, ◌∙◌, codes, arith, append_assoc, append-nil}
use Rattle.std.specs.Ordering.{is_lt}
use Rattle.std.specs.declared.cmp.Ordering.TheVariants.{Less}
use Rattle.std.specs.FinMap.Entries.{is_sorted}
use Rattle.std.proofs.lemmas.Bool.Decides.{Decides-eqb}
use Rattle.serde_json.specs.Data.{Data}
use Rattle.serde_json.specs.Find.{get}
use Rattle.nn_model.specs.declared.form.Form.{Form}
use Rattle.nn_model.specs.declared.form.Form.TheVariants.{Dir}
use Rattle.nn_model.specs.Namespace.{Path, path_cmp, Namespace}
use Rattle.nn_model.specs.WellFormed.{IsWellFormed}
use Rattle.nn_tree.specs.Restore.{bare, row_fits}
use Rattle.nn_tree.proofs.RestoredFile.{restored_well}
use Rattle.nn_image.specs.declared.fault.ImageFault.{ImageFault}
use Rattle.nn_image.specs.declared.fault.ImageFault.TheVariants.{BadLine, WrongOrder, CountMismatch}
use Rattle.nn_image.specs.Image.{IsRow, AreRows, IsEndLine, IsImage}
use Rattle.nn_image.specs.Loading.{IsLoading}
use Rattle.nn_image.specs.Reading.{whole_value, row_of_line, object_of, of_header, ◌then◌, last_path, next_line_number, with_rows, with_next_row, at_end_line, nothing_more, by_key, by_value, rows_from, pieces_of, all_from, read_image}
use Rattle.nn_image.proofs.Keeps.{Keeps}
use Rattle.nn_image.proofs.Kept.{keeps}
use Rattle.nn_image.proofs.Lawful.{row_lawful, header_lawful, HasHeader}
use Rattle.nn_image.proofs.Order.{fits_is, pushed}
use Rattle.nn_image.proofs.Pieces.{pieces_of_lines, lines_of}
use Rattle.nn_image.proofs.Round.{rows_turn, all_turn}
use Rattle.nn_image.proofs.Rows.{Rows, T_of, root_first, last_less, parent_less, mid_sorted, fits_here}

-- ---- An image is read.

same_test : (a : ℕ) → eqb a a ≡ true
same_test a = (Decides-eqb a a).1 refl

some_left : (lines : List (List ℕ)) (last : List ℕ) → lines ++ last ∷ [] ∷ [] ≡ [] → ⊥
some_left [] last e = cc
some_left (line ∷ lines) last e = cc

rows_counted : (lines : List (List ℕ)) (rows : Rows) → AreRows lines rows → length lines ≡ length rows
rows_counted [] [] h = refl
rows_counted [] (row ∷ rows) h = absurd h
rows_counted (line ∷ lines) [] h = absurd h
rows_counted (line ∷ lines) (row ∷ rows) h = ap suc (rows_counted lines rows h.1)

module _ (n : Namespace) (w : Keeps n) (last : List ℕ) (end : IsEndLine last (length n.rows - 1)) where
  end_read : rows_from n (last ∷ [] ∷ []) ≡ Ok n
  unfolding rows_from
  end_read =
      ap (by_value n ([] ∷ []) (λ m. rows_from m ([] ∷ []))) end.object
      ∙ ap (by_key n end.value ([] ∷ []) (λ m. rows_from m ([] ∷ []))) end.has_end
      ∙ ap (λ k. at_end_line n k ([] ∷ [])) end.gives
      ∙ ap (λ t. cond t (Ok n) (Err CountMismatch)) (same_test (length n.rows - 1))

  lines_read : (lines : List (List ℕ)) (rest : Rows) (first : Path × Form) (before : Rows) → AreRows lines rest → n.rows ≡ (first ∷ before) ++ rest
      → rows_from (with_rows n (first ∷ before)) (lines ++ last ∷ [] ∷ []) ≡ Ok n
  lines_read [] [] first before are same =
      let all : n.rows ≡ first ∷ before = same ∙ append-nil (first ∷ before) in
      subst (λ rows. rows_from (with_rows n rows) (last ∷ [] ∷ []) ≡ Ok n) all end_read
  lines_read [] (row ∷ rest) first before are same = absurd are
  lines_read (line ∷ lines) [] first before are same = absurd are
  lines_read (line ∷ lines) (row ∷ rest) first before are same =
      let m = with_rows n (first ∷ before) in
      let left = lines ++ last ∷ [] ∷ [] in
      let is = are.0 in
      let less : path_cmp (last_path (first ∷ before)) row.0 ≡ Less = last_less first before row rest (mid_sorted n w (first ∷ before) row rest same) in
      let fits : row_fits m row.0 row.1 ≡ true = fits_here n w (first ∷ before) row rest same (parent_less _ row.0 less) in
      let accepted : with_next_row m (row_of_line is.value) ≡ Ok (with_rows n ((first ∷ before) ++ row ∷ [])) = ap (with_next_row m) is.gives ∙ rw (less, fits) refl in
      rows_turn m line left (some_left lines last)
      ∙ ap (by_value m left (λ k. rows_from k left)) is.object
      ∙ ap (by_key m is.value left (λ k. rows_from k left)) is.no_end
      ∙ ap (λ r. r then (λ k. rows_from k left)) accepted
      ∙ lines_read lines rest first (before ++ row ∷ []) are.1 (same ∙ sym (append_assoc (first ∷ before) (row ∷ []) rest))

pub image_read : (text : List ℕ) (n : Namespace) (txid : ℕ) → IsImage text n txid → read_image text ≡ Ok (n, txid)
unfolding read_image
image_read text n txid i =
    let w = keeps n i.well_formed in
    let root = root_first n.rows (T_of (is_sorted path_cmp n.rows) w.in_order) w.root in
    let below : drop 1 n.rows ≡ root.0 = ap (drop 1) root.1 in
    let are : AreRows i.lines root.0 = subst (AreRows i.lines) below i.rows in
    let count : length i.lines ≡ length n.rows - 1 = omega (arith, rows_counted i.lines root.0 are, ap length root.1) in
    let left = i.lines ++ i.last ∷ [] ∷ [] in
    let pieces : pieces_of text ≡ i.head ∷ left =
    ap pieces_of i.spelled ∙ pieces_of_lines (i.head ∷ (i.lines ++ i.last ∷ [])) i.plain ∙ ap (λ ps. i.head ∷ ps) (append_assoc i.lines (i.last ∷ []) ([] ∷ [])) in
    let rows : rows_from (bare n.issued) left ≡ Ok n = lines_read n w i.last (subst (IsEndLine i.last) count i.counted) i.lines root.0 ([], Dir) [] are root.1 in
    ap all_from pieces ∙ all_turn i.head left (some_left i.lines i.last)
    ∙ ap (λ r. r then (λ h. rows_from h.0 left then (λ m. Ok (m, h.1)))) i.header
    ∙ ap (λ r. r then (λ m. Ok (m, txid))) rows

-- ---- What is read is an image.

-- a namespace with the next row is well formed
next_well : (m : Namespace) (d : Data) (row : Path × Form) → IsWellFormed m → row_of_line d ≡ Some row → is_lt (path_cmp (last_path m.rows) row.0) ≡ true → row_fits m row.0 row.1 ≡ true
    → IsWellFormed (with_rows m (m.rows ++ row ∷ []))
next_well m d row w is order fits =
    let loading : IsLoading m (last_path m.rows) (next_line_number m) = record { sorted = w.blocks.in_order; last = refl; at = refl } in
    let lawful = row_lawful d row is in
    subst IsWellFormed (pushed m (last_path m.rows) (next_line_number m) loading row order _ refl)
    (restored_well m row.0 row.1 lawful.0 lawful.1 (fits_is m (last_path m.rows) (next_line_number m) loading row order ∙ fits) w)

-- the pieces are lines of rows after those of m, the end line, and nothing more
pub record IsRest (m : Namespace) (pieces : List (List ℕ)) (n : Namespace) : Type 0 where
  pub lines : List (List ℕ)
  pub last : List ℕ
  pub rest : Rows
  pub are : pieces ≡ lines ++ last ∷ [] ∷ []
  pub grown : n ≡ with_rows m (m.rows ++ rest)
  pub rows : AreRows lines rest
  pub ends : IsEndLine last (length n.rows - 1)
  pub well : IsWellFormed n

nothing_left : (m n : Namespace) (next : List ℕ) (pieces : List (List ℕ)) → nothing_more m (next ∷ pieces) ≡ Ok n → (next ∷ pieces ≡ [] ∷ []) × (m ≡ n)
nothing_left m n [] [] e = (refl, (cc))
nothing_left m n (b ∷ bs) [] e = absurd (cc)
nothing_left m n [] (p ∷ pieces) e = absurd (cc)
nothing_left m n (b ∷ bs) (p ∷ pieces) e = absurd (cc)

accepted : {A : Type 0} (b : Bool) (x : Result A ImageFault) (f : ImageFault) (y : A) → cond b x (Err f) ≡ Ok y → (b ≡ true) × (x ≡ Ok y)
accepted true x f y e = (refl, e)
accepted false x f y e = absurd (cc)

went_on : {A B : Type 0} (r : Result A ImageFault) (f : A → Result B ImageFault) (y : B) → (r then f) ≡ Ok y → (x : A) × (r ≡ Ok x) × (f x ≡ Ok y)
went_on (Ok x) f y e = (x, refl, e)
went_on (Err g) f y e = absurd (cc)

end_rest : (m n : Namespace) (line next : List ℕ) (pieces : List (List ℕ)) (d count : Data) → IsWellFormed m → object_of line ≡ Some d → get (codes "end") d ≡ Some count
    → at_end_line m (whole_value count) (next ∷ pieces) ≡ Ok n → IsRest m (line ∷ next ∷ pieces) n
end_rest m n line next pieces d count w object has e = at (whole_value count) refl e
  where
    at : (o : Option ℕ) → whole_value count ≡ o → at_end_line m o (next ∷ pieces) ≡ Ok n → IsRest m (line ∷ next ∷ pieces) n
    at None is h = absurd (cc)
    at (Some k) is h =
        let all = accepted (eqb k (length m.rows - 1)) (nothing_more m (next ∷ pieces)) CountMismatch n h in
        let none = nothing_left m n next pieces all.1 in
        let number : k ≡ length m.rows - 1 = (Decides-eqb k (length m.rows - 1)).0 all.0 in
        record {
          lines = [];
          last = line;
          rest = [];
          are = ap (λ ps. line ∷ ps) none.0;
          grown = sym none.1 ∙ ap (with_rows m) (sym (append-nil m.rows));
          rows = tt;
          ends = record { value = d; object = object; member = count; has_end = has; gives = is ∙ ap Some (number ∙ ap (λ k. length k.rows - 1) none.1) };
          well = subst IsWellFormed none.1 w;
        }

one_more : (m n : Namespace) (line : List ℕ) (pieces : List (List ℕ)) (row : Path × Form) → IsRow line row → IsRest (with_rows m (m.rows ++ row ∷ [])) pieces n → IsRest m (line ∷ pieces) n
one_more m n line pieces row is h = record {
  lines = line ∷ h.lines;
  last = h.last;
  rest = row ∷ h.rest;
  are = ap (λ ps. line ∷ ps) h.are;
  grown = h.grown ∙ ap (with_rows m) (append_assoc m.rows (row ∷ []) h.rest);
  rows = (is, h.rows);
  ends = h.ends;
  well = h.well;
}

abbrev More : List (List ℕ) → Namespace → Type 0
More pieces n = (k : Namespace) → IsWellFormed k → rows_from k pieces ≡ Ok n → IsRest k pieces n

rest_of : (m : Namespace) (pieces : List (List ℕ)) (n : Namespace) → IsWellFormed m → rows_from m pieces ≡ Ok n → IsRest m pieces n
unfolding rows_from
rest_of m [] n w e = absurd (cc)
rest_of m (torn ∷ []) n w e = absurd (cc)
rest_of m (line ∷ next ∷ pieces) n w e = value (object_of line) refl e (λ k v h. rest_of k (next ∷ pieces) n v h)
  where
    row_next : (d : Data) → object_of line ≡ Some d → get (codes "end") d ≡ None → (o : Option (Path × Form)) → row_of_line d ≡ o → (with_next_row m o then λ k. rows_from k (next ∷ pieces)) ≡ Ok n → More (next ∷ pieces) n → IsRest m (line ∷ next ∷ pieces) n
    row_next d object none None is h more = absurd (cc)
    row_next d object none (Some row) is h more =
        let on = went_on (with_next_row m (Some row)) (λ k. rows_from k (next ∷ pieces)) n h in
        let order = accepted (is_lt (path_cmp (last_path m.rows) row.0)) (cond (row_fits m row.0 row.1) (Ok (with_rows m (m.rows ++ row ∷ []))) (Err (BadLine (next_line_number m)))) (WrongOrder (next_line_number m)) on.0 on.1 in
        let fits = accepted (row_fits m row.0 row.1) (Ok (with_rows m (m.rows ++ row ∷ []))) (BadLine (next_line_number m)) on.0 order.1 in
        let same : with_rows m (m.rows ++ row ∷ []) ≡ on.0 = cc in
        one_more m n line (next ∷ pieces) row (record { value = d; object = object; no_end = none; gives = is })
        (more (with_rows m (m.rows ++ row ∷ [])) (next_well m d row w is order.0 fits.0) (ap (λ k. rows_from k (next ∷ pieces)) same ∙ on.2))

    member : (d : Data) → object_of line ≡ Some d → (o : Option Data) → get (codes "end") d ≡ o → by_key m d (next ∷ pieces) (λ k. rows_from k (next ∷ pieces)) o ≡ Ok n → More (next ∷ pieces) n → IsRest m (line ∷ next ∷ pieces) n
    member d object None has h more = row_next d object has (row_of_line d) refl h more
    member d object (Some count) has h more = end_rest m n line next pieces d count w object has h

    value : (o : Option Data) → object_of line ≡ o → by_value m (next ∷ pieces) (λ k. rows_from k (next ∷ pieces)) o ≡ Ok n → More (next ∷ pieces) n → IsRest m (line ∷ next ∷ pieces) n
    value None object h more = absurd (cc)
    value (Some d) object h more = member d object (get (codes "end") d) refl h more

image_of : (text head : List ℕ) (pieces : List (List ℕ)) (start n : Namespace) (txid : ℕ) → pieces_of text ≡ head ∷ pieces → of_header (object_of head) ≡ Ok (start, txid) → HasHeader (start, txid) → IsRest start pieces n → IsImage text n txid
image_of text head pieces start n txid are header has h =
    let split = lines_of text (head ∷ (h.lines ++ h.last ∷ [])) (are ∙ ap (λ ps. head ∷ ps) (h.are ∙ sym (append_assoc h.lines (h.last ∷ []) ([] ∷ [])))) in
    let rows : n.rows ≡ ([], Dir) ∷ h.rest = ap (λ k. k.rows) h.grown ∙ ap (λ k. k.rows ++ h.rest) has.is_bare in
    let same : start ≡ bare n.issued = has.is_bare ∙ (λ j. bare (sym h.grown j).issued) in
    let count : length n.rows - 1 ≡ length h.lines = omega (arith, rows_counted h.lines h.rest h.rows, ap length rows) in
    record {
      head = head;
      lines = h.lines;
      last = h.last;
      spelled = split.0;
      plain = split.1;
      header = header ∙ ap (λ k. Ok (k, txid)) same;
      rows = subst (AreRows h.lines) (ap (drop 1) (sym rows)) h.rows;
      counted = subst (IsEndLine h.last) count h.ends;
      well_formed = h.well;
    }

pub read_is_image : (text : List ℕ) (n : Namespace) (txid : ℕ) → read_image text ≡ Ok (n, txid) → IsImage text n txid
unfolding read_image all_from
read_is_image text n txid e = at (pieces_of text) refl e
  where
    at : (pieces : List (List ℕ)) → pieces_of text ≡ pieces → all_from pieces ≡ Ok (n, txid) → IsImage text n txid
    at [] are h = absurd (cc)
    at (torn ∷ []) are h = absurd (cc)
    at (line ∷ next ∷ pieces) are h =
        let head = went_on (of_header (object_of line)) (λ x. rows_from x.0 (next ∷ pieces) then (λ k. Ok (k, x.1))) (n, txid) h in
        let rows = went_on (rows_from head.0.0 (next ∷ pieces)) (λ k. Ok (k, head.0.1)) (n, txid) head.2 in
        let same : (rows.0, head.0.1) ≡ (n, txid) = cc in
        let here = header_lawful (object_of line) head.0 head.1 in
        subst (λ (x : Namespace × ℕ). IsImage text x.0 x.1) same
        (image_of text line (next ∷ pieces) head.0.0 rows.0 head.0.1 are head.1 here (rest_of head.0.0 (next ∷ pieces) rows.0 here.well rows.1))
