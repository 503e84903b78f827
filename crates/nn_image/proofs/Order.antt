-- A path above those that stand already: it isn't there, and goes in as the last.
use Rattle.std.proofs.Common.{◌≡◌, ℕ, ◌+◌, [], ◌∷◌, ◌++◌, Bool, true, false, cond, not, ◌&&◌, Some, None, Ok, Err, refl, sym, ap, ◌∙◌, arith, subst, length-append}
use Rattle.std.specs.Prelude.{T, is_some}
use Rattle.std.specs.Ordering.{is_lt, is_eq, ordering_reverse}
use Rattle.std.specs.declared.cmp.Ordering.TheVariants.{Less, Greater}
use Rattle.std.specs.FinMap.Entries.{find as find_entry, put, is_sorted, below_all, by_order}
use Rattle.nn_model.specs.declared.form.Form.{Form}
use Rattle.nn_model.specs.Namespace.{Path, path_cmp, Namespace, with_row}
use Rattle.nn_tree.specs.Restore.{row_fits, can_restore}
use Rattle.nn_image.specs.declared.fault.ImageFault.TheVariants.{BadLine, WrongOrder}
use Rattle.nn_image.specs.Reading.{last_path, with_next_row, with_rows}
use Rattle.nn_image.specs.Loading.{IsLoading}
use Rattle.nn_image.proofs.Rows.{Rows, paths_total, and_T, T_and, T_of, less_of, true_of}

abbrev AreLess : Rows → Path → Type 0
AreLess [] p = Unit {0}
AreLess (row ∷ rows) p = (path_cmp row.0 p ≡ Less) × AreLess rows p

are_less : (first : Path × Form) (rows : Rows) (p : Path) → T (is_sorted path_cmp (first ∷ rows)) → path_cmp (last_path (first ∷ rows)) p ≡ Less → AreLess (first ∷ rows) p
are_less first [] p sorted e = (e, tt)
are_less first (next ∷ rows) p sorted e =
    let both = and_T (below_all path_cmp first.0 (next ∷ rows)) _ sorted in
    let here : path_cmp first.0 next.0 ≡ Less = less_of _ (and_T (is_lt (path_cmp first.0 next.0)) _ both.0).0 in
    let later = are_less next rows p both.1 e in
    (paths_total.trans first.0 next.0 p here later.0, later)

all_less : (rows : Rows) (p : Path) → T (is_sorted path_cmp rows) → path_cmp (last_path rows) p ≡ Less → AreLess rows p
all_less [] p sorted e = tt
all_less (first ∷ rows) p sorted e = are_less first rows p sorted e

pub greater : (p q : Path) → path_cmp q p ≡ Less → path_cmp p q ≡ Greater
greater p q e = paths_total.antisymm p q ∙ ap ordering_reverse e

not_there : (rows : Rows) (p : Path) → AreLess rows p → find_entry path_cmp p rows ≡ None
not_there [] p h = refl
not_there (row ∷ rows) p h = ap (λ r. cond (is_eq r) (Some row.1) (find_entry path_cmp p rows)) (greater p row.0 h.0) ∙ not_there rows p h.1

put_last : (rows : Rows) (p : Path) (form : Form) → AreLess rows p → put path_cmp p form rows ≡ rows ++ (p, form) ∷ []
put_last [] p form h = refl
put_last (row ∷ rows) p form h =
    ap (λ r. by_order r ((p, form) ∷ row ∷ rows) ((row.0, form) ∷ rows) (row ∷ put path_cmp p form rows)) (greater p row.0 h.0) ∙ ap (λ rs. row ∷ rs) (put_last rows p form h.1)

below_push : (q : Path) (rows : Rows) (p : Path) (form : Form) → T (below_all path_cmp q rows) → path_cmp q p ≡ Less → T (below_all path_cmp q (rows ++ (p, form) ∷ []))
below_push q [] p form h e = T_and (is_lt (path_cmp q p)) true (subst (λ r. T (is_lt r)) (sym e) tt) tt
below_push q (row ∷ rows) p form h e =
    let both = and_T (is_lt (path_cmp q row.0)) _ h in
    T_and (is_lt (path_cmp q row.0)) _ both.0 (below_push q rows p form both.1 e)

sorted_push : (rows : Rows) (p : Path) (form : Form) → T (is_sorted path_cmp rows) → AreLess rows p → T (is_sorted path_cmp (rows ++ (p, form) ∷ []))
sorted_push [] p form sorted h = tt
sorted_push (row ∷ rows) p form sorted h =
    let both = and_T (below_all path_cmp row.0 rows) _ sorted in
    T_and (below_all path_cmp row.0 (rows ++ (p, form) ∷ [])) _ (below_push row.0 rows p form both.0 h.0) (sorted_push rows p form both.1 h.1)

last_push : (rows : Rows) (row : Path × Form) → last_path (rows ++ row ∷ []) ≡ row.0
last_push [] row = refl
last_push (first ∷ []) row = refl
last_push (first ∷ next ∷ rows) row = last_push (next ∷ rows) row

is_lt_true : (p q : Path) → is_lt (path_cmp p q) ≡ true → path_cmp p q ≡ Less
is_lt_true p q e = less_of _ (T_of _ e)

-- ---- what a call of `restore` says of the definition

module _ (n : Namespace) (before : Path) (number : ℕ) (w : IsLoading n before number) (row : Path × Form) where
  pub out_of_order : is_lt (path_cmp before row.0) ≡ false → with_next_row n (Some row) ≡ Err (WrongOrder number)
  out_of_order e = rw (w.last, e) (ap (λ k. Err (WrongOrder k)) w.at)

  module _ (order : is_lt (path_cmp before row.0) ≡ true) where
    less_all : AreLess n.rows row.0
    less_all = all_less n.rows row.0 (T_of _ w.sorted) (ap (λ p. path_cmp p row.0) w.last ∙ is_lt_true before row.0 order)

    pub fits_is : can_restore n row.0 row.1 ≡ row_fits n row.0 row.1
    fits_is = ap (λ o. not (is_some o) && row_fits n row.0 row.1) (not_there n.rows row.0 less_all)

    pub refused : can_restore n row.0 row.1 ≡ false → with_next_row n (Some row) ≡ Err (BadLine number)
    refused e = rw (w.last, order, sym fits_is ∙ e) (ap (λ k. Err (BadLine k)) w.at)

    pub pushed : (m : Namespace) → m ≡ with_row n row.0 row.1 → m ≡ with_rows n (n.rows ++ row ∷ [])
    pushed m e = e ∙ ap (with_rows n) (put_last n.rows row.0 row.1 less_all)

    pub added : (m : Namespace) → m ≡ with_row n row.0 row.1 → can_restore n row.0 row.1 ≡ true → with_next_row n (Some row) ≡ Ok m
    added m e fits = rw (w.last, order, sym fits_is ∙ fits) (ap Ok (sym (pushed m e)))

    pub still_loading : (m : Namespace) → m ≡ with_row n row.0 row.1 → IsLoading m row.0 (number + 1)
    still_loading m e =
        subst (λ k. IsLoading k row.0 (number + 1)) (sym (pushed m e)) (record {
          sorted = true_of _ (sorted_push n.rows row.0 row.1 (T_of _ w.sorted) less_all);
          last = last_push n.rows row;
          at = omega (arith, length-append n.rows (row ∷ []), w.at);
        })

-- as the names of two paths compare
pub order_is : (a b xs ys : Path) (r t : Bool) → xs ≡ a → ys ≡ b → r ≡ is_lt (path_cmp xs ys) → r ≡ t → is_lt (path_cmp a b) ≡ t
order_is a b xs ys r t e f tells is = (λ j. is_lt (path_cmp (sym e j) (sym f j))) ∙ sym tells ∙ is
