-- What rows hold, whatever it is that a form holds: where it comes from and where it goes, as rows are put, left out, moved and set in order.
use Rattle.std.proofs.Common.{Bool, true, false, cond, not, List, [], ◌∷◌, ◌++◌, map, filter, Option, Some, None, inl, inr}
use Rattle.std.specs.Prelude.{◌⊎◌, flat_map}
use Rattle.std.specs.Ordering.{eq_by_cmp, is_eq}
use Rattle.std.specs.declared.cmp.Ordering.TheVariants.{Less, Equal, Greater}
use Rattle.std.specs.FinMap.Entries.{find as find_entry, put, by_order}
use Rattle.nn_model.specs.declared.form.Form.{Form}
use Rattle.nn_model.specs.Namespace.{Path, path_cmp}
use Rattle.nn_model.specs.Apply.{in_path_order}
use Rattle.nn_model.specs.WellFormed.{Includes}

-- ---- lists

pub has_left : {A : Type 0} (xs ys : List A) (x : A) → Includes xs x → Includes (xs ++ ys) x
has_left [] ys x here = absurd here
has_left (y ∷ xs) ys x (inl same) = inl same
has_left (y ∷ xs) ys x (inr here) = inr (has_left xs ys x here)

pub has_right : {A : Type 0} (xs ys : List A) (x : A) → Includes ys x → Includes (xs ++ ys) x
has_right [] ys x here = here
has_right (y ∷ xs) ys x here = inr (has_right xs ys x here)

pub has_either : {A : Type 0} (xs ys : List A) (x : A) → Includes (xs ++ ys) x → Includes xs x ⊎ Includes ys x
has_either [] ys x here = inr here
has_either (y ∷ xs) ys x (inl same) = inl (inl same)
has_either (y ∷ xs) ys x (inr here) = elim (has_either xs ys x here) [ inl a ↦ inl (inr a) | inr b ↦ inr b ]

module _ {X : Type 0} (of : Form → List X) where
  -- what all rows hold
  abbrev pub all_in : List (Path × Form) → List X
  all_in rows = flat_map (λ row. of row.1) rows

  -- what is held at a path
  abbrev pub all_at : Option Form → List X
  all_at None = []
  all_at (Some form) = of form

  -- ---- a row put at a path, rows left out, moved and set in order

  pub put_has : (p : Path) (form : Form) (rows : List (Path × Form)) (r : X) → Includes (of form) r → Includes (all_in (put path_cmp p form rows)) r
  put_has p form [] r here = has_left (of form) [] r here
  put_has p form (row ∷ rows) r here =
      elim (path_cmp p row.0) as (λ o. Includes (all_in (by_order o ((p, form) ∷ row ∷ rows) ((row.0, form) ∷ rows) (row ∷ put path_cmp p form rows))) r) [
        | Less ↦ has_left (of form) (all_in (row ∷ rows)) r here
        | Equal ↦ has_left (of form) (all_in rows) r here
        | Greater ↦ has_right (of row.1) (all_in (put path_cmp p form rows)) r (put_has p form rows r here)
      ]

  -- what stood elsewhere still stands
  pub put_keeps : (p : Path) (form : Form) (rows : List (Path × Form)) (r : X) → Includes (all_in rows) r →
      Includes (all_in (put path_cmp p form rows)) r ⊎ Includes (all_at (find_entry path_cmp p rows)) r
  put_keeps p form [] r here = absurd here
  put_keeps p form (row ∷ rows) r here =
      elim (path_cmp p row.0) as (λ o. Includes (all_in (by_order o ((p, form) ∷ row ∷ rows) ((row.0, form) ∷ rows) (row ∷ put path_cmp p form rows))) r
      ⊎ Includes (all_at (cond (is_eq o) (Some row.1) (find_entry path_cmp p rows))) r) [
        | Less ↦ inl (has_right (of form) (all_in (row ∷ rows)) r here)
        | Equal ↦ elim (has_either (of row.1) (all_in rows) r here) [
          | inl own ↦ inr own
          | inr other ↦ inl (has_right (of form) (all_in rows) r other)
        ]
        | Greater ↦ elim (has_either (of row.1) (all_in rows) r here) [
          | inl own ↦ inl (has_left (of row.1) (all_in (put path_cmp p form rows)) r own)
          | inr other ↦ elim (put_keeps p form rows r other) [
            | inl still ↦ inl (has_right (of row.1) (all_in (put path_cmp p form rows)) r still)
            | inr there ↦ inr there
          ]
        ]
      ]

  pub put_from : (p : Path) (form : Form) (rows : List (Path × Form)) (r : X) → Includes (all_in (put path_cmp p form rows)) r →
      Includes (of form) r ⊎ Includes (all_in rows) r
  put_from p form [] r here = has_either (of form) [] r here
  put_from p form (row ∷ rows) r here =
      elim (path_cmp p row.0) as (λ o. Includes (all_in (by_order o ((p, form) ∷ row ∷ rows) ((row.0, form) ∷ rows) (row ∷ put path_cmp p form rows))) r
      → Includes (of form) r ⊎ Includes (all_in (row ∷ rows)) r) [
        | Less ↦ λ h. has_either (of form) (all_in (row ∷ rows)) r h
        | Equal ↦ λ h. elim (has_either (of form) (all_in rows) r h) [ inl a ↦ inl a | inr c ↦ inr (has_right (of row.1) (all_in rows) r c) ]
        | Greater ↦ λ h. elim (has_either (of row.1) (all_in (put path_cmp p form rows)) r h) [
          | inl a ↦ inr (has_left (of row.1) (all_in rows) r a)
          | inr c ↦ elim (put_from p form rows r c) [ inl d ↦ inl d | inr d ↦ inr (has_right (of row.1) (all_in rows) r d) ]
        ]
      ] here

  pub filter_either : (test : Path × Form → Bool) (rows : List (Path × Form)) (r : X) → Includes (all_in rows) r →
      Includes (all_in (filter test rows)) r ⊎ Includes (all_in (filter (λ row. not (test row)) rows)) r
  filter_either test [] r here = absurd here
  filter_either test (row ∷ rows) r here =
      elim (test row) as (λ t. Includes (all_in (cond t (row ∷ filter test rows) (filter test rows))) r
      ⊎ Includes (all_in (cond (not t) (row ∷ filter (λ x. not (test x)) rows) (filter (λ x. not (test x)) rows))) r) [
        | true ↦ elim (has_either (of row.1) (all_in rows) r here) [
          | inl own ↦ inl (has_left (of row.1) (all_in (filter test rows)) r own)
          | inr later ↦ elim (filter_either test rows r later) [
            | inl in_it ↦ inl (has_right (of row.1) (all_in (filter test rows)) r in_it)
            | inr out ↦ inr out
          ]
        ]
        | false ↦ elim (has_either (of row.1) (all_in rows) r here) [
          | inl own ↦ inr (has_left (of row.1) (all_in (filter (λ x. not (test x)) rows)) r own)
          | inr later ↦ elim (filter_either test rows r later) [
            | inl in_it ↦ inl in_it
            | inr out ↦ inr (has_right (of row.1) (all_in (filter (λ x. not (test x)) rows)) r out)
          ]
        ]
      ]

  pub filter_from : (test : Path × Form → Bool) (rows : List (Path × Form)) (r : X) → Includes (all_in (filter test rows)) r → Includes (all_in rows) r
  filter_from test [] r here = here
  filter_from test (row ∷ rows) r here =
      elim (test row) as (λ t. Includes (all_in (cond t (row ∷ filter test rows) (filter test rows))) r → Includes (all_in (row ∷ rows)) r) [
        | true ↦ λ h. elim (has_either (of row.1) (all_in (filter test rows)) r h) [
          | inl a ↦ has_left (of row.1) (all_in rows) r a
          | inr c ↦ has_right (of row.1) (all_in rows) r (filter_from test rows r c)
        ]
        | false ↦ λ h. has_right (of row.1) (all_in rows) r (filter_from test rows r h)
      ] here

  pub order_from : (rows : List (Path × Form)) (r : X) → Includes (all_in (in_path_order rows)) r → Includes (all_in rows) r
  order_from [] r here = here
  order_from (row ∷ rows) r here =
      elim (put_from row.0 row.1 (in_path_order rows) r here) [
        | inl a ↦ has_left (of row.1) (all_in rows) r a
        | inr c ↦ has_right (of row.1) (all_in rows) r (order_from rows r c)
      ]

  pub moved_from : (f : Path → Path) (rows : List (Path × Form)) (r : X) → Includes (all_in (map (λ row. (f row.0, row.1)) rows)) r → Includes (all_in rows) r
  moved_from f [] r here = here
  moved_from f (row ∷ rows) r here =
      elim (has_either (of row.1) (all_in (map (λ x. (f x.0, x.1)) rows)) r here) [
        | inl a ↦ has_left (of row.1) (all_in rows) r a
        | inr c ↦ has_right (of row.1) (all_in rows) r (moved_from f rows r c)
      ]

  pub at_path : (p : Path) (rows : List (Path × Form)) (r : X) → Includes (all_at (find_entry path_cmp p rows)) r → Includes (all_in rows) r
  at_path p [] r here = absurd here
  at_path p (row ∷ rows) r here =
      elim (eq_by_cmp path_cmp p row.0) as (λ t. Includes (all_at (cond t (Some row.1) (find_entry path_cmp p rows))) r → Includes (all_in (row ∷ rows)) r) [
        | true ↦ λ h. has_left (of row.1) (all_in rows) r h
        | false ↦ λ h. has_right (of row.1) (all_in rows) r (at_path p rows r h)
      ] here
