-- Rows that are kept by a test: what stands among them, and which changes of rows come to the same before the test and behind it.
use Rattle.std.proofs.Common.{◌≡◌, Bool, true, false, cond, not, List, [], ◌∷◌, ◌++◌, length, drop, filter, Option, Some, None, refl, sym, ap, subst, ◌∙◌, inl, inr}
use Rattle.std.specs.Prelude.{is_some}
use Rattle.std.specs.FinMap.Entries.{put, is_sorted, below_all, find-put, is_sorted-put, is_sorted-where_key}
use Rattle.std.proofs.lemmas.Bool.{and_parts, and_from, cond-true, cond-false, cases_Bool}
use Rattle.nn_model.specs.declared.form.Form.{Form}
use Rattle.nn_model.specs.Namespace.{Path, path_cmp, begins_with}
use Rattle.nn_model.specs.Apply.{in_path_order}
use Rattle.nn_model.proofs.Lookups.{paths_total, same_rows, lookup_delete}
use Rattle.nn_model.proofs.Moves.{found, moved_all, after_rename, lookup_rename}
use Rattle.nn_model.proofs.Prefixes.{same, same_true, begins_split}
use Rattle.nn_model.proofs.Wells.{from_T, to_T, not_below, sorted_in_order}

-- rows in path order
abbrev pub Ordered : List (Path × Form) → Type 0
Ordered rows = is_sorted path_cmp rows ≡ true

pub ordered_put : (p : Path) (form : Form) (rows : List (Path × Form)) → Ordered rows → Ordered (put path_cmp p form rows)
ordered_put p form rows sorted = from_T _ (is_sorted-put path_cmp paths_total p form rows (to_T _ sorted))

abbrev pub without : Path → List (Path × Form) → List (Path × Form)
without p rows = filter (λ row. not (begins_with p row.0)) rows

pub ordered_without : (p : Path) (rows : List (Path × Form)) → Ordered rows → Ordered (without p rows)
ordered_without p rows sorted = from_T _ (is_sorted-where_key path_cmp (λ q. not (begins_with p q)) rows (to_T _ sorted))

module _ (test : Path × Form → Bool) where
  -- ---- what is kept of what stands at a path

  abbrev pub kept_at : Path → Option Form → Option Form
  kept_at q None = None
  kept_at q (Some form) = cond (test (q, form)) (Some form) None

  -- whatever stands there
  pub always_kept : (q : Path) (o : Option Form) → ((form : Form) → test (q, form) ≡ true) → kept_at q o ≡ o
  always_kept q None always = refl
  always_kept q (Some form) always = cond-true (test (q, form)) (Some form) None (always form)

  never_kept : (q : Path) (o : Option Form) → ((form : Form) → test (q, form) ≡ false) → kept_at q o ≡ None
  never_kept q None never = refl
  never_kept q (Some form) never = cond-false (test (q, form)) (Some form) None (never form)

  kept_alike : (p q : Path) (o : Option Form) → ((form : Form) → test (p, form) ≡ test (q, form)) → kept_at p o ≡ kept_at q o
  kept_alike p q None alike = refl
  kept_alike p q (Some form) alike = ap (λ b. cond b (Some form) None) (alike form)

  kept_where : (q : Path) (stays : Bool) (o : Option Form) → cond stays (kept_at q o) None ≡ kept_at q (cond stays o None)
  kept_where q true o = refl
  kept_where q false o = refl

  kept_unless : (q : Path) (gone : Bool) (o : Option Form) → cond gone None (kept_at q o) ≡ kept_at q (cond gone None o)
  kept_unless q true o = refl
  kept_unless q false o = refl

  pub kept_some : (q : Path) (o : Option Form) (form : Form) → kept_at q o ≡ Some form → o ≡ Some form
  kept_some q None form there = there
  kept_some q (Some other) form there = elim (test (q, other)) as (λ b. cond b (Some other) None ≡ Some form → Some other ≡ Some form) [
    | true ↦ λ e. e
    | false ↦ λ e. absurd (cc)
  ] there

  pub kept_stands : (q : Path) (o : Option Form) → is_some (kept_at q o) ≡ true → is_some o ≡ true
  kept_stands q None there = there
  kept_stands q (Some form) there = refl

  -- ---- rows

  abbrev pub kept : List (Path × Form) → List (Path × Form)
  kept rows = filter test rows

  if_first : (q : Path) (row : Path × Form) (rows : List (Path × Form)) (b : Bool) →
      found q (cond b (row ∷ rows) rows) ≡ cond b (cond (same q row.0) (Some row.1) (found q rows)) (found q rows)
  if_first q row rows true = refl
  if_first q row rows false = refl

  hit : (b here : Bool) (form : Form) (o : Option Form) → here ≡ true → o ≡ None → cond b (cond here (Some form) o) o ≡ cond b (Some form) None
  hit true here form o is none = cond-true here (Some form) o is
  hit false here form o is none = none

  passed : (b here : Bool) (form : Form) (o : Option Form) → here ≡ false → cond b (cond here (Some form) o) o ≡ o
  passed true here form o isnt = cond-false here (Some form) o isnt
  passed false here form o isnt = refl

  pub find_kept : (q : Path) (rows : List (Path × Form)) → Ordered rows → found q (kept rows) ≡ kept_at q (found q rows)
  find_kept q [] sorted = refl
  find_kept q (row ∷ rows) sorted =
      let parts = and_parts (below_all path_cmp row.0 rows) (is_sorted path_cmp rows) sorted in
      let later = find_kept q rows parts.1 in
      if_first q row (kept rows) (test row)
      ∙ elim (cases_Bool (same q row.0)) [
        | inl here ↦
            let is : q ≡ row.0 = same_true q row.0 here in
            let none : found q rows ≡ None = ap (λ p. found p rows) is ∙ not_below row.0 rows parts.0 in
            hit (test row) (same q row.0) row.1 (found q (kept rows)) here (later ∙ ap (kept_at q) none)
            ∙ ap (λ p. kept_at p (Some row.1)) (sym is) ∙ ap (kept_at q) (sym (cond-true (same q row.0) (Some row.1) (found q rows) here))
        | inr other ↦ passed (test row) (same q row.0) row.1 (found q (kept rows)) other
            ∙ later ∙ ap (kept_at q) (sym (cond-false (same q row.0) (Some row.1) (found q rows) other))
      ]

  below_kept : (p : Path) (rows : List (Path × Form)) → below_all path_cmp p rows ≡ true → below_all path_cmp p (kept rows) ≡ true
  below_kept p [] below = refl
  below_kept p (row ∷ rows) below =
      let parts = and_parts _ (below_all path_cmp p rows) below in
      elim (test row) as (λ b. below_all path_cmp p (cond b (row ∷ kept rows) (kept rows)) ≡ true) [
        | true ↦ and_from _ _ parts.0 (below_kept p rows parts.1)
        | false ↦ below_kept p rows parts.1
      ]

  pub ordered_kept : (rows : List (Path × Form)) → Ordered rows → Ordered (kept rows)
  ordered_kept [] sorted = refl
  ordered_kept (row ∷ rows) sorted =
      let parts = and_parts (below_all path_cmp row.0 rows) (is_sorted path_cmp rows) sorted in
      elim (test row) as (λ b. is_sorted path_cmp (cond b (row ∷ kept rows) (kept rows)) ≡ true) [
        | true ↦ and_from _ _ (below_kept row.0 rows parts.0) (ordered_kept rows parts.1)
        | false ↦ ordered_kept rows parts.1
      ]

  -- rows in order that answer as what is kept of others are what is kept of them
  are_kept : (rows whole : List (Path × Form)) → Ordered rows → Ordered whole → ((q : Path) → found q rows ≡ kept_at q (found q whole)) → rows ≡ kept whole
  are_kept rows whole sorted in_order answers =
      same_rows rows (kept whole) (to_T _ sorted) (to_T _ (ordered_kept whole in_order)) (λ q. answers q ∙ sym (find_kept q whole in_order))

  -- ---- a row is put where all are kept, or where none is

  module _ (p : Path) (form : Form) (rows : List (Path × Form)) (sorted : Ordered rows) where
    put_answers : (q : Path) → found q (put path_cmp p form rows) ≡ cond (same q p) (Some form) (found q rows)
    put_answers q = find-put path_cmp paths_total q p form rows

    pub put_kept : ((other : Form) → test (p, other) ≡ true) → put path_cmp p form (kept rows) ≡ kept (put path_cmp p form rows)
    put_kept always =
        are_kept (put path_cmp p form (kept rows)) (put path_cmp p form rows) (ordered_put p form (kept rows) (ordered_kept rows sorted)) (ordered_put p form rows sorted)
        (λ q. find-put path_cmp paths_total q p form (kept rows)
        ∙ ap (cond (same q p) (Some form)) (find_kept q rows sorted) ∙ at q (found q rows) ∙ ap (kept_at q) (sym (put_answers q)))
      where
        at : (q : Path) (o : Option Form) → cond (same q p) (Some form) (kept_at q o) ≡ kept_at q (cond (same q p) (Some form) o)
        at q o = elim (cases_Bool (same q p)) [
          | inl here ↦ cond-true (same q p) (Some form) (kept_at q o) here
              ∙ sym (always_kept q (Some form) (subst (λ x. (other : Form) → test (x, other) ≡ true) (sym (same_true q p here)) always))
              ∙ ap (kept_at q) (sym (cond-true (same q p) (Some form) o here))
          | inr other ↦ cond-false (same q p) (Some form) (kept_at q o) other ∙ ap (kept_at q) (sym (cond-false (same q p) (Some form) o other))
        ]

    pub put_passed : ((other : Form) → test (p, other) ≡ false) → kept (put path_cmp p form rows) ≡ kept rows
    put_passed never =
        sym (are_kept (kept rows) (put path_cmp p form rows) (ordered_kept rows sorted) (ordered_put p form rows sorted)
        (λ q. find_kept q rows sorted ∙ at q (found q rows) ∙ ap (kept_at q) (sym (put_answers q))))
      where
        at : (q : Path) (o : Option Form) → kept_at q o ≡ kept_at q (cond (same q p) (Some form) o)
        at q o = elim (cases_Bool (same q p)) [
          | inl here ↦
              let none : (other : Form) → test (q, other) ≡ false = subst (λ x. (other : Form) → test (x, other) ≡ false) (sym (same_true q p here)) never in
              never_kept q o none ∙ sym (never_kept q (Some form) none) ∙ ap (kept_at q) (sym (cond-true (same q p) (Some form) o here))
          | inr other ↦ ap (kept_at q) (sym (cond-false (same q p) (Some form) o other))
        ]

  -- ---- rows are left out, or move

  pub without_kept : (p : Path) (rows : List (Path × Form)) → Ordered rows → without p (kept rows) ≡ kept (without p rows)
  without_kept p rows sorted =
      are_kept (without p (kept rows)) (without p rows) (ordered_without p (kept rows) (ordered_kept rows sorted)) (ordered_without p rows sorted)
      (λ q. lookup_delete (kept rows) p q ∙ ap (λ o. cond (not (begins_with p q)) o None) (find_kept q rows sorted)
      ∙ kept_where q (not (begins_with p q)) (found q rows) ∙ ap (kept_at q) (sym (lookup_delete rows p q)))

  -- nothing stood at the target or below, and what moves is kept at the target as at the source
  pub moved_kept : (s d : Path) (rows : List (Path × Form)) → ((more : Path) (form : Form) → test (s ++ more, form) ≡ test (d ++ more, form)) →
      ((more : Path) → found (d ++ more) rows ≡ None) → Ordered rows → in_path_order (moved_all s d (kept rows)) ≡ kept (in_path_order (moved_all s d rows))
  moved_kept s d rows alike free sorted =
      are_kept (in_path_order (moved_all s d (kept rows))) (in_path_order (moved_all s d rows))
      (sorted_in_order (moved_all s d (kept rows))) (sorted_in_order (moved_all s d rows))
      (λ q. lookup_rename (kept rows) s d q (λ more. find_kept (d ++ more) rows sorted ∙ ap (kept_at (d ++ more)) (free more))
      ∙ (λ j. after_rename (λ p. find_kept p rows sorted j) s d q)
      ∙ at q ∙ ap (kept_at q) (sym (lookup_rename rows s d q free)))
    where
      f : Path → Option Form
      f p = found p rows

      at : (q : Path) → after_rename (λ p. kept_at p (f p)) s d q ≡ kept_at q (after_rename f s d q)
      at q = elim (cases_Bool (begins_with d q)) [
        | inl below ↦
            let more : Path = drop (length d) q in
            cond-true (begins_with d q) _ _ below
            ∙ kept_alike (s ++ more) q (f (s ++ more)) (λ form. alike more form ∙ ap (λ x. test (x, form)) (sym (begins_split d q below)))
            ∙ ap (kept_at q) (sym (cond-true (begins_with d q) (f (s ++ more)) (cond (begins_with s q) None (f q)) below))
        | inr beside ↦ cond-false (begins_with d q) _ _ beside
            ∙ kept_unless q (begins_with s q) (f q)
            ∙ ap (kept_at q) (sym (cond-false (begins_with d q) (f (s ++ drop (length d) q)) (cond (begins_with s q) None (f q)) beside))
      ]
