-- Rows from a path on go on where they stopped.
use Rattle.std.proofs.Common.{◌≡◌, Bool, true, false, cond, List, [], ◌∷◌, ◌++◌, refl, sym, ap, subst, ◌∙◌}
use Rattle.std.specs.Prelude.{T}
use Rattle.std.specs.declared.cmp.Ordering.{Ordering}
use Rattle.std.specs.declared.cmp.Ordering.TheVariants.{Less, Equal, Greater}
use Rattle.std.specs.Ordering.{is_lt, is_le, ordering_reverse}
use Rattle.std.specs.FinMap.Entries.{is_sorted, below_all, is_sorted-where_key}
use Rattle.std.proofs.lemmas.Bool.{and_parts}
use Rattle.std.proofs.lemmas.Cmp.{tied_itself}
use Rattle.nn_model.specs.declared.form.Form.{Form}
use Rattle.nn_model.specs.Namespace.{Path, path_cmp}
use Rattle.nn_model.proofs.Lookups.{paths_total, paths_apart}
use Rattle.nn_model.proofs.Wells.{to_T}
use Rattle.nn_tree.specs.Rows.{rows_from, Resumes}

abbrev Rows : Type 0
Rows = List (Path × Form)

le_on : (p q r : Path) → is_le (path_cmp p q) ≡ true → is_le (path_cmp q r) ≡ true → is_le (path_cmp p r) ≡ true
le_on p q r h k =
    elim (path_cmp p q) as (λ o. path_cmp p q ≡ o → is_le o ≡ true → is_le (path_cmp p r) ≡ true) [
      | Less ↦ λ a _. elim (path_cmp q r) as (λ o. path_cmp q r ≡ o → is_le o ≡ true → is_le (path_cmp p r) ≡ true) [
        | Less ↦ λ b _. ap is_le (paths_total.trans p q r a b)
        | Equal ↦ λ b _. ap (λ x. is_le (path_cmp p x)) (sym (paths_apart q r b)) ∙ ap is_le a
        | Greater ↦ λ b w. cc
      ] refl k
      | Equal ↦ λ a _. ap (λ x. is_le (path_cmp x r)) (paths_apart p q a) ∙ k
      | Greater ↦ λ a w. cc
    ] refl h

-- what comes before p comes before a later q
not_on : (p q x : Path) → is_le (path_cmp p q) ≡ true → is_le (path_cmp p x) ≡ false → is_le (path_cmp q x) ≡ false
not_on p q x h k =
    elim (is_le (path_cmp q x)) as (λ b. is_le (path_cmp q x) ≡ b → b ≡ false) [
      | true ↦ λ e. let both : true ≡ false = sym (le_on p q x h e) ∙ k in cc
      | false ↦ λ e. refl
    ] refl

-- from p on, and then from a later q on
from_later : (p q : Path) (rows : Rows) → is_le (path_cmp p q) ≡ true → rows_from q (rows_from p rows) ≡ rows_from q rows
from_later p q [] h = refl
from_later p q (x ∷ rows) h =
    let rest = from_later p q rows h in
    elim (is_le (path_cmp p x.0)) as (λ b. is_le (path_cmp p x.0) ≡ b → rows_from q (cond b (x ∷ rows_from p rows) (rows_from p rows)) ≡ rows_from q (x ∷ rows)) [
      | true ↦ λ e. ap (λ r. cond (is_le (path_cmp q x.0)) (x ∷ r) r) rest
      | false ↦ λ e. rest ∙ ap (λ b. cond b (x ∷ rows_from q rows) (rows_from q rows)) (sym (not_on p q x.0 h e))
    ] refl

abbrev AllFrom : Path → Rows → Type 0
AllFrom p [] = Unit {0}
AllFrom p (x ∷ rows) = (is_le (path_cmp p x.0) ≡ true) × AllFrom p rows

all_from : (p : Path) (rows : Rows) → AllFrom p (rows_from p rows)
all_from p [] = tt
all_from p (x ∷ rows) =
    elim (is_le (path_cmp p x.0)) as (λ b. is_le (path_cmp p x.0) ≡ b → AllFrom p (cond b (x ∷ rows_from p rows) (rows_from p rows))) [
      | true ↦ λ e. (e, all_from p rows)
      | false ↦ λ e. all_from p rows
    ] refl

at_later : (p : Path) (prefix : Rows) (row : Path × Form) (back : Rows) → AllFrom p (prefix ++ row ∷ back) → is_le (path_cmp p row.0) ≡ true
at_later p [] row back h = h.0
at_later p (x ∷ prefix) row back h = at_later p prefix row back h.1

below_at : (p : Path) (prefix : Rows) (row : Path × Form) (back : Rows) → below_all path_cmp p (prefix ++ row ∷ back) ≡ true → is_lt (path_cmp p row.0) ≡ true
below_at p [] row back h = (and_parts (is_lt (path_cmp p row.0)) (below_all path_cmp p back) h).0
below_at p (x ∷ prefix) row back h = below_at p prefix row back (and_parts (is_lt (path_cmp p x.0)) (below_all path_cmp p (prefix ++ row ∷ back)) h).1

less_of : (o : Ordering) → is_lt o ≡ true → o ≡ Less
less_of Less h = refl
less_of Equal h = cc
less_of Greater h = cc

all_behind : (q : Path) (rows : Rows) → below_all path_cmp q rows ≡ true → rows_from q rows ≡ rows
all_behind q [] h = refl
all_behind q (x ∷ rows) h =
    let both = and_parts (is_lt (path_cmp q x.0)) (below_all path_cmp q rows) h in
    (λ j. cond (is_le (less_of (path_cmp q x.0) both.0 j)) (x ∷ all_behind q rows both.1 j) (all_behind q rows both.1 j))

-- of rows in order, those from one of them on
from_one : (prefix : Rows) (row : Path × Form) (back : Rows) → is_sorted path_cmp (prefix ++ row ∷ back) ≡ true → rows_from row.0 (prefix ++ row ∷ back) ≡ row ∷ back
from_one [] row back s =
    let both = and_parts (below_all path_cmp row.0 back) (is_sorted path_cmp back) s in
    (λ j. cond (is_le (tied_itself paths_total row.0 j)) (row ∷ all_behind row.0 back both.0 j) (all_behind row.0 back both.0 j))
from_one (x ∷ prefix) row back s =
    let both = and_parts (below_all path_cmp x.0 (prefix ++ row ∷ back)) (is_sorted path_cmp (prefix ++ row ∷ back)) s in
    let less = less_of (path_cmp x.0 row.0) (below_at x.0 prefix row back both.0) in
    let later : path_cmp row.0 x.0 ≡ Greater = paths_total.antisymm row.0 x.0 ∙ ap ordering_reverse less in
    ap (λ o. cond (is_le o) (x ∷ rows_from row.0 (prefix ++ row ∷ back)) (rows_from row.0 (prefix ++ row ∷ back))) later ∙ from_one prefix row back both.1

sorted_from : (p : Path) (rows : Rows) → is_sorted path_cmp rows ≡ true → is_sorted path_cmp (rows_from p rows) ≡ true
sorted_from p rows s = from_T _ (is_sorted-where_key path_cmp (λ q. is_le (path_cmp p q)) rows (to_T _ s))
  where
    from_T : (b : Bool) → T b → b ≡ true
    from_T true h = refl
    from_T false h = absurd h

pub resumes : (rows : Rows) → is_sorted path_cmp rows ≡ true → Resumes rows
resumes rows s p prefix row back is =
    let later = at_later p prefix row back (subst (AllFrom p) is (all_from p rows)) in
    sym (from_later p row.0 rows later) ∙ ap (rows_from row.0) is ∙ from_one prefix row back (subst (λ rs. is_sorted path_cmp rs ≡ true) is (sorted_from p rows s))
