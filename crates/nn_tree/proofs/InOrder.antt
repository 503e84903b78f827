-- A tree stays in path order where one child of a directory changes.
use Rattle.std.proofs.Common.{◌≡◌, ℕ, Bool, true, false, cond, List, [], ◌∷◌, Option, Some, None, refl, sym, ap, ◌∙◌}
use Rattle.std.specs.Prelude.{IfSome}
use Rattle.std.specs.declared.cmp.Ordering.TheVariants.{Less, Equal, Greater}
use Rattle.std.specs.Ordering.{is_eq}
use Rattle.std.specs.Cmp.Lexicographic.{nat_list_cmp_total}
use Rattle.std.specs.BTreeMap.{is_at}
use Rattle.std.specs.Map.{keys_of, values_of}
use Rattle.std.specs.List.Sorted.{IsStrictlySortedBy}
use Rattle.std.specs.FinMap.Entries.{is_sorted}
use Rattle.std.proofs.lemmas.Cmp.{tied_itself}
use Rattle.std.proofs.lemmas.Map.Keys.{sorted_head, sorted_tail}
use Rattle.std.specs.Str.{bytes_eq}
use Rattle.nn_model.specs.declared.form.Form.{Form}
use Rattle.nn_model.specs.Namespace.{Path, path_cmp}
use Rattle.nn_tree.specs.declared.tree.Tree.{Tree}
use Rattle.nn_tree.proofs.ByName.{none_after}
use Rattle.nn_tree.proofs.Sorted.{AllSorted, sorted_rows, sorted_children, sorted_tail_rows}
use Rattle.nn_tree.proofs.Subtree.{Children, child, dir_rows, IsDir}
use Rattle.nn_tree.proofs.Step.{Becomes}
use Rattle.nn_tree.specs.Name.{name_cmp}

-- each child that a name finds is in path order
abbrev EachSorted : Children → Type 0
EachSorted cs = (n : List ℕ) (t : Tree) → child cs n ≡ Some t → is_sorted path_cmp t ≡ true

each_sorted : (cs : Children) → AllSorted (values_of cs) → EachSorted cs
each_sorted [] a n t h = absurd (cc)
each_sorted (c ∷ cs) a n t h = first_or (λ g. each_sorted cs a.1 n t g) (is_at (name_cmp n) c.0) h
  where
    first_or : (child cs n ≡ Some t → is_sorted path_cmp t ≡ true) → (b : Bool) → cond b (Some c.1) (child cs n) ≡ Some t → is_sorted path_cmp t ≡ true
    first_or others true g = (let same : t ≡ c.1 = cc in ap (is_sorted path_cmp) same ∙ a.0)
    first_or others false g = others g

-- a child of a directory in path order
pub child_sorted : (es : List (Path × Form)) (m : Children) (n : List ℕ) (t : Tree) → IsDir es m → is_sorted path_cmp es ≡ true → Some t ≡ child m n → is_sorted path_cmp t ≡ true
child_sorted es m n t d s h = each_sorted m (sorted_children m (sorted_tail_rows m (ap (is_sorted path_cmp) d.is ∙ s))) n t (sym h)

all_sorted : (cs : Children) → IsStrictlySortedBy name_cmp (keys_of cs) → EachSorted cs → AllSorted (values_of cs)
all_sorted [] s e = tt
all_sorted (c ∷ cs) s e = (
  e c.0 c.1 (ap (λ o. cond (is_eq o) (Some c.1) (child cs c.0)) (tied_itself nat_list_cmp_total c.0)),
  all_sorted cs (sorted_tail name_cmp _ _ s) (λ n t h. e n t (later n t h)),
)
  where
    later : (n : List ℕ) (t : Tree) → child cs n ≡ Some t → child (c ∷ cs) n ≡ Some t
    later n t h =
        elim (name_cmp n c.0) as (λ o. name_cmp n c.0 ≡ o → cond (is_eq o) (Some c.1) (child cs n) ≡ Some t) [
          | Less ↦ λ g. h
          | Equal ↦ λ g. (let none = none_after n c.0 cs g (sorted_head name_cmp _ _ s) in absurd (cc (none, h)))
          | Greater ↦ λ g. h
        ] refl

-- the child of the name n becomes o
pub stays_sorted : (es : List (Path × Form)) (m k : Children) (n : List ℕ) (o : Option Tree) → IsDir es m → Becomes m k n o → is_sorted path_cmp es ≡ true → IfSome o (λ w. is_sorted path_cmp w ≡ true) → is_sorted path_cmp (dir_rows k) ≡ true
stays_sorted es m k n o d b s w = sorted_rows k b.ordered (all_sorted k b.ordered (λ x t h. cases x t (bytes_eq n x) (sym (b.updates x) ∙ h)))
  where
    before : AllSorted (values_of m)
    before = sorted_children m (sorted_tail_rows m (ap (is_sorted path_cmp) d.is ∙ s))

    became : (o : Option Tree) (t : Tree) → IfSome o (λ v. is_sorted path_cmp v ≡ true) → o ≡ Some t → is_sorted path_cmp t ≡ true
    became None t i h = absurd (cc)
    became (Some v) t i h = (let same : t ≡ v = cc in ap (is_sorted path_cmp) same ∙ i)

    cases : (x : List ℕ) (t : Tree) (c : Bool) → cond c o (child m x) ≡ Some t → is_sorted path_cmp t ≡ true
    cases x t true h = became o t w h
    cases x t false h = each_sorted m before x t h
