-- The child of each name, after a change at one.
use Rattle.std.proofs.Common.{◌≡◌, ℕ, true, false, cond, List, [], ◌∷◌, Option, Some, None, refl, sym, ap, ◌∙◌}
use Rattle.std.proofs.lemmas.Cmp.{tied_itself}
use Rattle.std.proofs.lemmas.Map.Keys.{sorted_head, sorted_tail}
use Rattle.std.proofs.lemmas.Map.Text.{is_eq-slice_cmp}
use Rattle.std.specs.BTreeMap.{insert_entry, is_at}
use Rattle.std.specs.Cmp.Lexicographic.{nat_list_cmp_total, nat_list_eq_equiv}
use Rattle.std.specs.List.{AllByRecursion}
use Rattle.std.specs.List.Sorted.{IsStrictlySortedBy}
use Rattle.std.specs.Map.{keys_of, remove_entry, set_value}
use Rattle.std.specs.Ordering.{is_eq, match_ordering}
use Rattle.std.specs.Str.{bytes_eq}
use Rattle.std.specs.declared.cmp.Ordering.TheVariants.{Less, Equal, Greater}
use Rattle.nn_model.proofs.Prefixes.{name_same}
use Rattle.nn_tree.proofs.Subtree.{Children, child}
use Rattle.nn_tree.proofs.Below.{apart as names_apart}
use Rattle.nn_tree.specs.declared.tree.Tree.{Tree}
use Rattle.nn_tree.specs.Name.{name_cmp}

-- g is w at the name n, and f at others
by_name : (f g : List ℕ → Option Tree) (n : List ℕ) (w : Option Tree) → g n ≡ w → ((x : List ℕ) → bytes_eq n x ≡ false → g x ≡ f x) → (x : List ℕ) → g x ≡ cond (bytes_eq n x) w (f x)
by_name f g n w here other x =
    elim (bytes_eq n x) as (λ b. bytes_eq n x ≡ b → g x ≡ cond b w (f x)) [
      | true ↦ λ e. ap g (sym (name_same n x e)) ∙ here
      | false ↦ λ e. other x e
    ] refl

-- a child of one name has no other one
apart : (n x : List ℕ) (k : List ℕ) → bytes_eq n x ≡ false → is_at (name_cmp n) k ≡ true → is_at (name_cmp x) k ≡ false
apart n x k e h =
    let same = name_same n k (sym (is_eq-slice_cmp n k) ∙ h) in
    is_eq-slice_cmp x k ∙ nat_list_eq_equiv.symm x k ∙ ap (λ y. bytes_eq y x) (sym same) ∙ e

-- ---- a value that is written

set_here : (n : List ℕ) (w t : Tree) (cs : Children) → child cs n ≡ Some t → child (set_value (is_at (name_cmp n)) cs w) n ≡ Some w
set_here n w t [] h = cc
set_here n w t (c ∷ cs) h =
    elim (is_at (name_cmp n) c.0) as (λ b. is_at (name_cmp n) c.0 ≡ b → cond b (Some c.1) (child cs n) ≡ Some t → child (cond b ((c.0, w) ∷ cs) (c ∷ set_value (is_at (name_cmp n)) cs w)) n ≡ Some w) [
      | true ↦ λ e g. ap (λ b. cond b (Some w) (child cs n)) e
      | false ↦ λ e g. ap (λ b. cond b (Some c.1) (child (set_value (is_at (name_cmp n)) cs w) n)) e ∙ set_here n w t cs g
    ] refl h

set_apart : (n x : List ℕ) (w : Tree) → bytes_eq n x ≡ false → (cs : Children) → child (set_value (is_at (name_cmp n)) cs w) x ≡ child cs x
set_apart n x w d [] = refl
set_apart n x w d (c ∷ cs) =
    elim (is_at (name_cmp n) c.0) as (λ b. is_at (name_cmp n) c.0 ≡ b → child (cond b ((c.0, w) ∷ cs) (c ∷ set_value (is_at (name_cmp n)) cs w)) x ≡ child (c ∷ cs) x) [
      | true ↦ λ e. ap (λ b. cond b (Some w) (child cs x)) (apart n x c.0 d e) ∙ sym (ap (λ b. cond b (Some c.1) (child cs x)) (apart n x c.0 d e))
      | false ↦ λ e. ap (λ o. cond (is_at (name_cmp x) c.0) (Some c.1) o) (set_apart n x w d cs)
    ] refl

pub child_set : (n : List ℕ) (w t : Tree) (cs : Children) → child cs n ≡ Some t → (x : List ℕ) → child (set_value (is_at (name_cmp n)) cs w) x ≡ cond (bytes_eq n x) (Some w) (child cs x)
child_set n w t cs h = by_name (child cs) (child (set_value (is_at (name_cmp n)) cs w)) n (Some w) (set_here n w t cs h) (λ x d. set_apart n x w d cs)

-- ---- a child that is taken out

-- no later child has the name of the first one
pub none_after : (n : List ℕ) (k : List ℕ) (cs : Children) → name_cmp n k ≡ Equal → AllByRecursion (λ y. name_cmp k y ≡ Less) (keys_of cs) → child cs n ≡ None
none_after n k [] h a = refl
none_after n k (c ∷ cs) h a = ap (λ b. cond b (Some c.1) (child cs n)) (names_apart n k c.0 h a.0) ∙ none_after n k cs h a.1

removed_here : (n : List ℕ) (cs : Children) → IsStrictlySortedBy name_cmp (keys_of cs) → child (remove_entry (is_at (name_cmp n)) cs) n ≡ None
removed_here n [] s = refl
removed_here n (c ∷ cs) s =
    elim (name_cmp n c.0) as (λ o. name_cmp n c.0 ≡ o → child (cond (is_eq o) cs (c ∷ remove_entry (is_at (name_cmp n)) cs)) n ≡ None) [
      | Less ↦ λ e. ap (λ o. cond (is_eq o) (Some c.1) (child (remove_entry (is_at (name_cmp n)) cs) n)) e ∙ removed_here n cs (sorted_tail name_cmp _ _ s)
      | Equal ↦ λ e. none_after n c.0 cs e (sorted_head name_cmp _ _ s)
      | Greater ↦ λ e. ap (λ o. cond (is_eq o) (Some c.1) (child (remove_entry (is_at (name_cmp n)) cs) n)) e ∙ removed_here n cs (sorted_tail name_cmp _ _ s)
    ] refl

removed_apart : (n x : List ℕ) → bytes_eq n x ≡ false → (cs : Children) → child (remove_entry (is_at (name_cmp n)) cs) x ≡ child cs x
removed_apart n x d [] = refl
removed_apart n x d (c ∷ cs) =
    elim (is_at (name_cmp n) c.0) as (λ b. is_at (name_cmp n) c.0 ≡ b → child (cond b cs (c ∷ remove_entry (is_at (name_cmp n)) cs)) x ≡ child (c ∷ cs) x) [
      | true ↦ λ e. sym (ap (λ b. cond b (Some c.1) (child cs x)) (apart n x c.0 d e))
      | false ↦ λ e. ap (λ o. cond (is_at (name_cmp x) c.0) (Some c.1) o) (removed_apart n x d cs)
    ] refl

pub child_removed : (n : List ℕ) (cs : Children) → IsStrictlySortedBy name_cmp (keys_of cs) → (x : List ℕ) → child (remove_entry (is_at (name_cmp n)) cs) x ≡ cond (bytes_eq n x) None (child cs x)
child_removed n cs s = by_name (child cs) (child (remove_entry (is_at (name_cmp n)) cs)) n None (removed_here n cs s) (λ x d. removed_apart n x d cs)

-- ---- a child that is put in

inserted_apart : (k : List ℕ) (x : List ℕ) (w : Tree) → bytes_eq k x ≡ false → is_at (name_cmp x) k ≡ false → (cs : Children) → child (insert_entry name_cmp cs k w) x ≡ child cs x
inserted_apart k x w d m [] = ap (λ b. cond b (Some w) None) m
inserted_apart k x w d m (c ∷ cs) =
    elim (name_cmp k c.0) as (λ o. name_cmp k c.0 ≡ o → child (match_ordering o ((k, w) ∷ c ∷ cs) ((c.0, w) ∷ cs) (c ∷ insert_entry name_cmp cs k w)) x ≡ child (c ∷ cs) x) [
      | Less ↦ λ e. ap (λ b. cond b (Some w) (child (c ∷ cs) x)) m
      | Equal ↦ λ e. ap (λ b. cond b (Some w) (child cs x)) (apart k x c.0 d (ap is_eq e)) ∙ sym (ap (λ b. cond b (Some c.1) (child cs x)) (apart k x c.0 d (ap is_eq e)))
      | Greater ↦ λ e. ap (λ o. cond (is_at (name_cmp x) c.0) (Some c.1) o) (inserted_apart k x w d m cs)
    ] refl

pub inserted_here : (k : List ℕ) (w : Tree) (cs : Children) → child (insert_entry name_cmp cs k w) k ≡ Some w
inserted_here k w [] = ap (λ o. cond (is_eq o) (Some w) None) (tied_itself nat_list_cmp_total k)
inserted_here k w (c ∷ cs) =
    elim (name_cmp k c.0) as (λ o. name_cmp k c.0 ≡ o → child (match_ordering o ((k, w) ∷ c ∷ cs) ((c.0, w) ∷ cs) (c ∷ insert_entry name_cmp cs k w)) k ≡ Some w) [
      | Less ↦ λ e. ap (λ o. cond (is_eq o) (Some w) (child (c ∷ cs) k)) (tied_itself nat_list_cmp_total k)
      | Equal ↦ λ e. ap (λ o. cond (is_eq o) (Some w) (child cs k)) e
      | Greater ↦ λ e. ap (λ o. cond (is_eq o) (Some c.1) (child (insert_entry name_cmp cs k w) k)) e ∙ inserted_here k w cs
    ] refl

pub child_inserted : (k : List ℕ) (w : Tree) (cs : Children) → (x : List ℕ) → child (insert_entry name_cmp cs k w) x ≡ cond (bytes_eq k x) (Some w) (child cs x)
child_inserted k w cs =
    by_name (child cs) (child (insert_entry name_cmp cs k w)) k (Some w) (inserted_here k w cs)
    (λ x d. inserted_apart k x w d (is_eq-slice_cmp x k ∙ nat_list_eq_equiv.symm x k ∙ d) cs)
