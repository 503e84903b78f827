-- What a change in one walk comes to, a step further up.
use Rattle.std.proofs.Common.{◌≡◌, append-nil, ℕ, true, false, List, [], ◌∷◌, length, Option, is_some, Some, None, refl, sym, ap, subst, ◌∙◌, cond, ◌&&◌, ◌++◌, drop, IsSome, nat_lt}
use Rattle.nn_model.specs.declared.form.Form.{Form}
use Rattle.nn_model.specs.declared.form.Form.TheVariants.{Dir}
use Rattle.nn_model.specs.Namespace.{Path, begins_with}
use Rattle.nn_tree.specs.At.{at, rows, grafted, IsSame}
use Rattle.nn_tree.specs.Changes.{IsMade}
use Rattle.nn_model.specs.Apply.{first_fault, fault_if, in_directory, is_root, walk, exists, missing}
use Rattle.nn_tree.specs.Walks.{mkdir_fault, delete_fault, rename_fault}
use Rattle.nn_model.proofs.Dues.{all_none}
use Rattle.nn_model.proofs.Prefixes.{name_same, begins_split, begins_append}
use Rattle.nn_types.specs.declared.edit_fault.EditFault.TheVariants.{IntoItself}
use Rattle.std.specs.Prelude.{bytes_eq}
use Rattle.nn_tree.proofs.Prefix.{some_none, graft_at, graft_by}
use Rattle.nn_tree.proofs.Maps.{delete_by_row}
use Rattle.std.proofs.lemmas.Bool.{both_ways, false_from_ne_true}
use Rattle.nn_tree.specs.declared.tree.Tree.{Tree}
use Rattle.nn_tree.proofs.Subtree.{Children, child, dir_rows, IsDir, at_top, found}
use Rattle.nn_tree.proofs.Step.{Becomes, at_changed, graft_here, graft_nothing}

-- ---- a tree that is made
pub none_at : {A : Type 0} (o : Option A) → false ≡ is_some o → o ≡ None
none_at None h = refl
none_at (Some t) h = absurd (both_ways _ refl h)

pub made_fault : (f : Path → Option Form) (p : Path) → is_root p ≡ None → walk f p ≡ None → f p ≡ None → mkdir_fault f p ≡ None
made_fault f p r w a = λ j. first_fault (r j ∷ w j ∷ exists (a j) ∷ [])

-- in the directory es itself, under a name that no child has
pub made_here : (es : List (Path × Form)) (m k : Children) (n : List ℕ) (ps : Path) (t : Tree) → ps ≡ n ∷ [] → IsDir es m → child m n ≡ None → Becomes m k n (Some t) → IsMade es ps t (dir_rows k)
made_here es m k n ps t e d g b =
    let free : (q : Path) → at es (n ∷ q) ≡ None = found es m n None d (sym g) in
    let walked : walk (at es) (n ∷ []) ≡ None = ap (λ o. in_directory o None) (at_top es m d) in
    subst (λ (p : Path). IsMade es p t (dir_rows k)) (sym e) (made_fault (at es) (n ∷ []) refl walked (free []), free, graft_here es m k n (Some t) d b)

-- what stood there, put back instead of what came
pub put_back : (es : List (Path × Form)) (m k l : Children) (n : List ℕ) (t w : Tree) → IsDir es m → Some w ≡ child m n → Becomes m k n (Some t) → Becomes k l n (Some w) → IsSame es (dir_rows l)
put_back es m k l n t w d g b c [] = sym (at_top es m d)
put_back es m k l n t w d g b c (x ∷ q) =
    at_changed (dir_rows k) k l n (Some w) (record { is = refl; ordered = b.ordered }) c x q
    ∙ ap (cond (bytes_eq n x) (at w q)) (at_changed es m k n (Some t) d b x q)
    ∙ elim (bytes_eq n x) as (λ i. bytes_eq n x ≡ i → cond i (at w q) (cond i (at t q) (at es (x ∷ q))) ≡ at es (x ∷ q)) [
      | true ↦ λ e. sym (found es m n (Some w) d g q) ∙ ap (λ y. at es (y ∷ q)) (name_same n x e)
      | false ↦ λ e. refl
    ] refl

-- ---- a rename
rename_lawful : (f : Path → Option Form) (s d : Path) → delete_fault f s ≡ None → begins_with s d ≡ false → mkdir_fault f d ≡ None → rename_fault f s d ≡ None
rename_lawful f s d gone outside made =
    let source = all_none (is_root s ∷ walk f s ∷ missing (f s) ∷ []) gone in
    let target = all_none (is_root d ∷ walk f d ∷ exists (f d) ∷ []) made in
    λ j. first_fault (source.0 j ∷ target.0 j ∷ source.1.0 j ∷ source.1.1.0 j ∷ fault_if (outside j && nat_lt (length s) (length d)) IntoItself ∷ target.1.0 j ∷ target.1.1.0 j ∷ [])

-- the walk to s is the same after something was made at d, which is no part of s
walk_same : (f g h : Path → Option Form) (d s : Path) → begins_with d s ≡ false → ((q : Path) → g q ≡ grafted f d h q) → walk g s ≡ walk f s
walk_same f g h [] s a e = cc
walk_same f g h (m ∷ ms) [] a e = refl
walk_same f g h (m ∷ ms) (n ∷ ns) a e =
    ap (λ o. in_directory o (walk (λ q. g (n ∷ q)) ns)) (e [])
    ∙ ap (in_directory (f [])) (elim (bytes_eq m n) as (λ b. bytes_eq m n ≡ b → (b && begins_with ms ns) ≡ false → ((q : Path) → g (n ∷ q) ≡ cond b (grafted (λ r. f (m ∷ r)) ms h q) (f (n ∷ q))) → walk (λ q. g (n ∷ q)) ns ≡ walk (λ q. f (n ∷ q)) ns) [
      | true ↦ λ i b k. walk_same (λ q. f (m ∷ q)) (λ q. g (n ∷ q)) h ms ns b k ∙ ap (λ y. walk (λ q. f (y ∷ q)) ns) (name_same m n i)
      | false ↦ λ i b k. (λ j. walk (λ q. k q j) ns)
    ] refl a (λ q. e (n ∷ q)))

-- what stands at s doesn't lie at the new directory d or below it
not_in_place : (f g : Path → Option Form) (s d r : Path) → begins_with s d ≡ false → ((q : Path) → g q ≡ grafted f d (at (([], Dir) ∷ [])) q) → IsSome (g s) → s ≡ d ++ r → ⊥
not_in_place f g s d [] a e h k = both_ways _ a (ap (begins_with s) (sym (k ∙ append-nil d) ∙ sym (append-nil s)) ∙ begins_append s [])
not_in_place f g s d (x ∷ r) a e h k = some_none (g s) (ap g k ∙ e (d ++ x ∷ r) ∙ graft_at f d (at (([], Dir) ∷ [])) (x ∷ r)) h

-- s can move to d, once a directory was made at d and something was found at s
pub move_applies : (f g : Path → Option Form) (s d : Path) → is_root s ≡ None → begins_with s d ≡ false → mkdir_fault f d ≡ None → ((q : Path) → g q ≡ grafted f d (at (([], Dir) ∷ [])) q) → IsSome (g s) → walk g s ≡ None → rename_fault f s d ≡ None
move_applies f g s d root a made e stands walked =
    let apart : begins_with d s ≡ false = false_from_ne_true _ (λ h. not_in_place f g s d (drop (length d) s) a e stands (begins_split d s h)) in
    let same : g s ≡ f s = e s ∙ graft_by f d (at (([], Dir) ∷ [])) s ∙ ap (λ b. cond b (at (([], Dir) ∷ []) (drop (length d) s)) (f s)) apart in
    rename_lawful f s d (sym (delete_by_row f s true root (sym (walk_same f g (at (([], Dir) ∷ [])) d s apart e) ∙ walked) (sym (ap is_some same) ∙ stands))) a made

-- a directory made and taken out again
pub made_undone : (f g k l h : Path → Option Form) (s d : Path) → ((q : Path) → f (d ++ q) ≡ None) → ((q : Path) → g q ≡ grafted f d h q) → ((q : Path) → g (s ++ q) ≡ None) → ((q : Path) → k q ≡ grafted g s (rows None) q) → ((q : Path) → l q ≡ grafted k d (rows None) q) → (q : Path) → l q ≡ f q
made_undone f g k l h s d free e none gone back q =
    back q ∙ graft_by k d (rows None) q ∙ ap (λ o. cond (begins_with d q) None o) (gone q ∙ graft_nothing g s none q ∙ e q ∙ graft_by f d h q)
    ∙ elim (begins_with d q) as (λ b. begins_with d q ≡ b → cond b None (cond b (h (drop (length d) q)) (f q)) ≡ f q) [
      | true ↦ λ i. sym (ap f (begins_split d q i) ∙ free _)
      | false ↦ λ i. refl
    ] refl
