-- A directory in which one child changes.
use Rattle.std.proofs.Common.{◌≡◌, Result, Ok, Err, OnOk, OnErr, ℕ, Bool, true, false, cond, List, [], ◌∷◌, ◌++◌, Option, Some, None, refl, sym, ap, subst, ◌∙◌, not}
use Rattle.std.specs.Map.{keys_of, remove_entry}
use Rattle.std.proofs.lemmas.Map.{keys-set_value}
use Rattle.std.specs.List.Sorted.{IsStrictlySortedBy}
use Rattle.std.specs.BTreeMap.{insert_entry, is_at}
use Rattle.std.specs.Ordering.{is_eq}
use Rattle.std.specs.Cmp.Lexicographic.{nat_list_eq_equiv, bytes_decides}
use Rattle.std.specs.Str.{bytes_eq}
use Rattle.std.proofs.lemmas.Map.Text.{is_eq-slice_cmp}
use Rattle.nn_model.specs.declared.form.Form.{Form}
use Rattle.nn_model.specs.Namespace.{Path}
use Rattle.nn_tree.specs.At.{at, rows, grafted, IsSubtree, IsGrafted, IsSame}
use Rattle.nn_tree.specs.declared.tree.Tree.{Tree}
use Rattle.nn_model.proofs.Prefixes.{name_same}
use Rattle.nn_tree.proofs.Below.{at-below}
use Rattle.nn_tree.proofs.ByName.{child_inserted, child_removed, child_set}
use Rattle.nn_tree.proofs.Subtree.{none_in_order, one_in_order, Children, child, with_child, dir_rows, IsDir, at_top, at_child, found}
use Rattle.nn_tree.specs.Name.{name_cmp}

rows_cond : (b : Bool) (o p : Option Tree) (q : Path) → rows (cond b o p) q ≡ cond b (rows o q) (rows p q)
rows_cond true o p q = refl
rows_cond false o p q = refl

-- the children k are m with o at the name n
pub record Becomes (m k : Children) (n : List ℕ) (o : Option Tree) : Type 0 where
  pub updates : (x : List ℕ) → child k x ≡ cond (bytes_eq n x) o (child m x)
  pub ordered : IsStrictlySortedBy name_cmp (keys_of k)

-- after a child was put in, taken out, or written through `get_mut`
pub put_in : (m k : Children) (key : List ℕ) (w : Tree) → k ≡ insert_entry name_cmp m key w → IsStrictlySortedBy name_cmp (keys_of k) → Becomes m k key (Some w)
put_in m k key w is s = record { updates = λ x. ap (λ cs. child cs x) is ∙ child_inserted key w m x; ordered = s }

pub taken_out : (m k : Children) (n : List ℕ) → k ≡ remove_entry (is_at (name_cmp n)) m → IsStrictlySortedBy name_cmp (keys_of m) → IsStrictlySortedBy name_cmp (keys_of k) → Becomes m k n None
taken_out m k n is was s = record { updates = λ x. ap (λ cs. child cs x) is ∙ child_removed n m was x; ordered = s }

pub written : (m : Children) (n : List ℕ) (t w : Tree) → Some t ≡ child m n → IsStrictlySortedBy name_cmp (keys_of m) → Becomes m (with_child m n w) n (Some w)
written m n t w g s = record { updates = child_set n w t m (sym g); ordered = subst (IsStrictlySortedBy name_cmp) (sym (keys-set_value (is_at (name_cmp n)) m w)) s }

-- a name is another one where that is the first one
turned : (n x : List ℕ) → is_eq (name_cmp x n) ≡ bytes_eq n x
turned n x = is_eq-slice_cmp x n ∙ nat_list_eq_equiv.symm x n

overwritten : (a b : Bool) (v u : Option Tree) → a ≡ b → cond a v None ≡ cond b v (cond a u None)
overwritten true true v u e = refl
overwritten true false v u e = cc
overwritten false true v u e = cc
overwritten false false v u e = refl

erased : (a b : Bool) (u : Option Tree) → a ≡ b → None ≡ cond b None (cond a u None)
erased true true u e = refl
erased true false u e = cc
erased false true u e = cc
erased false false u e = refl

-- the one child of a directory, k, which is called n, becomes w
pub one_written : (k : List ℕ) (n : List ℕ) (t w : Tree) → k ≡ n → Becomes ((k, t) ∷ []) ((k, w) ∷ []) n (Some w)
one_written k n t w e = subst (λ x. Becomes ((k, t) ∷ []) ((k, w) ∷ []) x (Some w)) e
    (record { updates = λ x. overwritten _ _ (Some w) (Some t) (turned k x); ordered = one_in_order k })

-- a directory gets its first child
pub one_made : (k : List ℕ) (n : List ℕ) (w : Tree) → k ≡ n → Becomes [] ((k, w) ∷ []) n (Some w)
one_made k n w e = subst (λ x. Becomes [] ((k, w) ∷ []) x (Some w)) e
    (record { updates = λ x. ap (λ b. cond b (Some w) None) (turned k x); ordered = one_in_order k })

-- the one child of a directory goes
pub one_gone : (k : List ℕ) (n : List ℕ) (t : Tree) → k ≡ n → Becomes ((k, t) ∷ []) [] n None
one_gone k n t e = subst (λ x. Becomes ((k, t) ∷ []) [] x None) e
    (record { updates = λ x. erased _ _ (Some t) (turned k x); ordered = none_in_order })

-- what a comparison of names tells: the child k is called n, or it isn't
pub called : (k : List ℕ) (a n : List ℕ) → a ≡ k → true ≡ bytes_eq a n → k ≡ n
called k a n e h = sym e ∙ (bytes_decides a n).0 (sym h)

pub called_else : (k : List ℕ) (a n : List ℕ) → a ≡ k → false ≡ bytes_eq a n → bytes_eq k n ≡ false
called_else k a n e h = subst (λ x. bytes_eq x n ≡ false) e (sym h)

not_false : (b : Bool) → false ≡ not b → true ≡ b
not_false true h = refl
not_false false h = cc

not_true : (b : Bool) → true ≡ not b → false ≡ b
not_true true h = cc
not_true false h = refl

pub is_called : (k : List ℕ) (a n : List ℕ) → a ≡ k → false ≡ not (bytes_eq a n) → k ≡ n
is_called k a n e h = called k a n e (not_false _ h)

pub is_called_else : (k : List ℕ) (a n : List ℕ) → a ≡ k → true ≡ not (bytes_eq a n) → bytes_eq k n ≡ false
is_called_else k a n e h = called_else k a n e (not_true _ h)

-- what a directory of one child has under its name, and under another one
pub one_found : (es : List (Path × Form)) (k : List ℕ) (n : List ℕ) (t w : Tree) → IsDir es ((k, t) ∷ []) → k ≡ n → w ≡ t → (q : Path) → at es (n ∷ q) ≡ at w q
one_found es k n t w d e s q =
    found es ((k, t) ∷ []) n (Some t) d (ap (λ b. cond b (Some t) None) (sym (is_eq-slice_cmp n k ∙ (bytes_decides n k).1 (sym e)))) q
    ∙ ap (λ x. at x q) (sym s)

pub one_other : (es : List (Path × Form)) (k : List ℕ) (n : List ℕ) (t : Tree) → IsDir es ((k, t) ∷ []) → bytes_eq k n ≡ false → (q : Path) → at es (n ∷ q) ≡ None
one_other es k n t d e =
    found es ((k, t) ∷ []) n None d (ap (λ b. cond b (Some t) None) (sym (is_eq-slice_cmp n k ∙ nat_list_eq_equiv.symm n k ∙ e)))

-- a directory's rows below a name, after its child of the name n has become o
pub at_changed : (es : List (Path × Form)) (m k : Children) (n : List ℕ) (o : Option Tree) → IsDir es m → Becomes m k n o → (x : List ℕ) (q : Path) → at (dir_rows k) (x ∷ q) ≡ cond (bytes_eq n x) (rows o q) (at es (x ∷ q))
at_changed es m k n o d b x q =
    at-below x q k b.ordered
    ∙ ap (λ p. rows p q) (b.updates x)
    ∙ rows_cond (bytes_eq n x) o (child m x) q
    ∙ ap (λ r. cond (bytes_eq n x) (rows o q) r) (sym (at_child es m x q d))

-- the child of the name n becomes o
pub graft_here : (es : List (Path × Form)) (m k : Children) (n : List ℕ) (o : Option Tree) → IsDir es m → Becomes m k n o → IsGrafted es (n ∷ []) o (dir_rows k)
graft_here es m k n o d b [] = sym (at_top es m d)
graft_here es m k n o d b (x ∷ q) = at_changed es m k n o d b x q

graft_cons : (es : List (Path × Form)) (m k : Children) (n : List ℕ) (ns : Path) (t w : Tree) (o : Option Tree) → IsDir es m → Becomes m k n (Some w) → ((q : Path) → at es (n ∷ q) ≡ at t q) → IsGrafted t ns o w → IsGrafted es (n ∷ ns) o (dir_rows k)
graft_cons es m k n ns t w o d b f h [] = sym (at_top es m d)
graft_cons es m k n ns t w o d b f h (x ∷ q) =
    at_changed es m k n (Some w) d b x q
    ∙ ap (λ r. cond (bytes_eq n x) r (at es (x ∷ q))) (h q ∙ (λ j. grafted (λ r. sym (f r) j) ns (rows o) q))

-- the child t of the name n becomes w, in which the rest of the path is changed
pub graft_below : (es : List (Path × Form)) (m k : Children) (n : List ℕ) (ns ps : Path) (t w : Tree) (o : Option Tree) → ps ≡ n ∷ ns → IsDir es m → Becomes m k n (Some w) → ((q : Path) → at es (n ∷ q) ≡ at t q) → IsGrafted t ns o w → IsGrafted es ps o (dir_rows k)
graft_below es m k n ns ps t w o e d b f h q = graft_cons es m k n ns t w o d b f h q ∙ (λ j. grafted (at es) (sym e j) (rows o) q)

-- the same, where nothing changes
pub same_below : (es : List (Path × Form)) (m k : Children) (n : List ℕ) (t w : Tree) → IsDir es m → Becomes m k n (Some w) → ((q : Path) → at es (n ∷ q) ≡ at t q) → IsSame t w → IsSame es (dir_rows k)
same_below es m k n t w d b f h [] = sym (at_top es m d)
same_below es m k n t w d b f h (x ∷ q) =
    at_changed es m k n (Some w) d b x q
    ∙ elim (bytes_eq n x) as (λ c. bytes_eq n x ≡ c → cond c (at w q) (at es (x ∷ q)) ≡ at es (x ∷ q)) [
      | true ↦ λ e. h q ∙ sym (f q) ∙ ap (λ y. at es (y ∷ q)) (name_same n x e)
      | false ↦ λ e. refl
    ] refl

pub on_ok : {X E P Q : Type 0} (r : Result X E) → (P → Q) → OnOk r P → OnOk r Q
on_ok (Ok x) f p = f p
on_ok (Err e) f p = p

pub on_err : {X E P Q : Type 0} (r : Result X E) → (P → Q) → OnErr r P → OnErr r Q
on_err (Ok x) f p = p
on_err (Err e) f p = f p

-- nothing instead of nothing
pub graft_nothing : (f : Path → Option Form) (p : Path) → ((q : Path) → f (p ++ q) ≡ None) → (q : Path) → grafted f p (rows None) q ≡ f q
graft_nothing f [] h q = sym (h q)
graft_nothing f (n ∷ ns) h [] = refl
graft_nothing f (n ∷ ns) h (x ∷ q) =
    elim (bytes_eq n x) as (λ c. bytes_eq n x ≡ c → cond c (grafted (λ r. f (n ∷ r)) ns (rows None) q) (f (x ∷ q)) ≡ f (x ∷ q)) [
      | true ↦ λ e. graft_nothing (λ r. f (n ∷ r)) ns (λ r. h r) q ∙ ap (λ y. f (y ∷ q)) (name_same n x e)
      | false ↦ λ e. refl
    ] refl

pub nothing_taken : (es new : List (Path × Form)) (p : Path) → IsSame es new → IsSubtree es p None → IsGrafted es p None new
nothing_taken es new p e h q = e q ∙ sym (graft_nothing (at es) p h q)
