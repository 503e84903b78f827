-- A change at a path, at paths that begin with it and at others.
use Rattle.std.proofs.Common.{◌≡◌, ℕ, Bool, true, false, cond, not, ◌&&◌, List, [], ◌∷◌, ◌++◌, ◌<◌, length, drop, Option, Some, None, IsSome, is_some, refl, sym, ap, ◌∙◌, arith, nat_lt, nat_eq, append-nil}
use Rattle.std.specs.Prelude.{bytes_eq}
use Rattle.nn_model.specs.declared.form.Form.{Form}
use Rattle.nn_model.specs.Namespace.{Path, begins_with}
use Rattle.nn_types.specs.declared.edit_fault.EditFault.TheVariants.{IntoItself}
use Rattle.nn_model.specs.Apply.{fault_if, walk, is_root, exists, missing}
use Rattle.nn_tree.specs.At.{rows, grafted}
use Rattle.nn_tree.specs.Walks.{moved_rows, rename_fault}
use Rattle.nn_model.proofs.Dues.{all_none, when_none}
use Rattle.nn_model.proofs.Moves.{not_below}
use Rattle.nn_model.proofs.Prefixes.{name_same, name_self, begins_split, comparable}
use Rattle.nn_model.proofs.Trees.{stands}
use Rattle.std.specs.Cmp.Lexicographic.{pointwise}
use Rattle.std.proofs.lemmas.Bool.{lt-ltb, ltb-true, false_from_ne_true, both_ways}

pub graft_by : (f : Path → Option Form) (p : Path) (g : Path → Option Form) (q : Path) → grafted f p g q ≡ cond (begins_with p q) (g (drop (length p) q)) (f q)
graft_by f [] g q = refl
graft_by f (n ∷ ns) g [] = refl
graft_by f (n ∷ ns) g (x ∷ q) =
    elim (bytes_eq n x) as (λ b. bytes_eq n x ≡ b → cond b (grafted (λ r. f (n ∷ r)) ns g q) (f (x ∷ q)) ≡ cond (b && begins_with ns q) (g (drop (length ns) q)) (f (x ∷ q))) [
      | true ↦ λ e. graft_by (λ r. f (n ∷ r)) ns g q ∙ ap (λ y. cond (begins_with ns q) (g (drop (length ns) q)) (f (y ∷ q))) (name_same n x e)
      | false ↦ λ e. refl
    ] refl

pub graft_at : (f : Path → Option Form) (p : Path) (g : Path → Option Form) (q : Path) → grafted f p g (p ++ q) ≡ g q
graft_at f [] g q = refl
graft_at f (n ∷ ns) g q = ap (λ b. cond b (grafted (λ r. f (n ∷ r)) ns g (ns ++ q)) (f (n ∷ (ns ++ q)))) (name_self n) ∙ graft_at (λ r. f (n ∷ r)) ns g q

pub some_none : (o : Option Form) → o ≡ None → IsSome o → ⊥
some_none None e h = cc
some_none (Some r) e h = cc

none_some : (o : Option Form) → o ≡ None → is_some o ≡ true → ⊥
none_some o e some = both_ways _ refl (sym (ap is_some e) ∙ some)

-- s stands, nothing stands at d or below it, and d lies not below s
pub record CanMove (f : Path → Option Form) (s d : Path) : Type 0 where
  pub stands : is_some (f s) ≡ true
  pub free : (q : Path) → f (d ++ q) ≡ None
  pub outside : begins_with s d ≡ false

pub free_top : (f : Path → Option Form) (p : Path) → ((q : Path) → f (p ++ q) ≡ None) → f p ≡ None
free_top f p h = ap f (sym (append-nil p)) ∙ h []

pub can_move : (f : Path → Option Form) (s d : Path) → rename_fault f s d ≡ None → ((q : Path) → f (d ++ q) ≡ None) → CanMove f s d
can_move f s d h free =
    let found = all_none (is_root s ∷ is_root d ∷ walk f s ∷ missing (f s) ∷ fault_if (begins_with s d && nat_lt (length s) (length d)) IntoItself ∷ walk f d ∷ exists (f d) ∷ []) h in
    let some = stands (f s) found.1.1.1.0 in
    record { stands = some; free = free; outside = not_below f s d (free_top f d free) some (when_none _ _ found.1.1.1.1.0) }

not_above : (f : Path → Option Form) (s d : Path) → CanMove f s d → begins_with d s ≡ false
not_above f s d c = false_from_ne_true _ (λ h. none_some (f s) (ap f (begins_split d s h) ∙ c.free _) c.stands)

not_on_path : (f : Path → Option Form) (s d q : Path) → CanMove f s d → begins_with d (s ++ q) ≡ false
not_on_path f s d q c = false_from_ne_true _ (λ h. both_ways _ c.outside (comparable d s q h (not_above f s d c)))

-- what stands at s, after a directory was made at d
still_there : (f g : Path → Option Form) (s d q : Path) (h : Path → Option Form) → CanMove f s d → ((q : Path) → g q ≡ grafted f d h q) → g (s ++ q) ≡ f (s ++ q)
still_there f g s d q h c e = e (s ++ q) ∙ graft_by f d h (s ++ q) ∙ ap (λ b. cond b (h (drop (length d) (s ++ q))) (f (s ++ q))) (not_on_path f s d q c)

-- the place is kept while s is taken
pub place_kept : (f g k : Path → Option Form) (s d : Path) (h : Path → Option Form) → CanMove f s d → ((q : Path) → g q ≡ grafted f d h q) → ((q : Path) → k q ≡ grafted g s (rows None) q) → k d ≡ h []
place_kept f g k s d h c e n =
    n d ∙ graft_by g s (rows None) d ∙ ap (λ b. cond b None (g d)) c.outside ∙ ap g (sym (append-nil d)) ∙ e (d ++ []) ∙ graft_at f d h []

pub moves : (f g k l : Path → Option Form) (s d : Path) (h t : Path → Option Form) → CanMove f s d → ((q : Path) → g q ≡ grafted f d h q) → ((q : Path) → g (s ++ q) ≡ t q) → ((q : Path) → k q ≡ grafted g s (rows None) q) → ((q : Path) → l q ≡ grafted k d t q) → (q : Path) → l q ≡ moved_rows f s d q
moves f g k l s d h t c e1 e2 e3 e4 q =
    e4 q ∙ graft_by k d t q ∙ ap (λ o. cond (begins_with d q) o (k q)) (sym (e2 _) ∙ still_there f g s d _ h c e1)
    ∙ ap (λ o. cond (begins_with d q) (f (s ++ drop (length d) q)) o) (e3 q ∙ graft_by g s (rows None) q ∙ ap (λ o. cond (begins_with s q) None o) (e1 q ∙ graft_by f d h q))
    ∙ elim (begins_with d q) as (λ b. cond b (f (s ++ drop (length d) q)) (cond (begins_with s q) None (cond b (h (drop (length d) q)) (f q))) ≡ cond b (f (s ++ drop (length d) q)) (cond (begins_with s q) None (f q))) [ true ↦ refl | false ↦ refl ]

-- ---- The tests of the code.

-- the test of first names, and that of what is after them
pub begins_further : (ps qs ns xs : Path) (n x : List ℕ) (b : Bool) → ps ≡ n ∷ ns → qs ≡ x ∷ xs → b ≡ not (pointwise nat_eq n x) → cond b false (begins_with ns xs) ≡ begins_with ps qs
begins_further ps qs ns xs n x b e f h = ap (λ t. cond t false (begins_with ns xs)) h ∙ joined (bytes_eq n x) (begins_with ns xs) ∙ sym (λ j. begins_with (e j) (f j))
  where
    joined : (t s : Bool) → cond (not t) false s ≡ (t && s)
    joined true s = refl
    joined false s = refl

pub below_further : (ps qs ns xs : Path) (n x : List ℕ) (b r : Bool) → ps ≡ n ∷ ns → qs ≡ x ∷ xs → b ≡ not (pointwise nat_eq n x) → r ≡ (begins_with ns xs && nat_lt (length ns) (length xs))
    → cond b false r ≡ (begins_with ps qs && nat_lt (length ps) (length qs))
below_further ps qs ns xs n x b r e f h k =
    let shorter : nat_lt (length ns) (length xs) ≡ nat_lt (length ps) (length qs) = same_tests _ _ _ _ (λ l. omega (arith, l, ap length e, ap length f)) (λ l. omega (arith, l, ap length e, ap length f)) in
    joins b (begins_with ns xs) (begins_with ps qs) (nat_lt (length ns) (length xs)) r (begins_further ps qs ns xs n x b e f h) k ∙ ap (λ t. begins_with ps qs && t) shorter
  where
    joins : (b s t l r : Bool) → cond b false s ≡ t → r ≡ (s && l) → cond b false r ≡ (t && l)
    joins true s t l r e k = ap (λ t. t && l) e
    joins false s t l r e k = k ∙ ap (λ t. t && l) e

    same_tests : (a b c d : ℕ) → (a < b → c < d) → (c < d → a < b) → nat_lt a b ≡ nat_lt c d
    same_tests a b c d f g = by (nat_lt a b) (nat_lt c d) refl refl
      where
        by : (x y : Bool) → nat_lt a b ≡ x → nat_lt c d ≡ y → x ≡ y
        by true true p q = refl
        by true false p q = sym (lt-ltb c d (f (ltb-true a b p))) ∙ q
        by false true p q = sym p ∙ lt-ltb a b (g (ltb-true c d q))
        by false false p q = refl
