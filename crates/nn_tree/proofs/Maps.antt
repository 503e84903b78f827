-- Why a tree refuses a change, from what a walk found, and what is left where a tree was taken.
use Rattle.std.proofs.Common.{◌≡◌, Bool, true, false, cond, not, ◌&&◌, List, [], ◌∷◌, ◌++◌, ◌<◌, length, Option, Some, None, is_some, refl, sym, ap, ◌∙◌, arith}
use Rattle.std.specs.Prelude.{bytes_eq}
use Rattle.std.specs.Bool.{◌==◌}
use Rattle.nn_types.specs.declared.edit_fault.EditFault.{EditFault}
use Rattle.nn_types.specs.declared.edit_fault.EditFault.TheVariants.{Exists, Missing}
use Rattle.nn_model.specs.declared.form.Form.{Form}
use Rattle.nn_model.specs.Namespace.{Path, begins_with}
use Rattle.nn_model.specs.Apply.{first_fault, fault_if, walk, is_root, exists, missing}
use Rattle.nn_model.proofs.Dues.{all_none}
use Rattle.nn_model.proofs.Prefixes.{name_same}
use Rattle.nn_model.proofs.Trees.{absent}
use Rattle.nn_tree.specs.At.{rows, grafted}
use Rattle.nn_tree.specs.Walks.{mkdir_fault, delete_fault}

-- ---- Checks in order.

-- a fault that some checks find, and what comes after them where they find none
pub found_first : (os more : List (Option EditFault)) (e : EditFault) → first_fault os ≡ Some e → Some e ≡ first_fault (os ++ more)
found_first [] more e h = absurd (cc)
found_first (None ∷ os) more e h = found_first os more e h
found_first (Some x ∷ os) more e h = sym h

pub found_later : (os more : List (Option EditFault)) → first_fault os ≡ None → first_fault more ≡ first_fault (os ++ more)
found_later [] more h = refl
found_later (None ∷ os) more h = found_later os more h
found_later (Some x ∷ os) more h = absurd (cc)

pub not_root : (xs : Path) → false ≡ (length xs == 0) → is_root xs ≡ None
not_root [] h = cc
not_root (x ∷ xs) h = refl

-- what a walk found is the fault, and otherwise what stands there decides
pub by_walk : (f : Path → Option Form) (p : Path) (more : List (Option EditFault)) (e : EditFault) → is_root p ≡ None → walk f p ≡ Some e → Some e ≡ first_fault (is_root p ∷ walk f p ∷ more)
by_walk f p more e r w = sym (λ j. first_fault (r j ∷ w j ∷ more))

pub past_walk : (f : Path → Option Form) (p : Path) (more : List (Option EditFault)) → is_root p ≡ None → walk f p ≡ None → first_fault more ≡ first_fault (is_root p ∷ walk f p ∷ more)
past_walk f p more r w = sym (λ j. first_fault (r j ∷ w j ∷ more))

pub mkdir_by_row : (f : Path → Option Form) (p : Path) (b : Bool) → is_root p ≡ None → walk f p ≡ None → is_some (f p) ≡ b → first_fault (fault_if b Exists ∷ []) ≡ mkdir_fault f p
mkdir_by_row f p b r w s = sym (ap (λ t. first_fault (fault_if t Exists ∷ [])) s) ∙ past_walk f p (exists (f p) ∷ []) r w

pub delete_by_row : (f : Path → Option Form) (p : Path) (b : Bool) → is_root p ≡ None → walk f p ≡ None → is_some (f p) ≡ b → first_fault (fault_if (not b) Missing ∷ []) ≡ delete_fault f p
delete_by_row f p b r w s = sym (ap (λ t. first_fault (fault_if (not t) Missing ∷ [])) s) ∙ past_walk f p (missing (f p) ∷ []) r w

-- ---- What a lawful edit found.

pub mkdir_lawful : (f : Path → Option Form) (p : Path) → mkdir_fault f p ≡ None → (walk f p ≡ None) × (f p ≡ None)
mkdir_lawful f p h = let found = all_none (is_root p ∷ walk f p ∷ exists (f p) ∷ []) h in (found.1.0, absent (f p) found.1.1.0)

-- a path that isn't the root has a name
pub has_name : (xs : Path) (more : List (Option EditFault)) → first_fault (is_root xs ∷ more) ≡ None → 0 < length xs
has_name [] more h = absurd (cc)
has_name (y ∷ xs) more h = omega arith

-- ---- A tree that was taken.

pub graft_gone : (f : Path → Option Form) (p q : Path) → grafted f p (rows None) q ≡ cond (not (begins_with p q)) (f q) None
graft_gone f [] q = refl
graft_gone f (n ∷ ns) [] = refl
graft_gone f (n ∷ ns) (x ∷ q) =
    elim (bytes_eq n x) as (λ b. bytes_eq n x ≡ b → cond b (grafted (λ r. f (n ∷ r)) ns (rows None) q) (f (x ∷ q)) ≡ cond (not (b && begins_with ns q)) (f (x ∷ q)) None) [
      | true ↦ λ e. graft_gone (λ r. f (n ∷ r)) ns q ∙ ap (λ y. cond (not (begins_with ns q)) (f (y ∷ q)) None) (name_same n x e)
      | false ↦ λ e. refl
    ] refl
