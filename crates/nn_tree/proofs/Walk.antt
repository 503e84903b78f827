-- The walk of a path's parents.
use Rattle.std.proofs.Common.{◌≡◌, ℕ, false, List, [], ◌∷◌, length, Option, Some, None, Result, MatchResult, IfOk, OnOk, IfSome, Ok, Err, ap, ◌∙◌}
use Rattle.std.specs.Bool.{◌==◌}
use Rattle.nn_model.specs.declared.form.Form.{Form}
use Rattle.nn_model.specs.Namespace.{Path}
use Rattle.nn_model.specs.declared.form.Form.TheVariants.{Dir}
use Rattle.nn_tree.specs.At.{at}
use Rattle.nn_model.specs.Apply.{walk, in_directory}
use Rattle.nn_types.specs.declared.edit_fault.EditFault.TheVariants.{Missing}

pub walk_below : (es t : List (Path × Form)) (n : List ℕ) (ns ps : Path) → ps ≡ n ∷ ns → at es [] ≡ Some Dir → ((q : Path) → at es (n ∷ q) ≡ at t q) → walk (at es) ps ≡ walk (at t) ns
walk_below es t n ns ps e top h =
    ap (walk (at es)) e ∙ ap (λ o. in_directory o (walk (λ q. at es (n ∷ q)) ns)) top ∙ (λ j. walk (λ q. h q j) ns)

pub walk_missing : (es : List (Path × Form)) (n : List ℕ) (rest ps : Path) → ps ≡ n ∷ rest → at es [] ≡ Some Dir → ((q : Path) → at es (n ∷ q) ≡ None) → false ≡ (length rest == 0) → walk (at es) ps ≡ Some Missing
walk_missing es n [] ps e top h z = cc
walk_missing es n (r ∷ rs) ps e top h z =
    ap (walk (at es)) e ∙ ap (λ o. in_directory o (walk (λ q. at es (n ∷ q)) (r ∷ rs))) top
    ∙ ap (λ o. in_directory o (walk (λ q. at es (n ∷ (r ∷ q))) rs)) (h [])

pub same_answer : {X E : Type 0} (r : Result X E) (a b : Option E) → a ≡ b → MatchResult r (λ o. b ≡ None) (λ e. b ≡ Some e) → MatchResult r (λ o. a ≡ None) (λ e. a ≡ Some e)
same_answer (Ok x) a b e h = e ∙ h
same_answer (Err x) a b e h = e ∙ h

pub if_ok : {X E : Type 0} (r : Result X E) {P Q : X → Type 0} → ((x : X) → P x → Q x) → IfOk r P → IfOk r Q
if_ok (Ok x) f p = f x p
if_ok (Err e) f p = p

pub ok_then : {X E Q : Type 0} (r : Result X E) {P : X → Type 0} → ((x : X) → P x → Q) → IfOk r P → OnOk r Q
ok_then (Ok x) f p = f x p
ok_then (Err e) f p = p

pub if_some : {X : Type 0} (o : Option X) {P : X → Type 0} → ((x : X) → P x) → IfSome o P
if_some None f = tt
if_some (Some x) f = f x

-- a path of one name
pub walk_last : (es : List (Path × Form)) (n : List ℕ) (ps : Path) → ps ≡ n ∷ [] → at es [] ≡ Some Dir → walk (at es) ps ≡ None
walk_last es n ps e top = ap (walk (at es)) e ∙ ap (λ o. in_directory o None) top
