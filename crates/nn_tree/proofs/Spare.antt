-- An edit that takes no memory is refused where it makes no change.
use Rattle.std.proofs.Common.{◌≡◌, ℕ, true, false, not, List, [], ◌∷◌, Option, Some, None, is_some, refl, ◌∙◌}
use Rattle.std.proofs.lemmas.Bool.{both_ways}
use Rattle.nn_types.specs.declared.edit.Edit.TheVariants as edit
use Rattle.nn_types.specs.declared.edit_fault.EditFault.{EditFault}
use Rattle.nn_types.specs.declared.edit_fault.EditFault.TheVariants.{Missing, NotFile}
use Rattle.nn_model.specs.declared.form.Form.{Form}
use Rattle.nn_model.specs.declared.form.Form.TheVariants.{Dir, File}
use Rattle.nn_model.specs.Namespace.{Path, Namespace, lookup}
use Rattle.nn_model.specs.Apply.{first_fault, fault_if, is_root, replication_range, walk, missing, not_file, is_dir, refusal, in_path_order}
use Rattle.nn_tree.specs.At.{at}
use Rattle.nn_tree.specs.Walks.{is_some_file}
use Rattle.nn_tree.proofs.Bridge.{looks}

later_none : (o : Option EditFault) (os : List (Option EditFault)) → first_fault (o ∷ os) ≡ None → first_fault os ≡ None
later_none None os e = e
later_none (Some fault) os e = absurd (cc)

first_none : (o : Option EditFault) (os : List (Option EditFault)) → first_fault (o ∷ os) ≡ None → o ≡ None
first_none None os e = refl
first_none (Some fault) os e = absurd (cc)

stands : (o : Option Form) → fault_if (not (is_some o)) Missing ≡ None → fault_if (is_dir o) NotFile ≡ None → is_some_file o ≡ true
stands None a b = absurd (cc)
stands (Some Dir) a b = absurd (cc)
stands (Some (File x)) a b = refl

-- what gets another replication is a file
gets_replication : (n : Namespace) (p : Path) (r : ℕ) → refusal n (edit.SetReplication p r) ≡ None → is_some_file (lookup n p) ≡ true
gets_replication n p r none =
    let from_missing = later_none (walk (lookup n) p) _ (later_none (replication_range r) _ (later_none (is_root p) _ none)) in
    stands (lookup n p) (first_none (missing (lookup n p)) _ from_missing) (first_none (not_file (lookup n p)) [] (later_none (missing (lookup n p)) _ from_missing))

-- so where there is none, it is refused
pub no_file_refused : (es : List (Path × Form)) (n : Namespace) (p ns : Path) (r : ℕ) → in_path_order es ≡ n.rows → ns ≡ p → is_some_file (at es ns) ≡ false →
    refusal n (edit.SetReplication p r) ≡ None → ⊥
no_file_refused es n p ns r rows names none e =
    both_ways _ none ((λ j. is_some_file (looks es n rows j (names j))) ∙ gets_replication n p r e)
