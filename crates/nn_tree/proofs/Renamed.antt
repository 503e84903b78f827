-- The rows after a rename.
use Rattle.std.proofs.Common.{◌≡◌, List, ◌++◌, map, None, sym, ◌∙◌}
use Rattle.nn_model.specs.declared.form.Form.{Form}
use Rattle.nn_model.specs.Namespace.{Path}
use Rattle.nn_model.specs.Apply.{in_path_order, moved}
use Rattle.nn_model.proofs.Lookups.{same_rows, find_in_order}
use Rattle.nn_model.proofs.Moves.{lookup_rename}
use Rattle.nn_model.proofs.Wells.{sorted_in_order, to_T}
use Rattle.nn_tree.specs.At.{at}
use Rattle.nn_tree.specs.Walks.{moved_rows, IsRenamed}

pub moved_there : (es new : List (Path × Form)) (s d : Path) → ((r : Path) → at es (d ++ r) ≡ None) → IsRenamed es s d new → in_path_order new ≡ in_path_order (map (λ row. (moved s d row.0, row.1)) (in_path_order es))
moved_there es new s d free h =
    let moves = map (λ (row : Path × Form). (moved s d row.0, row.1)) (in_path_order es) in
    same_rows (in_path_order new) (in_path_order moves) (to_T _ (sorted_in_order new)) (to_T _ (sorted_in_order moves))
    (λ q. find_in_order q new ∙ h q ∙ (λ j. moved_rows (λ x. sym (find_in_order x es) j) s d q) ∙ sym (lookup_rename (in_path_order es) s d q (λ r. find_in_order (d ++ r) es ∙ free r)))
