use Rattle.std.proofs.Common.{◌≡◌, ℕ, map, ◌∷◌, ◌++◌, List, Some, sym, ap, subst, ◌∙◌, append_assoc}
use Rattle.std.specs.Prelude.{IfSome}
use Rattle.nn_model.specs.declared.form.Form.{Form}
use Rattle.nn_model.specs.declared.form.Form.TheVariants.{Dir, File}
use Rattle.nn_model.specs.Namespace.{Path}
use Rattle.nn_tree.specs.Found.{form_of}
use Rattle.nn_tree.specs.Ids.{ids_of_rows, row_ids}
use Rattle.nn_tree.proofs.Tallies.{has_directory, has_file, off_directory, off_file, all_off}
use Rattle.nn_tree.proofs.tree.Tree.collect_ids.Goals as goal

pub overflow_sub-others : goal.overflow_sub-others
overflow_sub-others c =
    let next = c.next_row.new.self in
    let row : c.rows.rows.left ≡ (next.names, Dir) ∷ next.left = subst (λ o. IfSome o (λ found. c.rows.rows.left ≡ (next.names, form_of found) ∷ next.left)) (c.in-Some.is ∙ ap Some c.in-Dir.is) c.in_ok-found.ensures.row in
    has_directory c.rows.others c.args.all c.args.self.now c.rows.rows.left next.left next.names c.requires.directories c.rows.invariant.1 row

pub overflow_sub-others-in-File : goal.overflow_sub-others-in-File
overflow_sub-others-in-File c =
    let next = c.next_row.new.self in
    let row : c.rows.rows.left ≡ (next.names, File c.in-File.file.now) ∷ next.left = subst (λ o. IfSome o (λ found. c.rows.rows.left ≡ (next.names, form_of found) ∷ next.left)) (c.in-Some.is ∙ ap Some c.in-File.is) c.in_ok-found.ensures.row in
    has_file c.rows.others c.args.all c.args.self.now c.rows.rows.left next.left next.names c.in-File.file.now c.requires.files c.rows.invariant.1 row

pub rows-preserved-in-Dir : goal.rows-preserved-in-Dir
rows-preserved-in-Dir c =
    let next = c.next_row.new.self in
    let row : c.rows.rows.left ≡ (next.names, Dir) ∷ next.left = subst (λ o. IfSome o (λ found. c.rows.rows.left ≡ (next.names, form_of found) ∷ next.left)) (c.in-Some.is ∙ ap Some c.in-Dir.is) c.in_ok-found.ensures.row in
    let some = has_directory c.rows.others c.args.all c.args.self.now c.rows.rows.left next.left next.names c.requires.directories c.rows.invariant.1 row in
    (sym (ap (λ (rows : List (Path × Form)). c.rows.out.items ++ ids_of_rows rows) row) ∙ c.rows.invariant.0, off_directory c.rows.others c.args.all c.args.self.now c.rows.rows.left next.left next.names some c.rows.invariant.1 row)

pub rows-preserved : goal.rows-preserved
rows-preserved c =
    let next = c.next_row.new.self in
    let file = c.in-File.file.now in
    let row : c.rows.rows.left ≡ (next.names, File file) ∷ next.left = subst (λ o. IfSome o (λ found. c.rows.rows.left ≡ (next.names, form_of found) ∷ next.left)) (c.in-Some.is ∙ ap Some c.in-File.is) c.in_ok-found.ensures.row in
    let some = has_file c.rows.others c.args.all c.args.self.now c.rows.rows.left next.left next.names file c.requires.files c.rows.invariant.1 row in
    let ids : c.push_ids.new.out.items ++ ids_of_rows next.left ≡ c.rows.out.items ++ ids_of_rows c.rows.rows.left =
    ap (λ (xs : List ℕ). xs ++ ids_of_rows next.left) (c.in_ok-push_ids-in-File.ensures ∙ ap (λ bs. c.rows.out.items ++ map (λ b. b.id) bs) c.as_slice.ensures)
    ∙ append_assoc c.rows.out.items (row_ids (File file)) (ids_of_rows next.left) ∙ sym (ap (λ (rows : List (Path × Form)). c.rows.out.items ++ ids_of_rows rows) row) in
    (ids ∙ c.rows.invariant.0, off_file c.rows.others c.args.all c.args.self.now c.rows.rows.left next.left next.names file some c.rows.invariant.1 row)

pub returns-clause-sizes : goal.returns-clause-sizes
returns-clause-sizes c =
    all_off c.rows.others c.args.all c.args.self.now c.rows.rows.left c.rows.invariant.1 (c.in_ok-found.ensures.end c.in_default.is).0
