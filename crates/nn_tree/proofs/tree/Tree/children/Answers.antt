use Rattle.std.proofs.Common.{◌∷◌, [], sym, ap, ◌∙◌}
use Rattle.nn_model.specs.declared.form.Form.TheVariants.{Dir}
use Rattle.nn_tree.specs.Flat.{flat, below}
use Rattle.nn_tree.proofs.tree.Tree.children.Goals as goal

pub returns-else-is_empty-clause-rows : goal.returns-else-is_empty-clause-rows
returns-else-is_empty-clause-rows c =
    (Dir, sym c.self.view_is ∙ ap flat c.in-Folder.is ∙ ap (λ es. ([], Dir) ∷ below es) (sym (c.of.ensures.entries ∙ c.iter.ensures.all)))

pub returns-then-is_empty-clause-rows : goal.returns-then-is_empty-clause-rows
returns-then-is_empty-clause-rows c =
    (Dir, sym c.self.view_is ∙ ap flat c.in-Folder.is ∙ ap (λ rows. ([], Dir) ∷ rows) (ap below (c.is_empty.ensures.0 c.if-is_empty.true)))
