use Rattle.std.proofs.Common.{◌∷◌, ◌++◌, [], ap, ◌∙◌}
use Rattle.nn_shadow.specs.Notes.{node_state_of}
use Rattle.nn_shadow.proofs.Noting.{noted}
use Rattle.nn_shadow.proofs.had.Had.note.Goals as goal

pub returns : goal.returns
returns c = noted c.self.inside.has.items c.self.inside.told.items c.push_reserved.new.self.items c.self.inside.begun c.args.self.now.having c.args.item.now c.requires.number
    (c.push_reserved.ensures.items ∙ ap (λ n. c.self.inside.told.items ++ (c.args.item.now.block, n) ∷ []) c.number_noted-number.ensures)
    (ap node_state_of c.self.view_is)
