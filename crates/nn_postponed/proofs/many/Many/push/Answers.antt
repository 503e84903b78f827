use Rattle.std.proofs.Common.{◌∙◌, ap, ◌++◌, ◌∷◌, []}
use Rattle.nn_postponed.proofs.many.Many.push.Goals as goal
use Rattle.nn_postponed.proofs.Places.{present_pushed}

pub returns-clause-ok : goal.returns-clause-ok
returns-clause-ok c = present_pushed c.close_up.new.self c.add.new.self c.args.message.now c.in-Ok-add.ensures.ok ∙ ap (λ l. l ++ c.args.message.now ∷ []) c.close_up.ensures
