use Rattle.std.proofs.Common.{ap, ◌∙◌, ◌++◌, ◌∷◌, []}
use Rattle.nn_postponed.proofs.few.Few.push.Goals as goal
use Rattle.nn_postponed.proofs.Places.{present_pushed}
use Rattle.nn_postponed.proofs.NoHoles.{full_more}

pub invariant_of-self : goal.invariant_of-self
invariant_of-self c = full_more c.self.inside.messages.items c.push.new.self.items c.args.message.now c.self.invariant c.push.ensures.items

pub returns-clause-there : goal.returns-clause-there
returns-clause-there c =
    λ there. present_pushed c.self.inside.messages.items c.push.new.self.items c.args.message.now c.push.ensures.items ∙ ap (λ l. l ++ c.args.message.now ∷ []) c.self.view_is
