use Rattle.std.proofs.Common.{ap, ◌∙◌}
use Rattle.std.specs.List.{list_any}
use Rattle.nn_postponed.specs.Queues.{is_from}
use Rattle.nn_postponed.specs.Places.{present}
use Rattle.nn_postponed.proofs.many.Many.holds.Goals as goal
use Rattle.nn_postponed.proofs.Gives.{any_here, none_elsewhere}

pub returns-then-eq : goal.returns-then-eq
returns-then-eq c =
    c.contains_key.ensures ∙ any_here c.self.inside.block c.self.inside.messages.items c.self.inside.next.items c.self.inside.ends c.self.inside.stamps c.self.invariant.0 c.args.dn c.args.block (c.if-eq.ensures)
    ∙ ap (λ l. list_any (is_from c.args.dn c.args.block) (present l)) c.self.view_is

pub returns-else-eq : goal.returns-else-eq
returns-else-eq c =
    c.if-eq.false ∙ none_elsewhere c.self.inside.block c.self.inside.messages.items c.self.inside.next.items c.self.inside.ends c.self.inside.stamps c.self.invariant.0 c.args.dn c.args.block (c.if-eq.ensures)
    ∙ ap (λ l. list_any (is_from c.args.dn c.args.block) (present l)) c.self.view_is
