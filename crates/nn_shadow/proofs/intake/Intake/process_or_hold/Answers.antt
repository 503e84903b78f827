use Rattle.std.proofs.Common.{sym, ap, ◌∙◌}
use Rattle.nn_replicas.specs.Calls.{pair_placed}
use Rattle.nn_shadow.specs.Room.{taken_unless}
use Rattle.nn_shadow.proofs.OneItem.{one_held}
use Rattle.nn_shadow.proofs.intake.Intake.process_or_hold.Goals as goal

pub returns-then-waits-clause-ok : goal.returns-then-waits-clause-ok
returns-then-waits-clause-ok c =
    let i = c.args.item.now in
    one_held c.args.namespace.now i c.args.self.now.history.items c.reserve.new.self.items c.args.self.now.held c.hold.new.self c.args.self.now.table c.place_or_process.new.table
    (sym c.if-waits.true ∙ c.in-Ok.ensures.waits) c.in_ok-reserve.ensures.items c.in-Ok-hold.ensures.ok
    (c.in-Ok.ensures.ok ∙ ap (λ w. taken_unless w c.args.self.now.held (pair_placed c.args.self.now.table i.dn i.block) i) c.if-waits.true)
