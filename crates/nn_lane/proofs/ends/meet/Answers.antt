use Rattle.std.proofs.Common.{rules, sym, ap, ◌∙◌}
use Rattle.nn_lane.proofs.Steps.{learns}
use Rattle.nn_lane.proofs.Readies.{gives}
use Rattle.nn_lane.proofs.ends.meet.Goals as goal

pub load-requires : goal.load-requires
load-requires c = let i = c.reporter.invariant in
    let same = ap (λ r. r.lane.table) c.reporter.view_is ∙ sym (ap (λ l. l.table) c.requires) ∙ sym (ap (λ e. e.lane.table) c.end.view_is) ∙ c.end.invariant.seated ∙ sym (ap (λ t. t.shared.table_id) c.deref.ensures) in (
      same,
      search rules,
      gives _ _ c.reporter.inside.seat c.reporter.inside.accepted c.reporter.inside.limit (ap (λ z. z.slots) same) i.count i.room i.sends i.takes,
    )

pub load-requires-2 : goal.load-requires-2
load-requires-2 c = (search rules, search rules, learns _ _ _ _ _ (ap (λ m. m.0.sends) c.join_seat.ensures.2) (ap (λ m. m.0.takes) c.join_seat.ensures.2))
