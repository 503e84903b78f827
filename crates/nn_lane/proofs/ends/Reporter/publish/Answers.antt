use Rattle.std.proofs.Common.{rules, sym, ap, ◌∙◌, subst, Option}
use Rattle.nn_types.specs.declared.report.Message.{Message}
use Rattle.nn_lane.specs.Parts.{Ready}
use Rattle.nn_lane.proofs.Readies.{publishes}
use Rattle.nn_lane.proofs.ends.Reporter.publish.Goals as goal

pub compare_exchange_with-found-requires : goal.compare_exchange_with-found-requires
compare_exchange_with-found-requires c = let i = c.self.invariant in (
  search rules,
  search rules,
  publishes _ _ c.self.inside.seat c.self.inside.accepted c.self.inside.limit (ap (λ z. z.slots) i.seated ∙ sym (ap (λ t. t.shared.table_id.slots) c.deref.ensures)) i.count c.in-Some.message
      (subst (λ (p : Option Message). Ready p c.self.inside.seat c.self.inside.accepted) c.in-Some.is i.ready) i.sends i.takes,
)
