use Rattle.std.proofs.Common.{rules, sym, ap, ◌∙◌}
use Rattle.nn_lane.proofs.Readies.{shuts}
use Rattle.nn_lane.proofs.ends.LaneEnd.close.Goals as goal

pub fetch_or-front-requires : goal.fetch_or-front-requires
fetch_or-front-requires c = let i = c.self.invariant in
    (search rules, search rules, shuts _ _ c.self.inside.seat c.self.inside.taken (ap (λ z. z.slots) i.seated ∙ sym (ap (λ t. t.shared.table_id.slots) c.deref.ensures)) i.count i.next i.sends i.takes)
