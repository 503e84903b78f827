use Rattle.std.proofs.Common.{rules, ap}
use Rattle.nn_lane.proofs.Readies.{loads}
use Rattle.nn_lane.proofs.ends.places.Goals as goal

pub load-taken-requires : goal.load-taken-requires
load-taken-requires c = let r = c.requires in
    (search rules, search rules, loads _ _ c.args.seat.now c.args.accepted c.args.limit (ap (λ z. z.slots) r.table.0) r.seat.2 r.room r.seat.0 r.seat.1)
