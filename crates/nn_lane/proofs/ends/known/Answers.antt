use Rattle.std.proofs.Common.{rules, ap, arith}
use Rattle.nn_lane.proofs.Readies.{looks}
use Rattle.nn_lane.proofs.ends.known.Goals as goal

pub load-requires : goal.load-requires
load-requires c = let r = c.requires in let all_taken = c.if-taken-seen.false in
    (search rules, search rules, looks _ _ c.args.seat.now c.args.taken (ap (λ z. z.slots) r.table.0) r.seat.2 r.next (omega (arith, r.seat.3, all_taken)) r.seat.0 r.seat.1)
