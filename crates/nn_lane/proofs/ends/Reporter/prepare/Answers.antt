use Rattle.std.proofs.Common.{rules}
use Rattle.nn_lane.proofs.Readies.{still_holds}
use Rattle.nn_lane.proofs.ends.Reporter.prepare.Goals as goal

pub invariant_of-self-2 : goal.invariant_of-self-2
invariant_of-self-2 c = let i = c.self.invariant in let p = c.in-Ok.ensures in let x = c.exchange.ensures in record {
  seated = search rules;
  words = search rules;
  some_slot = search rules;
  few = search rules;
  sends = search rules;
  takes = search rules;
  room = still_holds c.places.new.seat _ c.self.inside.accepted c.in-Ok.limit _ _ x.0 x.3 (search rules) (search rules) (search rules);
  ready = search rules;
  node = search rules;
  count = search rules;
  most = search rules;
  told_is = search rules;
}
