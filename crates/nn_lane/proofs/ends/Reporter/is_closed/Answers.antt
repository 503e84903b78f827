use Rattle.std.proofs.Common.{rules}
use Rattle.nn_lane.proofs.Readies.{checks}
use Rattle.nn_lane.proofs.ends.Reporter.is_closed.Goals as goal

pub load-front-requires : goal.load-front-requires
load-front-requires c = let i = c.self.invariant in (search rules, search rules, checks _ _ c.self.inside.seat i.sends i.takes)
