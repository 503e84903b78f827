use Rattle.std.proofs.Common.{Ok, Err, subst}
use Rattle.nn_feed.specs.Ends.{got_by, Gets}
use Rattle.nn_feed.proofs.Answered.{gets_lower, gets_ended, gets_end_again}
use Rattle.nn_feed.proofs.ends.calls.FeedEndSegmentSource.next.Goals as goal

pub returns-in-Ok-clause-lower : goal.returns-in-Ok-clause-lower
returns-in-Ok-clause-lower g c = gets_lower (got_by c.args.self.now) (got_by c.ask.new.self) c.in-Ok.item c.in-Ok.ensures.gives.1

pub returns-in-Ok-clause-ends : goal.returns-in-Ok-clause-ends
returns-in-Ok-clause-ends g c =
    let old = got_by c.args.self.now in let new = got_by c.ask.new.self in
    λ is. gets_ended old new (subst (λ a. Gets old a new) is c.in-Ok.ensures.gives.1)

pub returns-in-Ok-clause-stays_ended : goal.returns-in-Ok-clause-stays_ended
returns-in-Ok-clause-stays_ended g c = gets_end_again (got_by c.args.self.now) (got_by c.ask.new.self) (Ok c.in-Ok.item) c.in-Ok.ensures.gives.1

pub returns-in-Err-clause-stays_ended : goal.returns-in-Err-clause-stays_ended
returns-in-Err-clause-stays_ended g c = gets_end_again (got_by c.args.self.now) (got_by c.ask.new.self) (Err c.in-Err.fault) c.in-Err.ensures.gives.1
