use Rattle.nn_feed.specs.Ends.{got_by}
use Rattle.nn_drive.proofs.Fed.{same_then, got_then}
use Rattle.nn_drive.proofs.feeding.drop_feed.Goals as goal

pub loop-preserved : goal.loop-preserved
loop-preserved g c = (
  same_then c.args.end.now c.loop.end c.receive.new.end c.loop.invariant.0 c.receive.ensures.same,
  got_then (got_by c.args.end.now) (got_by c.loop.end) (got_by c.receive.new.end) c.loop.invariant.1 c.receive.ensures.more,
)

pub returns-then-not-receive-clause-more : goal.returns-then-not-receive-clause-more
returns-then-not-receive-clause-more g c = got_then (got_by c.args.end.now) (got_by c.loop.end) (got_by c.receive.new.end) c.loop.invariant.1 c.receive.ensures.more
