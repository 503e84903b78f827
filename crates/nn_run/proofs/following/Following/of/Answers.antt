use Rattle.nn_run.proofs.LiveLemmas.{begins_lived}
use Rattle.nn_run.proofs.following.Following.of.Goals as goal

pub returns-clause-live : goal.returns-clause-live
returns-clause-live c = begins_lived c.new.result c.of.result c.args.history c.args.shadow c.new.ensures.of c.of.ensures c.requires.fresh c.requires.stands
