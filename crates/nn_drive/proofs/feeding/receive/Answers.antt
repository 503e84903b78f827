use Rattle.nn_drive.proofs.Fed.{got_next}
use Rattle.nn_drive.proofs.feeding.receive.Goals as goal

pub returns-clause-more : goal.returns-clause-more
returns-clause-more g c = got_next c.args.end.now c.next.new.self c.next.result c.next.ensures.gives
