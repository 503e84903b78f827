use Rattle.nn_types.proofs.CommonForm.{faults_are}
use Rattle.nn_types.proofs.simple.faults.Goals as goal

pub returns : goal.returns
returns c = faults_are c.args.here c.args.behind c.requires.here c.requires.behind
