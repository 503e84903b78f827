use Rattle.nn_image.proofs.Round.{reads_old_back}
use Rattle.nn_image.proofs.law.reads_old_back.Goals as goal

pub returns : goal.returns
returns c = reads_old_back
