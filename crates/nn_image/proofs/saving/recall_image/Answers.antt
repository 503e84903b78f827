use Rattle.nn_image.proofs.Round.{is_read_back}
use Rattle.nn_image.proofs.saving.recall_image.Goals as goal

pub returns : goal.returns
returns c = is_read_back _ _ c.recall_invariant.ensures.well_formed c.recall_invariant.ensures.utf8 c.get.ensures.limit
