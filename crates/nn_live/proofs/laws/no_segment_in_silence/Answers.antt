use Rattle.nn_live.proofs.laws.no_segment_in_silence.Goals as goal
use Rattle.nn_live.proofs.Silence as silence

pub returns : goal.returns
returns c = silence.no_segment_in_silence
