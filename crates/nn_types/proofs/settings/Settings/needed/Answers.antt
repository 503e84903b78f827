use Rattle.std.proofs.Common.{rules}
use Rattle.nn_types.proofs.settings.Settings.needed.Goals as goal

pub returns : goal.returns
returns c = search rules
