use Rattle.std.proofs.Common.{rules}
use Rattle.nn_types.proofs.settings.Settings.new.Goals as goal

pub returns-else-permille-le1000 : goal.returns-else-permille-le1000
returns-else-permille-le1000 c = search rules
