use Rattle.std.proofs.Common.{rules}
use Rattle.nn_types.proofs.profile.Profile.new.Goals as goal

pub returns-in_default : goal.returns-in_default
returns-in_default c = search rules
