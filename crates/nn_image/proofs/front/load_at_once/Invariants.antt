use Rattle.std.proofs.Common.{◌-◌, ◌^◌}
use Rattle.nn_image.specs.FrontReading.{HasWaited}
use Rattle.nn_image.proofs.front.load_at_once.Given as goal

-- all that was read is loaded, and the image waits
abbrev pub invariant-reads : goal.invariant-reads
invariant-reads g l = HasWaited l.fn.input l.input l.lines l.loading

abbrev pub decreases-reads : goal.decreases-reads
decreases-reads g l = 2 ^ 62 - l.input.given
