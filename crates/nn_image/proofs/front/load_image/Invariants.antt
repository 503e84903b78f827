use Rattle.nn_input.specs.Cut.{still_to_cut}
use Rattle.nn_image.specs.FrontReading.{HasImage}
use Rattle.nn_image.proofs.front.load_image.Given as goal

-- the lines so far are loaded, and the image goes on
abbrev pub invariant-lines : goal.invariant-lines
invariant-lines g l = HasImage l.fn.input l.input l.fn.lines l.lines l.loading

abbrev pub decreases-lines : goal.decreases-lines
decreases-lines g l = still_to_cut l.input l.lines
