-- The number of each fault of a path that is restored.
use Rattle.std.specs.Prelude.{ℕ}
use Rattle.nn_types.specs.declared.fault.TheConstants.{BAD_IMAGE_LINE, MEMORY}
use Rattle.nn_tree.specs.declared.fault.RestoreFault.{RestoreFault}
use Rattle.nn_tree.specs.declared.fault.RestoreFault.TheVariants.{Refused, OutOfMemory}

abbrev pub number_of : RestoreFault → ℕ
number_of Refused = BAD_IMAGE_LINE
number_of OutOfMemory = MEMORY
