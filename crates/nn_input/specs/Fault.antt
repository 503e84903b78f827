-- Why an input was not read.
use Rattle.nn_input.specs.declared.fault.InputFault.{InputFault}
use Rattle.nn_input.specs.declared.fault.InputFault.TheVariants.{ReadFailed, OutOfMemory}
use Rattle.nn_input.specs.declared.fault.LinesFault.{LinesFault}
use Rattle.nn_input.specs.declared.fault.LinesFault.TheVariants as lines

abbrev pub as_input_fault : LinesFault → InputFault
as_input_fault lines.ReadFailed = ReadFailed
as_input_fault lines.OutOfMemory = OutOfMemory
