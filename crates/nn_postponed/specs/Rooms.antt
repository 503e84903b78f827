-- The messages of a queue, which are few or many.
use Rattle.std.specs.Prelude.{List}
use Rattle.nn_types.specs.declared.report.Message.{Message}
use Rattle.nn_postponed.specs.Places.{present}
use Rattle.nn_postponed.specs.declared.queue.Room.{Room}
use Rattle.nn_postponed.specs.declared.queue.Room.TheVariants.{Few, Many}

abbrev pub messages_in : Room → List Message
messages_in (Few q) = q
messages_in (Many q) = present q
