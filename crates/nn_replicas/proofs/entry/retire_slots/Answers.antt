use Rattle.nn_replicas.proofs.Written.{retired_at}
use Rattle.nn_replicas.proofs.entry.retire_slots.Goals as goal

pub loop-slot-preserved : goal.loop-slot-preserved
loop-slot-preserved c = retired_at c.args.slots.now c.loop-slot.slots c.loop-slot.slot-index c.slot-item.result c.retire.new.self c.loop-slot-test.true c.loop-slot.invariant c.slot-item.is c.retire.ensures
