use Rattle.std.specs.Prelude.{flat_map}
use Rattle.nn_device.specs.Page.{PutsAllBut}
use Rattle.nn_live.specs.Answers.{held_line}
use Rattle.nn_live.proofs.one_block.put_waiting.Given as goal

-- the lines of the messages that are left are to be put
abbrev pub invariant-loop-message : goal.invariant-loop-message
invariant-loop-message g l = PutsAllBut (flat_map held_line l.fn.waiting) (flat_map held_line l.message-iterator) l.fn.page l.fn.writer l.page l.writer
