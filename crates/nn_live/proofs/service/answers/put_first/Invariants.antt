use Rattle.std.proofs.Common.{take, map, flat_map}
use Rattle.nn_device.specs.Page.{PutsAllBut}
use Rattle.nn_live.specs.Answers.{held_line}
use Rattle.nn_live.proofs.service.answers.put_first.Given as goal

-- the lines that are left are to be put
abbrev pub invariant-held : goal.invariant-held
invariant-held g l = PutsAllBut (flat_map (λ line. line) (take l.most (map held_line l.fn.held))) (flat_map (λ line. line) (take l.left (map held_line l.held))) l.fn.page l.fn.writer l.page l.writer

abbrev pub decreases-held : goal.decreases-held
decreases-held g l = l.left
