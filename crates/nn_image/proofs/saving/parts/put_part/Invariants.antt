use Rattle.std.proofs.Common.{◌≡◌, length}
use Rattle.nn_image.proofs.InParts.{HasPutRows}
use Rattle.nn_image.proofs.saving.parts.put_part.Given as goal

-- of the rows that are left some were put, and the part goes on behind them
abbrev pub invariant-rows : goal.invariant-rows
invariant-rows g l = (l.before ≡ l.fn.writer.taken) × HasPutRows l.fn.writer l.fn.rows l.fn.bytes l.fn.walk.left l.lines l.walk.left l.page l.writer

abbrev pub decreases-rows : goal.decreases-rows
decreases-rows g l = length l.walk.left
