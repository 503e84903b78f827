use Rattle.std.proofs.Common.{◌≡◌, ◌++◌, ℕ, List, length}
use Rattle.nn_device.specs.Page.{PutsPiece}
use Rattle.nn_live.specs.Taking.{Pushes}
use Rattle.nn_live.proofs.live.Live.push.Given as goal

-- all but the rest was taken
abbrev pub invariant-lines : goal.invariant-lines
invariant-lines g l = (told : List ℕ) × PutsPiece told l.fn.page l.fn.writer l.page l.writer × (taken : List ℕ) × (l.bytes ≡ taken ++ l.rest) × Pushes taken l.fn.self l.self told

abbrev pub decreases-lines : goal.decreases-lines
decreases-lines g l = length l.rest
