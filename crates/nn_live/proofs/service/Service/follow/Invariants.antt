use Rattle.std.proofs.Common.{ℕ, List, length}
use Rattle.nn_device.specs.Page.{PutsPiece}
use Rattle.nn_live.proofs.Following.{Came}
use Rattle.nn_live.proofs.service.Service.follow.Given as goal

abbrev pub invariant-txs : goal.invariant-txs
invariant-txs g l = (text : List ℕ) × PutsPiece text l.fn.page l.fn.writer l.page l.writer × Came l.fn.self l.self l.fn.txs l.rest text

abbrev pub decreases-txs : goal.decreases-txs
decreases-txs g l = length l.rest
