use Rattle.std.proofs.Common.{◌-◌, ◌^◌, ℕ, List, []}
use Rattle.nn_device.specs.Device.{Reader}
use Rattle.nn_device.specs.Page.{PutsPiece}
use Rattle.nn_live.specs.Running.{IsUnderWay, serving_by}
use Rattle.nn_live.specs.declared.run.LiveOptions.{LiveOptions}
use Rattle.nn_live.proofs.run.serve.Given as goal

-- the service is under way, and this was told
abbrev pub invariant-reads : goal.invariant-reads
invariant-reads g l =
    (told : List ℕ) × PutsPiece told l.fn.page l.fn.writer l.page l.writer
    × ((options : LiveOptions) (before : Reader) → IsUnderWay (serving_by options before l.fn.input) [] l.fn.served → IsUnderWay (serving_by options before l.input) told l.served)

abbrev pub decreases-reads : goal.decreases-reads
decreases-reads g l = 2 ^ 62 - l.input.given
