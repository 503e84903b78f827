use Rattle.std.proofs.Common.{◌≡◌, ◌++◌, drop}
use Rattle.std.specs.Prelude.{filter}
use Rattle.nn_postponed.specs.Release.{must_wait}
use Rattle.nn_shadow.specs.Calls.{is_due_in}
use Rattle.nn_shadow.proofs.taking.waiting.Given as goal

abbrev pub invariant-loop-item : goal.invariant-loop-item
invariant-loop-item l = l.those.items ++ filter (must_wait (is_due_in l.namespace) l.held) (drop l.item-index l.items)
    ≡ filter (must_wait (is_due_in l.namespace) l.held) l.items
