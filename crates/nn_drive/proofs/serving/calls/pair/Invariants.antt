use Rattle.std.specs.Prelude.{◌≡◌, ◌+◌, ◌≤◌, ◌++◌, map, vec_items, vec_len, vec_capacity}
use Rattle.std.specs.List.{AllZip}
use Rattle.std.specs.Vec.Iter.{into_iter_items, into_iter_len}
use Rattle.nn_drive.specs.Serving.{IsOf}
use Rattle.nn_drive.specs.Served.{end_of, handle_of}
use Rattle.nn_drive.proofs.serving.calls.pair.Given as goal

abbrev pub invariant-loop-handle : goal.invariant-loop-handle
invariant-loop-handle g l =
    AllZip IsOf (into_iter_items l.rest) (into_iter_items l.handle-iterator)
    × (map end_of (vec_items l.paired) ++ into_iter_items l.rest ≡ l.fn.ends.items)
    × (map handle_of (vec_items l.paired) ++ into_iter_items l.handle-iterator ≡ l.fn.handles.items)
    × (vec_len l.paired + into_iter_len l.handle-iterator ≤ vec_capacity l.paired)
