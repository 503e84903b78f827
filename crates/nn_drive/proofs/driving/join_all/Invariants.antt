use Rattle.std.specs.Prelude.{◌≡◌, ℕ, ◌+◌, ◌<◌, ◌≤◌, true, length, get_or, vec_items, vec_capacity}
use Rattle.std.specs.Vec.Iter.{into_iter_items, into_iter_len}
use Rattle.nn_lane.specs.Ends.{Reporter, LaneEnd}
use Rattle.nn_drive.specs.Driven.{IsJoined, ToldOne}
use Rattle.nn_drive.proofs.driving.join_all.Given as goal

abbrev pub invariant-loop-handle : goal.invariant-loop-handle
invariant-loop-handle g l =
    let rest = l.handle-iterator in let first = l.initial.handle-iterator in
    (l.place + into_iter_len rest ≡ into_iter_len first)
    × ((k : ℕ) (h : _) → k < into_iter_len rest → get_or (into_iter_items rest) k h ≡ get_or (into_iter_items first) (l.place + k) h)
    × (length (vec_items l.reporters) ≡ l.place)
    × (into_iter_len first ≤ vec_capacity l.reporters)
    × ((k : ℕ) (h : _) (e : LaneEnd) (r : Reporter) → k < l.place → IsJoined g.S.ReportSource.gives l.told (get_or (into_iter_items first) k h) (get_or l.fn.ends k e) (get_or (vec_items l.reporters) k r))
    × (l.told ≡ true → ToldOne l.fn.ends (vec_items l.reporters))
