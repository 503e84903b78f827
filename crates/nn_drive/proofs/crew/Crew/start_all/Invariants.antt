use Rattle.std.specs.Prelude.{◌≡◌, ℕ, ◌+◌, ◌<◌, ◌≤◌, get_or, vec_items, vec_len, vec_capacity}
use Rattle.std.specs.Vec.Iter.{into_iter_items, into_iter_len}
use Rattle.nn_drive.specs.Driven.{IsPromised}
use Rattle.nn_drive.proofs.crew.Crew.start_all.Given as goal

abbrev pub invariant-loop-worker : goal.invariant-loop-worker
invariant-loop-worker g l =
    let done = vec_len l.handles in let rest = l.worker-iterator in let first = l.initial.worker-iterator in
    (done + into_iter_len rest ≡ into_iter_len first)
    × ((k : ℕ) (w : _) → k < into_iter_len rest → get_or (into_iter_items rest) k w ≡ get_or (into_iter_items first) (done + k) w)
    × ((k : ℕ) (w : _) (h : _) → k < done → IsPromised (get_or (into_iter_items first) k w) (get_or (vec_items l.handles) k h))
    × (into_iter_len first ≤ vec_capacity l.handles)
