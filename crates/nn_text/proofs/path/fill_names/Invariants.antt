use Rattle.std.proofs.Common.{◌≡◌, ◌≤◌, ◌+◌, ◌++◌, length, take}
use Rattle.std.specs.Prelude.{flat_map}
use Rattle.std.specs.Map.Iter.{deref}
use Rattle.nn_text.specs.Plain.{slashed}
use Rattle.nn_text.proofs.path.fill_names.Given as goal

-- the names so far stand in the room
abbrev pub invariant-loop-name : goal.invariant-loop-name
invariant-loop-name l = record {
  from : l.used ≤ l.end;
  within : l.end + 17 ≤ length l.room;
  len : length l.room ≡ length l.fn.room;
  filled : take l.end l.room ≡ take l.used l.fn.room ++ flat_map (λ n. slashed (deref n)) (take l.name-index l.names);
  same : take l.used l.room ≡ take l.used l.fn.room;
}
