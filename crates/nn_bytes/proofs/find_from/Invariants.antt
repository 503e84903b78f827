use Rattle.std.proofs.Common.{length, ◌-◌, ◌≡◌, ◌+◌, ◌≤◌, drop}
use Rattle.std.specs.List.{prefix_len}
use Rattle.nn_bytes.specs.Runs.{is_other}
use Rattle.nn_bytes.proofs.find_from.Given as goal

abbrev pub invariant-blocks-2 : goal.invariant-blocks-2
invariant-blocks-2 l = record {
  run : l.from + prefix_len (is_other l.byte) (drop l.from l.text) ≡ l.i + prefix_len (is_other l.byte) (drop l.i l.text);
  bound : l.i ≤ length l.text;
}

abbrev pub decreases-blocks-2 : goal.decreases-blocks-2
decreases-blocks-2 l = length l.text - l.i
