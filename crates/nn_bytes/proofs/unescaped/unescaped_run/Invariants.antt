use Rattle.std.proofs.Common.{length, ◌-◌, ◌≡◌, ◌+◌, ◌≤◌, drop}
use Rattle.std.specs.List.{prefix_len}
use Rattle.nn_bytes.specs.Runs.{is_unescaped_byte}
use Rattle.nn_bytes.proofs.unescaped.unescaped_run.Given as goal

abbrev pub invariant-blocks-2 : goal.invariant-blocks-2
invariant-blocks-2 l = record {
  run : prefix_len is_unescaped_byte l.text ≡ l.i + prefix_len is_unescaped_byte (drop l.i l.text);
  bound : l.i ≤ length l.text;
}

abbrev pub decreases-blocks-2 : goal.decreases-blocks-2
decreases-blocks-2 l = length l.text - l.i

abbrev pub invariant-rest : goal.invariant-rest
invariant-rest l = record {
  run : prefix_len is_unescaped_byte l.text ≡ l.i + prefix_len is_unescaped_byte (drop l.i l.text);
  bound : l.i ≤ length l.text;
}

abbrev pub decreases-rest : goal.decreases-rest
decreases-rest l = length l.text - l.i
