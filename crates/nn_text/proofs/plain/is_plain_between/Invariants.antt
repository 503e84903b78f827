use Rattle.std.proofs.Common.{◌≡◌, ◌≤◌, ◌+◌, ◌-◌, take, drop, true}
use Rattle.nn_text.specs.Plain.{is_plain}
use Rattle.nn_text.proofs.plain.is_plain_between.Given as goal

-- the blocks so far are plain
abbrev pub invariant-blocks-2 : goal.invariant-blocks-2
invariant-blocks-2 l = record {
  from : l.start ≤ l.at;
  most : l.at ≤ l.end + 15;
  plain : is_plain (take (l.at - l.start) (drop l.start l.room)) ≡ true;
}

abbrev pub decreases-blocks-2 : goal.decreases-blocks-2
decreases-blocks-2 l = l.end - l.at
