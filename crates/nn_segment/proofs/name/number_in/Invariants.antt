use Rattle.std.proofs.Common.{◌≡◌, ◌<◌, ◌^◌, take}
use Rattle.nn_segment.specs.Name.{digits}
use Rattle.nn_segment.proofs.name.number_in.Given as goal

-- the digits so far are those of the number so far
abbrev pub invariant-loop-b : goal.invariant-loop-b
invariant-loop-b l = record {
  below : l.number < 10 ^ l.b-index;
  spelled : digits l.b-index l.number ≡ take l.b-index l.text;
}
