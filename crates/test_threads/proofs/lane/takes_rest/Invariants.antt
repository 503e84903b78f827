use Rattle.std.proofs.Common.{◌≡◌}
use Rattle.test_threads.proofs.lane.takes_rest.Given as goal

abbrev pub invariant-loop : goal.invariant-loop
invariant-loop l = l.end.lane ≡ l.initial.end.lane
