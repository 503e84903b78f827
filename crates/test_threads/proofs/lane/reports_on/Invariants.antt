use Rattle.std.proofs.Common.{◌≡◌}
use Rattle.test_threads.proofs.lane.reports_on.Given as goal

abbrev pub invariant-loop : goal.invariant-loop
invariant-loop l = l.reporter.lane ≡ l.initial.reporter.lane
