use Rattle.std.proofs.Common.{rules}
use Rattle.nn_feed.proofs.Keeps.{begins, forks}
use Rattle.nn_feed.proofs.ends.calls.feed.Goals as goal

pub bounded_with-requires-clause-rule : goal.bounded_with-requires-clause-rule
bounded_with-requires-clause-rule g c = begins

pub another-other-requires-clause-rule : goal.another-other-requires-clause-rule
another-other-requires-clause-rule g c = forks _ _ (search rules) (search rules)
