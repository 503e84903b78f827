use Rattle.std.proofs.Common.{◌≡◌, ◌≤◌, ◌-◌, drop, length}
use Rattle.nn_postponed.specs.Places.{present}
use Rattle.nn_postponed.proofs.waiting.WaitingIterator.next.Given as goal

abbrev pub invariant-loop-self : goal.invariant-loop-self
invariant-loop-self l = record {
  same : l.self-inside.messages ≡ l.initial.self-inside.messages;
  low : l.self-inside.at ≤ length l.self-inside.messages.now;
  left : present (drop l.self-inside.at l.self-inside.messages.now) ≡ present (drop l.initial.self-inside.at l.initial.self-inside.messages.now);
}

abbrev pub decreases-loop-self : goal.decreases-loop-self
decreases-loop-self l = length l.self-inside.messages.now - l.self-inside.at
