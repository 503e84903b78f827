use Rattle.std.proofs.Common.{◌≡◌, ◌++◌}
use Rattle.nn_tree.proofs.issued.Issued.awaiting.Given as goal

-- the ids so far, and those that are left
abbrev pub invariant-loop-id : goal.invariant-loop-id
invariant-loop-id l = l.ids.items ++ l.id-iterator ≡ l.self.awaiting
