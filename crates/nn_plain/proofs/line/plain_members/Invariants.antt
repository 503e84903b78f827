use Rattle.std.proofs.Common.{◌≡◌, ℕ, ◌≤◌, length}
use Rattle.serde_json.specs.Data.{Members, no_members}
use Rattle.nn_plain.specs.Ahead.{members_at}
use Rattle.nn_plain.proofs.line.plain_members.Given as goal

abbrev pub invariant-members : goal.invariant-members
invariant-members g l = (n : ℕ) × (found : Members) × (length l.tokens ≤ n)
    × (members_at 126 (length l.initial.tokens) no_members l.initial.tokens ≡ members_at 126 n found l.tokens)
    × g.S.Slots.seen l.slots found

abbrev pub decreases-members : goal.decreases-members
decreases-members g l = length l.tokens
