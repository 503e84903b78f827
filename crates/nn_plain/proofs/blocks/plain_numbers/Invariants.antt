use Rattle.std.proofs.Common.{◌≡◌, ℕ, ◌≤◌, length, codes}
use Rattle.serde_json.specs.Data.{Members, object, no_members}
use Rattle.nn_plain.specs.Ahead.{members_at}
use Rattle.nn_plain.specs.Spelling.{whole_at}
use Rattle.nn_plain.proofs.blocks.plain_numbers.Given as goal

abbrev pub invariant-members : goal.invariant-members
invariant-members l = record {
  rest : (n : ℕ) × (found : Members) × (length l.tokens ≤ n)
      × (members_at 124 (length l.initial.tokens) no_members l.initial.tokens ≡ members_at 124 n found l.tokens)
      × (l.numbers.id ≡ whole_at (codes "id") (object found))
      × (l.numbers.stamp ≡ whole_at (codes "gen") (object found))
      × (l.numbers.len ≡ whole_at (codes "len") (object found));
  left : length l.tokens ≤ length l.initial.tokens;
}

abbrev pub decreases-members : goal.decreases-members
decreases-members l = length l.tokens
