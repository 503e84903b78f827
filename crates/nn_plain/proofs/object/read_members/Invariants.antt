use Rattle.std.proofs.Common.{◌≡◌, ℕ, ◌≤◌, length}
use Rattle.serde_json.specs.Data.{Members, no_members}
use Rattle.nn_plain.specs.Ahead.{members_at}
use Rattle.nn_plain.proofs.object.read_members.Given as goal

abbrev pub invariant-members : goal.invariant-members
invariant-members g l = record {
  rest : (n : ℕ) × (found : Members) × (length l.reader ≤ n)
      × (members_at l.depth (length l.initial.reader) no_members l.initial.reader ≡ members_at l.depth n found l.reader)
      × g.S.MemberSink.seen l.sink found;
  left : length l.reader ≤ length l.initial.reader;
}

abbrev pub decreases-members : goal.decreases-members
decreases-members g l = length l.reader
