use Rattle.std.proofs.Common.{◌≡◌, ℕ, ◌+◌, ◌*◌, ◌≤◌, List, length, Some, None}
use Rattle.json.specs.Token.{Token}
use Rattle.serde_json.specs.Data.{Items, Members, no_members}
use Rattle.nn_plain.specs.Ahead.{items_at, members_at}
use Rattle.nn_plain.proofs.any.+read.Given as goal

abbrev pub decreases-read_from : goal.decreases-read_from
decreases-read_from l = 3 * l.depth

abbrev pub decreases-read_value : goal.decreases-read_value
decreases-read_value l = 3 * l.depth + 1

abbrev pub decreases-skip_items : goal.decreases-skip_items
decreases-skip_items l = 3 * l.depth + 2

abbrev pub decreases-skip_members : goal.decreases-skip_members
decreases-skip_members l = 3 * l.depth + 2

-- What the rest holds, all held.
abbrev pub invariant-skip_items-items : goal.invariant-skip_items-items
invariant-skip_items-items l = record {
  rest : (m : ℕ) → length l.initial.reader ≤ m → (n : ℕ) × (length l.reader ≤ n)
      × ((ds : Items) (r : List Token) → items_at l.depth n l.reader ≡ Some (ds, r) → (es : Items) × (items_at l.depth m l.initial.reader ≡ Some (es, r)))
      × (items_at l.depth n l.reader ≡ None → items_at l.depth m l.initial.reader ≡ None);
  left : length l.reader ≤ length l.initial.reader;
}

abbrev pub decreases-skip_items-items : goal.decreases-skip_items-items
decreases-skip_items-items l = length l.reader

abbrev pub invariant-skip_members-members : goal.invariant-skip_members-members
invariant-skip_members-members l = record {
  rest : (n : ℕ) × (found : Members) × (length l.reader ≤ n)
      × (members_at l.depth (length l.initial.reader) no_members l.initial.reader ≡ members_at l.depth n found l.reader);
  left : length l.reader ≤ length l.initial.reader;
}

abbrev pub decreases-skip_members-members : goal.decreases-skip_members-members
decreases-skip_members-members l = length l.reader
