-- Numbers that tell of each DataNode how many messages are from it: each stands at the place of its DataNode's number.
use Rattle.std.specs.Prelude.{◌≡◌, ℕ, ◌+◌, List, get_or, ◌==◌, if◌then◌else◌}
use Rattle.nn_types.specs.declared.report.Message.{Message}
use Rattle.nn_postponed.specs.Queues.{held_from}

-- a DataNode's number, 0 where none stands
abbrev pub count_of : ℕ → List ℕ → ℕ
count_of dn counts = get_or counts dn 0

-- each DataNode's number is how many of the messages are from it
abbrev pub AreCounted : List ℕ → List Message → Type 0
AreCounted counts messages = (dn : ℕ) → count_of dn counts ≡ held_from dn messages

-- each DataNode's number is the same
abbrev pub SameCounts : List ℕ → List ℕ → Type 0
SameCounts old new = (dn : ℕ) → count_of dn new ≡ count_of dn old

-- this DataNode's number is higher by one, and each other's is the same
abbrev pub OneMore : ℕ → List ℕ → List ℕ → Type 0
OneMore from old new = (dn : ℕ) → count_of dn new ≡ count_of dn old + (if from == dn then 1 else 0)
