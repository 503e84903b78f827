-- What the replica table has to show in the end. It knows the namespace and what each DataNode said last of each block, and no
-- events and no order between DataNodes.
use Rattle.std.specs.Prelude.{◌≡◌, ℕ, Bool, false, Option, None, is_some, filter, option_and_then, ◌==◌, if◌then◌else◌}
use Rattle.std.specs.List.{last_or}
use Rattle.nn_types.specs.declared.report.Message.{Message}
use Rattle.nn_types.specs.declared.replica.Replica.{Replica}
use Rattle.nn_model.specs.Namespace.{Namespace}
use Rattle.nn_model.specs.Lanes.{Lanes}
use Rattle.nn_model.specs.Replay.{Sequential, reported, is_named}

-- the DataNode's last item about the block
abbrev pub last_said : Lanes → ℕ → ℕ → Option Message
last_said lanes dn id = last_or None (filter (λ m. m.block == id) (lanes dn))

-- what the DataNode has of the block by its last word: nothing where that is a delete, or where it said nothing
abbrev pub last_replica : Lanes → ℕ → ℕ → Option Replica
last_replica lanes dn id = option_and_then reported (last_said lanes dn id)

-- what it has is a replica where a file holds the block
abbrev pub picture_replica : Namespace → Lanes → ℕ → ℕ → Option Replica
picture_replica n lanes dn id = if is_named n id then last_replica lanes dn id else None

-- and is to be deleted where none does
abbrev pub picture_order : Namespace → Lanes → ℕ → ℕ → Bool
picture_order n lanes dn id = if is_named n id then false else is_some (last_replica lanes dn id)

-- the sequential standby shows the picture
pub record ShowsPicture (n : Namespace) (lanes : Lanes) (s : Sequential) : Type 0 where
  pub namespace : s.namespace ≡ n
  pub replicas : (dn id : ℕ) → s.replica dn id ≡ picture_replica n lanes dn id
  pub orders : (dn id : ℕ) → s.has_order dn id ≡ picture_order n lanes dn id
