-- What the log has said of a block id, and which items are due.
use Rattle.std.specs.Prelude.{ℕ, Bool, Option, Some, None, find, nat_le, ◌==◌, if◌then◌else◌}
use Rattle.nn_types.specs.declared.block.Block.{Block}
use Rattle.nn_types.specs.declared.status.Status.{Status}
use Rattle.nn_types.specs.declared.status.Status.TheVariants.{Unnamed, Awaiting, Named, Retired}
use Rattle.nn_types.specs.Due.{is_due}
use Rattle.nn_model.specs.Namespace.{Namespace, all_blocks}
use Rattle.nn_model.specs.Apply.{has_id}

-- the block that a file holds under this id
abbrev pub block_at : Namespace → ℕ → Option Block
block_at n id = find (λ b. b.id == id) (all_blocks n)

-- what is said of an id that no file holds
abbrev pub status_unheld : Namespace → ℕ → Status
status_unheld n id = if has_id n.issued.awaiting id then Awaiting else if nat_le id n.issued.last_block then Retired else Unnamed

abbrev pub status_from : Option Block → Status → Status
status_from (Some b) unheld = Named b.stamp
status_from None unheld = unheld

-- A file holds the block, or it awaits, or it was passed over or removed, or it is still to come.
abbrev pub status_of : Namespace → ℕ → Status
status_of n id = status_from (block_at n id) (status_unheld n id)

-- whether an item about the block with the generation stamp is due
abbrev pub due_in : Namespace → ℕ → ℕ → Bool
due_in n id stamp = is_due (status_of n id) stamp
