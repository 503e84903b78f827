-- What a header says, as the definitions see it.
use Rattle.std.specs.Prelude.{ℕ, ◌≡◌, ◌≤◌, true}
use Rattle.nn_model.specs.Namespace.{Namespace, no_block, no_stamp}
use Rattle.nn_tree.specs.Restore.{bare, awaiting_fits}
use Rattle.nn_image.specs.declared.header.Header.{Header}

abbrev pub header_value : Header → Namespace × ℕ
header_value h = (bare (record { last_block = h.last_block; last_stamp = h.last_stamp; awaiting = h.awaiting.items; profile = h.profile }), h.txid)

-- a namespace may be made with these numbers
abbrev pub IsLawfulHeader : Header → Type 0
IsLawfulHeader h = (no_block ≤ h.last_block) × (no_stamp ≤ h.last_stamp) × (awaiting_fits h.last_block h.awaiting.items ≡ true)
