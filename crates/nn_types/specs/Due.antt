-- When an item about a block is due.
use Rattle.std.specs.Prelude.{ℕ, Bool, true, false, nat_le}
use Rattle.nn_types.specs.declared.status.Status.{Status}
use Rattle.nn_types.specs.declared.status.Status.TheVariants.{Unnamed, Awaiting, Named, Retired}

-- A message with this generation stamp is due once the log names its block with a stamp at least as high, or has retired it.
abbrev pub is_due : Status → ℕ → Bool
is_due (Named named) stamp = nat_le stamp named
is_due Retired stamp = true
is_due Awaiting stamp = false
is_due Unnamed stamp = false
