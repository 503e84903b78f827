-- Safe mode as the calls tell it, computed.
use Rattle.std.specs.Prelude.{◌≡◌, true, refl}
use Rattle.nn_replicas.specs.SafeMode.{counts_of}

-- each count is told as itself
each_count : counts_of (record { total = 4; safe = 3; needed = 2; on = true }) ≡ record { total = 4; safe = 3; needed = 2; on = true }
each_count = refl
