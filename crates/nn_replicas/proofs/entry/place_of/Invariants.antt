use Rattle.std.proofs.Common.{◌≡◌, ◌+◌, drop}
use Rattle.nn_replicas.specs.Scan.{place}
use Rattle.nn_replicas.proofs.entry.place_of.Given as goal

-- the cells passed are all of DataNodes below
abbrev pub invariant-loop-i : goal.invariant-loop-i
invariant-loop-i l = place l.dn l.slots ≡ l.i + place l.dn (drop l.i l.slots)
