use Rattle.std.proofs.Common.{◌≡◌, ◌<◌, ℕ, List, ◌++◌, length}
use Rattle.std.specs.List.{All}
use Rattle.nn_live.specs.Serving.{Ascends}
use Rattle.nn_live.specs.declared.full.FullReport.{FullReport}
use Rattle.nn_live.proofs.full.FullReports.place_of.Given as goal

-- those before the rest are below it
abbrev pub invariant-reports : goal.invariant-reports
invariant-reports l = (below : List FullReport) × (l.self ≡ below ++ l.rest) × (length below ≡ l.place) × All (λ (x : FullReport). x.dn < l.dn) below × (from : ℕ) × Ascends from l.rest

abbrev pub decreases-reports : goal.decreases-reports
decreases-reports l = length l.rest
