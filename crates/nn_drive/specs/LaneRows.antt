-- New lanes of two DataNodes, computed.
use Rattle.std.specs.Prelude.{◌≡◌, ℕ, [], ◌∷◌, None, true, false, refl}
use Rattle.std.proofs.Common.{arith}
use Rattle.std.proofs.lemmas.Bool.{both_ways}
use Rattle.nn_lane.specs.Ends.{LaneId, Reporter, LaneEnd}
use Rattle.nn_drive.specs.NewLanes.{HasLane, HaveLanes, HaveCapacity}

abbrev lane : LaneId → ℕ → LaneId
lane l dn = record l { node = dn }

-- of so many places
abbrev of_places : LaneId → ℕ → LaneId
of_places l n = record l { table = record l.table { slots = n } }

abbrev pub reporting : LaneId → ℕ → Reporter
reporting l dn = record { lane = lane l dn; sent = []; prepared = None; seen = 0; loads = 0; checks = 0; told = false }

abbrev pub taking : LaneId → ℕ → LaneEnd
taking l dn = record { lane = lane l dn; got = []; seen = 0; loads = 0; closed = false }

-- DataNodes count from 1, in the order of their sources
new_lanes : (k l : LaneId) → HaveLanes {S = ℕ} 1 (7 ∷ 8 ∷ []) ((7, reporting k 1) ∷ (8, reporting l 2) ∷ []) (taking k 1 ∷ taking l 2 ∷ [])
new_lanes k l = (
  record { own = refl; node = refl; lane = refl; none_sent = refl; none_taken = refl; is_open = refl },
  (record { own = refl; node = refl; lane = refl; none_sent = refl; none_taken = refl; is_open = refl }, tt),
)

not_of_another : (l : LaneId) → HasLane {S = ℕ} 2 7 (7, reporting l 1) (taking l 1) → ⊥
not_of_another l h = let e : 1 ≡ 2 = h.node in omega (arith, e)

one_for_each : (l : LaneId) → HaveLanes {S = ℕ} 1 (7 ∷ 8 ∷ []) ((7, reporting l 1) ∷ []) (taking l 1 ∷ []) → ⊥
one_for_each l h = h.1

not_closed : (l : LaneId) → HasLane {S = ℕ} 1 7 (7, reporting l 1) (record (taking l 1) { closed = true }) → ⊥
not_closed l h = both_ways true h.is_open refl

-- each lane has the places that were asked for
four_places_each : (k l : LaneId) → HaveCapacity 4 (taking (of_places k 4) 1 ∷ taking (of_places l 4) 2 ∷ [])
four_places_each k l = (refl, (refl, tt))

not_of_other_places : (k l : LaneId) → HaveCapacity 4 (taking (of_places k 4) 1 ∷ taking (of_places l 64) 2 ∷ []) → ⊥
not_of_other_places k l h = let e : 64 ≡ 4 = h.1.0 in omega (arith, e)
