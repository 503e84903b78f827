-- Workers and ends of new lanes.
use Rattle.std.specs.Prelude.{◌≡◌, ℕ, ◌+◌, false, List, [], ◌∷◌}
use Rattle.nn_lane.specs.Ends.{Reporter, LaneEnd, capacity_of}

-- the source has a new lane of this DataNode, of which these are the ends
pub record HasLane {S : Type 0} (dn : ℕ) (source : S) (worker : S × Reporter) (end : LaneEnd) : Type 0 where
  pub own : worker.0 ≡ source
  pub node : worker.1.lane.node ≡ dn
  pub lane : end.lane ≡ worker.1.lane
  pub none_sent : worker.1.sent ≡ []
  pub none_taken : end.got ≡ []
  pub is_open : end.closed ≡ false

-- so have all of them, of the DataNodes from this one on
abbrev pub HaveLanes : {S : Type 0} → ℕ → List S → List (S × Reporter) → List LaneEnd → Type 0
HaveLanes dn [] [] [] = Unit {0}
HaveLanes dn [] [] (e ∷ es) = ⊥
HaveLanes dn [] (w ∷ ws) es = ⊥
HaveLanes dn (s ∷ ss) [] es = ⊥
HaveLanes dn (s ∷ ss) (w ∷ ws) [] = ⊥
HaveLanes dn (s ∷ ss) (w ∷ ws) (e ∷ es) = HasLane dn s w e × HaveLanes (dn + 1) ss ws es

-- each lane holds so many messages at a time
abbrev pub HaveCapacity : ℕ → List LaneEnd → Type 0
HaveCapacity capacity [] = Unit {0}
HaveCapacity capacity (e ∷ es) = (capacity_of e.lane ≡ capacity) × HaveCapacity capacity es
