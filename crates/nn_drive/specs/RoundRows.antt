-- A rotation over one lane, in which nothing is to be taken, computed.
use Rattle.std.specs.Prelude.{◌≡◌, ℕ, ◌+◌, ◌<◌, ◌≤◌, zero, suc, false, true, [], ◌∷◌, None, refl}
use Rattle.std.proofs.Common.{arith, subst, inl, inr}
use Rattle.nn_lane.specs.Ends.{LaneId}
use Rattle.nn_lane_standby.specs.LaneSteps.{handed_count, all_count}
use Rattle.nn_lane_standby.specs.Public.{IsStepped, SameLane}
use Rattle.nn_lane_standby.specs.PromotedRows.{new, taking}
use Rattle.nn_lane_standby.specs.Tailing.{Standby, with_lane}
use Rattle.nn_lane_standby.specs.declared.standby.Choice.TheVariants.{Edit, Lane}
use Rattle.nn_lane_standby.specs.declared.standby.Stepped.{Stepped}
use Rattle.nn_lane_standby.specs.declared.standby.Stepped.TheVariants as stepped
use Rattle.nn_lane_standby.proofs.Carried.{carries_fetch}
use Rattle.nn_lane_standby.proofs.Shadowing.{settings_same}
use Rattle.nn_drive.specs.Rounds.{StepWasMade, Tries, IsRound}

-- the lane was tried, and had no message
abbrev tried : LaneId → Standby
tried l = with_lane (new l) 0 (record (taking l [] false) { loads = 1 }) None

other_lanes : (l : LaneId) (k : ℕ) → (1 ≡ k + 1 → ⊥) → SameLane (new l) k (tried l)
other_lanes l zero other = absurd (other refl)
other_lanes l (suc k) other = (λ e. refl, refl)

tries_it : (l : LaneId) → StepWasMade (new l) (Lane 1) (tried l)
tries_it l = (
  [],
  stepped.Empty 0,
  (refl, (0, (refl, omega arith), (refl, refl, (refl, refl), refl, λ d. refl))),
  (refl, refl, other_lanes l),
  record {
    carries = carries_fetch (new l) 0 (record (taking l [] false) { loads = 1 }) None (refl, refl, refl) refl;
    same_ends = ((refl, refl, λ closed. absurd (let e : false ≡ true = closed in cc)), tt);
    begun = refl;
    active = refl;
    settings = settings_same (new l).shadow;
  },
)

a_rotation : (l : LaneId) → IsRound (new l) (tried l)
a_rotation l = (Lane 1 ∷ [], (new l, refl, tries_it l), each)
  where
    each : (i : ℕ) → i < 1 → Tries (Lane 1 ∷ []) (i + 1)
    each zero few = inl refl
    each (suc i) few = absurd (omega (arith, few))

not_without_the_second_lane : Tries (Edit ∷ Lane 1 ∷ []) 2 → ⊥
not_without_the_second_lane (inl e) = absurd (cc)
not_without_the_second_lane (inr (inl e)) = absurd (cc)
not_without_the_second_lane (inr (inr none)) = none

-- who leaves the standby as it is has not tried its lane
not_by_doing_nothing : (l : LaneId) → StepWasMade (new l) (Lane 1) (new l) → ⊥
not_by_doing_nothing l h = by h.1 h.2
  where
    by : (s : Stepped) → IsStepped (new l) (Lane 1) h.0 (new l) s → ⊥
    by (stepped.Empty n) m = omega (arith, m.1.2.4 (taking l [] false))
    by (stepped.Handed processed held) m =
        let P : ℕ → Type 0 = λ i. handed_count (new l) i + 1 ≤ all_count (new l) i in
        let first : m.1.0 ≡ 0 = omega (arith, m.1.1.0) in
        let few : 1 ≤ 0 = subst P first m.1.2.few in
        omega (arith, few)
    by (stepped.Applied txid) m = m.1.2
    by stepped.Passed m = m.1.2
    by stepped.LogEnded m = m.1.2
