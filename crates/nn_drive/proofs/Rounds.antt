-- Steps after steps, up to a rotation.
use Rattle.std.proofs.Common.{ℕ, ◌+◌, ◌<◌, List, [], ◌∷◌, ◌++◌, Ok, refl, sym, ap, subst, ◌∙◌, arith, inl, inr}
use Rattle.std.proofs.Math.Nat.{eq-or-lt_of_le}
use Rattle.nn_segment.specs.Source.{Answer}
use Rattle.nn_model.specs.Stands.{StandbyState}
use Rattle.nn_shadow.specs.Contents.{Shadow, standby_of}
use Rattle.nn_shadow.proofs.ItemsTaken.{received_stays}
use Rattle.nn_lane_standby.specs.LaneSteps.{LaneMoves}
use Rattle.nn_lane_standby.specs.Public.{StandbySteps}
use Rattle.nn_lane_standby.specs.Tailing.{Standby}
use Rattle.nn_lane_standby.specs.declared.standby.Choice.{Choice}
use Rattle.nn_lane_standby.specs.declared.standby.Choice.TheVariants.{Lane}
use Rattle.nn_lane_standby.specs.declared.standby.Stepped.{Stepped}
use Rattle.nn_lane_standby.specs.declared.standby.Stepped.TheVariants as stepped
use Rattle.nn_drive.specs.Rounds.{StepWasMade, HasMade, Tries, HasStepped, HasTried, HasVisited}
use Rattle.nn_drive.specs.Serving.{KeepsNamespace}

pub makes : {T : Type 0} (gives : T → Answer → T → Type 0) (s t : T) (x y : Standby) (choice : Choice) (stepped : Stepped) → StandbySteps gives s x choice t y (Ok stepped) → StepWasMade x choice y
makes gives s t x y choice stepped h = (h.0, stepped, h.5, h.8, record { carries = h.2; same_ends = h.3; begun = h.4; active = h.7; settings = h.6 })

made_then : (x y z : Standby) (steps more : List Choice) → HasMade x steps y → HasMade y more z → HasMade x (more ++ steps) z
made_then x y z steps [] f g = subst (λ v. HasMade x steps v) (sym g) f
made_then x y z steps (choice ∷ more) f g = (g.0, made_then x y g.0 steps more f g.1, g.2)

tries_before : (steps more : List Choice) (dn : ℕ) → Tries steps dn → Tries (more ++ steps) dn
tries_before steps [] dn h = h
tries_before steps (choice ∷ more) dn h = inr (tries_before steps more dn h)

tries_then : (steps more : List Choice) (dn : ℕ) → Tries more dn → Tries (more ++ steps) dn
tries_then steps [] dn h = absurd h
tries_then steps (choice ∷ more) dn (inl e) = inl e
tries_then steps (choice ∷ more) dn (inr h) = inr (tries_then steps more dn h)

-- ---- Steps of the log or of lanes.

pub none_stepped : (x : Standby) → HasStepped x x
none_stepped x = ([], refl)

pub one_stepped : (x y z : Standby) (choice : Choice) → HasStepped x y → StepWasMade y choice z → HasStepped x z
one_stepped x y z choice f m = (choice ∷ f.0, (y, f.1, m))

-- ---- Of one lane.

pub one_tried : (x y z : Standby) (dn : ℕ) → HasStepped x y → StepWasMade y (Lane dn) z → HasTried x dn z
one_tried x y z dn f m = (Lane dn ∷ f.0, (y, f.1, m), inl refl)

pub tried_steps : (x y : Standby) (dn : ℕ) → HasTried x dn y → HasStepped x y
tried_steps x y dn h = (h.0, h.1)

-- ---- Of each lane.

pub none_visited : (x : Standby) → HasVisited x 0 x
none_visited x = ([], refl, λ i few. absurd (omega (arith, few)))

-- one lane more, and then steps of the log
one_more : (steps more : List Choice) (lanes : ℕ) → ((i : ℕ) → i < lanes → Tries steps (i + 1)) → Tries more (lanes + 1) → (i : ℕ) → i < lanes + 1 → Tries (more ++ steps) (i + 1)
one_more steps more lanes each last i few = elim (eq-or-lt_of_le {n = i} {m = lanes} (omega arith)) [
  | inl e ↦ tries_then steps more (i + 1) (let P : ℕ → Type 0 = λ n. Tries more (n + 1) in subst P (sym e) last)
  | inr below ↦ tries_before steps more (i + 1) (each i below)
]

pub one_visited : (x y z w : Standby) (lanes : ℕ) → HasVisited x lanes y → HasTried y (lanes + 1) z → HasStepped z w → HasVisited x (lanes + 1) w
one_visited x y z w lanes f g h = (
  h.0 ++ (g.0 ++ f.0),
  made_then x z w (g.0 ++ f.0) h.0 (made_then x y z f.0 g.0 f.1 g.1) h.1,
  λ i few. tries_before (g.0 ++ f.0) h.0 (i + 1) (one_more f.0 g.0 lanes f.2 g.2 i few),
)

pub visited_then : (x y z : Standby) (lanes : ℕ) → HasStepped x y → HasVisited y lanes z → HasVisited x lanes z
visited_then x y z lanes f g = (g.0 ++ f.0, made_then x y z f.0 g.0 f.1 g.1, λ i few. tries_then f.0 g.0 (i + 1) (g.2 i few))

-- ---- The namespace under the steps of lanes.

pub keeps_same : (x : Standby) → KeepsNamespace x x
keeps_same x = record { namespace = refl; last = refl }

pub keeps_then : (x y z : Standby) → KeepsNamespace x y → KeepsNamespace y z → KeepsNamespace x z
keeps_then x y z f g = record { namespace = g.namespace ∙ f.namespace; last = g.last ∙ f.last }

lane_moved : (x y : Standby) (i : ℕ) (s : Stepped) → LaneMoves x i y (Ok s) → KeepsNamespace x y
lane_moved x y i (stepped.Handed processed held) m =
    let stays = received_stays (standby_of x.shadow) m.message in
    record { namespace = ap (λ (z : StandbyState). z.namespace) m.standby ∙ stays.0; last = ap (λ (z : StandbyState). z.last) m.standby ∙ stays.1 }
lane_moved x y i (stepped.Empty n) m = record { namespace = ap (λ (z : Shadow). z.namespace) m.0; last = ap (λ (z : Shadow). z.last) m.0 }
lane_moved x y i (stepped.Applied txid) m = absurd m
lane_moved x y i stepped.Passed m = absurd m
lane_moved x y i stepped.LogEnded m = absurd m

pub lane_keeps : (x y z : Standby) (dn : ℕ) → KeepsNamespace x y → StepWasMade y (Lane dn) z → KeepsNamespace x z
lane_keeps x y z dn f m = keeps_then x y z f (lane_moved y z m.2.1.0 m.1 m.2.1.2)
