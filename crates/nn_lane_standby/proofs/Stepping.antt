-- A public step.
use Rattle.std.proofs.Common.{◌≡◌, ◌≢◌, ℕ, ◌+◌, List, [], None, get_or, Result, Ok, Err, inl, inr, refl, sym, ap, ◌∙◌, subst}
use Rattle.std.proofs.lemmas.List.{get_or-set_other}
use Rattle.nn_segment.specs.Source.{Answer}
use Rattle.nn_lane_standby.specs.declared.standby.Choice.{Choice}
use Rattle.nn_lane_standby.specs.declared.standby.Choice.TheVariants.{Edit, Lane}
use Rattle.nn_lane_standby.specs.declared.standby.Stepped.{Stepped}
use Rattle.nn_lane_standby.specs.declared.fault.StepFault.{StepFault}
use Rattle.nn_lane_standby.specs.declared.fault.StepFault.TheVariants as fault
use Rattle.nn_lane_standby.specs.Tailing.{Standby, Carries}
use Rattle.nn_lane_standby.specs.Reads.{StopsWith, StopsFor}
use Rattle.nn_lane_standby.specs.Steps.{Edits, OnLogFault}
use Rattle.nn_lane_standby.specs.LaneSteps.{LaneFrame, LaneMoves}
use Rattle.nn_lane_standby.specs.Public.{IsPlace, IsStepped, NotStepped, Leaves, StandbySteps}
use Rattle.nn_lane_standby.proofs.Carried.{carries_same}
use Rattle.nn_lane_standby.proofs.LaneSteps.{ends_same}
use Rattle.nn_lane_standby.proofs.Prepared.{ends_by}
use Rattle.nn_lane_standby.proofs.Shadowing.{settings_same}

-- why nothing was done
stops_by : (x y : Standby) (c : Choice) (rs : List Answer) (f : StepFault) → Carries x rs y → NotStepped x c rs y f → StopsWith y f × StopsFor x rs f
stops_by x y c rs fault.AlreadyActive g h = (tt, tt)
stops_by x y c rs (fault.Stopped m) g (inl h) = let e = ap (λ z. z.stop) h.1.1 ∙ h.1.0 in (e, λ past start base given s. (g past start base given s).stops m e)
stops_by x y c rs (fault.Stopped m) g (inr h) = (h.1.0, λ past start base given s. (g past start base given s).stops m h.1.0)
stops_by x y c rs fault.BadLane g h = (tt, tt)
stops_by x y c rs (fault.LogNotEnded f) g h = (tt, ([], h.1.0))
stops_by x y c rs fault.OutOfMemory g h = (tt, tt)

-- nothing was done
leaves_same : (x : Standby) (c : Choice) → Leaves x c x
leaves_same x Edit = (refl, refl)
leaves_same x (Lane dn) = (refl, refl, λ k other. ((λ e. refl), refl))

-- a lane alone changed
leaves_others : (x y : Standby) (dn i : ℕ) → dn ≡ i + 1 → LaneFrame x i y → Leaves x (Lane dn) y
leaves_others x y dn i at f = (
  f.rest,
  f.stop,
  λ k other.
      let n : k ≢ i = λ e. other (at ∙ ap (λ j. j + 1) (sym e)) in (
        (λ e. ap (λ es. get_or es k e) f.ends ∙ get_or-set_other x.ends i k f.end e n),
        ap (λ ks. get_or ks k None) f.undelivered ∙ get_or-set_other x.undelivered i k f.message None n,
      ),
)

module _ {S : Type 0} (gives : S → Answer → S → Type 0) where
  pub step_refused : (s : S) (x : Standby) (choice : Choice) (f : StepFault) → NotStepped x choice [] x f → StandbySteps gives s x choice s x (Err f)
  step_refused s x choice f h = let w = stops_by x x choice [] f (carries_same x) h in ([], refl, carries_same x, ends_same x.ends, refl, (h, w.0, w.1), settings_same x.shadow, refl, leaves_same x choice)

  pub edit_steps : (s t : S) (x y : Standby) (c : Choice) (r : Result Stepped StepFault) → c ≡ Edit → Edits gives s x t y r → StandbySteps gives s x c t y r
  edit_steps s t x y c (Ok a) q h = (h.0, h.1, h.2, ends_by x y h.3, h.3.begun, subst (λ z. IsStepped x z h.0 y a) (sym q) h.4, h.3.settings, h.3.active, subst (λ z. Leaves x z y) (sym q) (h.3.ends, h.3.undelivered))
  edit_steps s t x y c (Err fault.AlreadyActive) q h = absurd h.4
  edit_steps s t x y c (Err (fault.Stopped m)) q h = (h.0, h.1, h.2, ends_by x y h.3, h.3.begun, (inr (q, h.4), h.4.0, λ past start base given g. (h.2 past start base given g).stops m h.4.0), h.3.settings, h.3.active, subst (λ z. Leaves x z y) (sym q) (h.3.ends, h.3.undelivered))
  edit_steps s t x y c (Err fault.BadLane) q h = absurd h.4
  edit_steps s t x y c (Err (fault.LogNotEnded f)) q h = (h.0, h.1, h.2, ends_by x y h.3, h.3.begun, ((q, h.4), tt, ([], h.4.0)), h.3.settings, h.3.active, subst (λ z. Leaves x z y) (sym q) (h.3.ends, h.3.undelivered))
  edit_steps s t x y c (Err fault.OutOfMemory) q h = (h.0, h.1, h.2, ends_by x y h.3, h.3.begun, (inl (q, h.4), tt, tt), h.3.settings, h.3.active, subst (λ z. Leaves x z y) (sym q) (h.3.ends, h.3.undelivered))

  pub lane_steps : (s : S) (x y : Standby) (c : Choice) (dn i : ℕ) (r : Result Stepped StepFault) → c ≡ Lane dn → IsPlace x dn i → LaneFrame x i y → LaneMoves x i y r → StandbySteps gives s x c s y r
  lane_steps s x y c dn i (Ok a) q p f h = ([], refl, f.carries, f.same_ends, f.begun, subst (λ z. IsStepped x z [] y a) (sym q) (refl, (i, p, h)), f.settings, f.active, subst (λ z. Leaves x z y) (sym q) (leaves_others x y dn i p.0 f))
  lane_steps s x y c dn i (Err fault.AlreadyActive) q p f h = absurd h
  lane_steps s x y c dn i (Err (fault.Stopped m)) q p f h = absurd h
  lane_steps s x y c dn i (Err fault.BadLane) q p f h = absurd h
  lane_steps s x y c dn i (Err (fault.LogNotEnded e)) q p f h = absurd h
  lane_steps s x y c dn i (Err fault.OutOfMemory) q p f h = ([], refl, f.carries, f.same_ends, f.begun, (inr (dn, i, q, refl, p, h), tt, tt), f.settings, f.active, subst (λ z. Leaves x z y) (sym q) (leaves_others x y dn i p.0 f))

pub lane_fault : (x y : Standby) (i : ℕ) (r : Result Stepped StepFault) (P : Type 0) → LaneMoves x i y r → OnLogFault r P
lane_fault x y i (Ok a) P h = tt
lane_fault x y i (Err fault.AlreadyActive) P h = tt
lane_fault x y i (Err (fault.Stopped m)) P h = tt
lane_fault x y i (Err fault.BadLane) P h = tt
lane_fault x y i (Err (fault.LogNotEnded e)) P h = absurd h
lane_fault x y i (Err fault.OutOfMemory) P h = tt
