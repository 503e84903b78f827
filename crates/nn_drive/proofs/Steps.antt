-- A standby that goes on, step by step.
use Rattle.std.proofs.Common.{◌≡◌, ℕ, ◌+◌, ◌<◌, ◌≤◌, true, false, List, [], ◌∷◌, ◌++◌, length, Bool, Option, Result, Some, None, Err, refl, sym, ap, ◌∙◌, subst, arith, append_assoc}
use Rattle.nn_segment.specs.Source.{Answer, Asked}
use Rattle.nn_segment.proofs.Asks.{asked_append}
use Rattle.std.specs.Prelude.{option_map}
use Rattle.nn_shadow.specs.declared.fault.Stop.{Stop}
use Rattle.nn_model.specs.Apply.{fault_if, first_fault}
use Rattle.nn_shadow.specs.Refusals.{is_lane}
use Rattle.nn_lane_standby.specs.declared.standby.Choice.{Choice}
use Rattle.nn_lane_standby.specs.declared.standby.Choice.TheVariants.{Lane}
use Rattle.nn_lane_standby.specs.declared.standby.Stepped.{Stepped}
use Rattle.nn_lane_standby.specs.Tailing.{has_begun, Standby, StopsLog, Carries}
use Rattle.nn_lane_standby.specs.LaneSteps.{SameEnds}
use Rattle.nn_lane_standby.specs.Public.{NotStepped, StandbySteps}
use Rattle.nn_lane_standby.specs.Reads.{WhyEnded, StopsFor}
use Rattle.nn_lane_standby.specs.Refusals.{has_place}
use Rattle.nn_lane_standby.specs.Steps.{OnLogFault}
use Rattle.nn_lane_standby.specs.declared.fault.StepFault.{StepFault}
use Rattle.nn_lane_standby.specs.declared.fault.StepFault.TheVariants as step
use Rattle.nn_lane_standby.proofs.Carried.{carries_same, carries_then}
use Rattle.nn_lane_standby.proofs.Drained.{same_length}
use Rattle.nn_lane_standby.proofs.LaneSteps.{ends_same, ends_then}
use Rattle.nn_lane_standby.proofs.Refusing.{has_one, has_none}
use Rattle.nn_lane_standby.proofs.Shadowing.{settings_same, settings_then}
use Rattle.nn_drive.specs.declared.driving.DriveFault.{DriveFault}
use Rattle.nn_drive.specs.declared.driving.DriveFault.TheVariants as drive
use Rattle.nn_drive.specs.Driven.{Goes, Went, EndsEarly, WentUntil}
use Rattle.nn_drive.specs.Refusals.{drive_refusal, MayCome, IsSameFault}

-- ---- Which faults come.

pub begun_or_not : {P : Type 0} (x : Standby) → has_begun x ≡ false → has_begun x ≡ true → P
begun_or_not x b h = absurd (let w : false ≡ true = sym b ∙ h in cc)

pub step_may_come : (x y : Standby) (c : Choice) (rs : List Answer) (f : StepFault) → has_begun x ≡ false → has_place x c ≡ true → NotStepped x c rs y f → MayCome f
step_may_come x y c rs step.AlreadyActive b p h = begun_or_not x b h.0
step_may_come x y c rs (step.Stopped m) b p h = tt
step_may_come x y c rs step.BadLane b p h =
    absurd (let w : true ≡ false = sym p ∙ ap (has_place x) h.1 ∙ has_none x h.0 h.2 in cc)
step_may_come x y c rs (step.LogNotEnded f) b p h = tt
step_may_come x y c rs step.OutOfMemory b p h = tt

pub promotion_may_come : (rs : List Answer) (y : Standby) (f : StepFault) → WhyEnded rs y f → MayCome f
promotion_may_come rs y step.AlreadyActive h = h
promotion_may_come rs y (step.Stopped m) h = tt
promotion_may_come rs y step.BadLane h = h
promotion_may_come rs y (step.LogNotEnded f) h = tt
promotion_may_come rs y step.OutOfMemory h = tt

-- the place of each lane, also where the standby went on
pub has_lane : (x y : Standby) (lanes i : ℕ) → lanes ≡ length x.ends → i < lanes → SameEnds x.ends y.ends → has_place y (Lane (i + 1)) ≡ true
has_lane x y lanes i n l s = has_one y (i + 1) i (refl, omega (arith, l, n, same_length x.ends y.ends s))

-- and the place of a lane that is there
pub still_place : (x y : Standby) (dn : ℕ) → has_place x (Lane dn) ≡ true → SameEnds x.ends y.ends → has_place y (Lane dn) ≡ true
still_place x y dn p s = (λ j. is_lane (same_length x.ends y.ends s j) dn) ∙ p

-- ---- The first cause of refusal.

abbrev refusal_by : Bool → Option Stop → Option DriveFault
refusal_by begun stop = first_fault (fault_if begun drive.AlreadyActive ∷ option_map (λ m. drive.Stopped m) stop ∷ [])

refusal_is : (x : Standby) (begun : Bool) (stop : Option Stop) → has_begun x ≡ begun → x.stop ≡ stop → drive_refusal x ≡ refusal_by begun stop
refusal_is x begun stop b s = λ i. refusal_by (b i) (s i)

first_is : (o : Option DriveFault) (f g : DriveFault) → o ≡ Some f → o ≡ Some g → f ≡ g
first_is o f g a b = let e : Some f ≡ Some g = sym a ∙ b in cc

pub active_first : (x : Standby) (f : DriveFault) → has_begun x ≡ true → drive_refusal x ≡ Some f → drive.AlreadyActive ≡ f
active_first x f b e = first_is (drive_refusal x) drive.AlreadyActive f (refusal_is x true x.stop b refl) e

pub stop_first : (x : Standby) (f : DriveFault) (m : Stop) → has_begun x ≡ false → x.stop ≡ Some m → drive_refusal x ≡ Some f → drive.Stopped m ≡ f
stop_first x f m b s e = first_is (drive_refusal x) (drive.Stopped m) f (refusal_is x false (Some m) b s) e

pub active_refused : {A : Type 0} (x : Standby) (f : DriveFault) → has_begun x ≡ true → drive_refusal x ≡ Some f → ◌≡◌ {A = Result A DriveFault} (Err drive.AlreadyActive) (Err f)
active_refused x f b e = ap (λ z. Err z) (first_is (drive_refusal x) drive.AlreadyActive f (refusal_is x true x.stop b refl) e)

pub stop_refused : {A : Type 0} (x : Standby) (f : DriveFault) (m : Stop) → has_begun x ≡ false → x.stop ≡ Some m → drive_refusal x ≡ Some f → ◌≡◌ {A = Result A DriveFault} (Err (drive.Stopped m)) (Err f)
stop_refused x f m b s e = ap (λ z. Err z) (first_is (drive_refusal x) (drive.Stopped m) f (refusal_is x false (Some m) b s) e)

serves_by : (x : Standby) (begun : Bool) → has_begun x ≡ begun → drive_refusal x ≡ None → has_begun x ≡ false
serves_by x true b is = absurd (let w : Some drive.AlreadyActive ≡ None = sym (refusal_is x true x.stop b refl) ∙ is in cc)
serves_by x false b is = b

-- a standby that is not refused serves
pub serves : (x : Standby) → drive_refusal x ≡ None → has_begun x ≡ false
serves x is = serves_by x (has_begun x) refl is

pub goes : {P : Type 0} (x : Standby) (f : DriveFault) → has_begun x ≡ false → x.stop ≡ None → drive_refusal x ≡ Some f → P
goes x f b s e = absurd (let w : None ≡ Some f = sym (refusal_is x false None b s) ∙ e in cc)

-- ---- How a standby went on.

pub goes_nowhere : (x : Standby) → Goes x [] x
goes_nowhere x = record { carries = carries_same x; same_ends = ends_same x.ends; begun = refl; active = refl; settings = settings_same x.shadow }

pub goes_then : (x y z : Standby) (rs bs : List Answer) → Goes x rs y → Goes y bs z → Goes x (rs ++ bs) z
goes_then x y z rs bs f g = record {
  carries = carries_then x y z rs bs f.carries g.carries;
  same_ends = ends_then x.ends y.ends z.ends f.same_ends g.same_ends;
  begun = g.begun ∙ f.begun;
  active = g.active ∙ f.active;
  settings = settings_then x.shadow y.shadow z.shadow f.settings g.settings;
}

module _ {T : Type 0} (gives : T → Answer → T → Type 0) (failures : T → ℕ) where
  -- ---- Why it ended early.

  pub ends_as : (A : Type 0) (s t : T) (x : Standby) (rs : List Answer) (f : StepFault) (g : DriveFault) → StopsFor x rs f → OnLogFault {A = A} (Err f) (failures s < failures t) → IsSameFault f g
      → EndsEarly failures s x rs t g
  ends_as A s t x rs step.AlreadyActive g h w q = absurd q
  ends_as A s t x rs (step.Stopped m) g h w q = subst (EndsEarly failures s x rs t) (sym q) h
  ends_as A s t x rs step.BadLane g h w q = absurd q
  ends_as A s t x rs (step.LogNotEnded f) g h w q = subst (EndsEarly failures s x rs t) (sym q) (h, w)
  ends_as A s t x rs step.OutOfMemory g h w q = subst (EndsEarly failures s x rs t) (sym q) tt

  -- also where the standby went on before
  later_ends : (s t u : T) (x y : Standby) (rs qs : List Answer) (f : DriveFault) → has_begun y ≡ false → Carries x rs y → failures s ≤ failures t → EndsEarly failures t y qs u f
      → EndsEarly failures s x (rs ++ qs) u f
  later_ends s t u x y rs qs drive.AlreadyActive b c l h = begun_or_not y b h.0
  later_ends s t u x y rs qs (drive.Stopped m) b c l h = λ past start base given at. subst (λ g. StopsLog start base g m) (append_assoc given rs qs) (h past start base (given ++ rs) (c past start base given at))
  later_ends s t u x y rs qs (drive.LogNotEnded e) b c l h = ((rs ++ h.0.0, ap (λ z. rs ++ z) h.0.1 ∙ sym (append_assoc rs h.0.0 (Err e ∷ []))), omega (arith, l, h.1))
  later_ends s t u x y rs qs drive.OutOfMemory b c l h = tt

  pub until_then : (s t u : T) (x y : Standby) (rs : List Answer) (f : DriveFault) → Asked gives s rs t → Carries x rs y → has_begun y ≡ false → failures s ≤ failures t → WentUntil gives failures t y u f
      → WentUntil gives failures s x u f
  until_then s t u x y rs f a c b l h = (rs ++ h.0, asked_append gives s t u rs h.0 a h.1, later_ends s t u x y rs h.0 f b c l h.2, omega (arith, l, h.3))

  -- a standby that stands where the log stopped it
  pub stopped_before : (s : T) (x : Standby) (m : Stop) → x.stop ≡ Some m → WentUntil gives failures s x s (drive.Stopped m)
  stopped_before s x m e = ([], refl, (λ past start base given h. (carries_same x past start base given h).stops m e), omega arith)

  -- it was not asked yet
  pub nothing_yet : (s : T) (x : Standby) → WentUntil gives failures s x s drive.OutOfMemory
  nothing_yet s x = ([], refl, tt, omega arith)

  pub active_before : (s : T) (x : Standby) → has_begun x ≡ true → WentUntil gives failures s x s drive.AlreadyActive
  active_before s x b = ([], refl, (b, refl), omega arith)

  refused_by : (s : T) (x : Standby) (f : DriveFault) (begun : Bool) (stop : Option Stop) → has_begun x ≡ begun → x.stop ≡ stop → drive_refusal x ≡ Some f → WentUntil gives failures s x s f
  refused_by s x f true stop b e is = subst (WentUntil gives failures s x s) (active_first x f b is) (active_before s x b)
  refused_by s x f false (Some m) b e is = subst (WentUntil gives failures s x s) (stop_first x f m b e is) (stopped_before s x m e)
  refused_by s x f false None b e is = goes x f b e is

  -- it was refused before it began
  pub refused_before : (s : T) (x : Standby) (f : DriveFault) → drive_refusal x ≡ Some f → WentUntil gives failures s x s f
  refused_before s x f is = refused_by s x f (has_begun x) x.stop refl refl is

  -- ---- How it went.

  pub went_nowhere : (s : T) (x : Standby) → Went gives failures s x s x
  went_nowhere s x = ([], refl, goes_nowhere x, omega arith)

  pub went_on : (s t u : T) (x y z : Standby) → Went gives failures s x t y → Went gives failures t y u z → Went gives failures s x u z
  went_on s t u x y z f g = (f.0 ++ g.0, asked_append gives s t u f.0 g.0 f.1 g.1, goes_then x y z f.0 g.0 f.2 g.2, omega (arith, f.3, g.3))

  pub went_until : (s t u : T) (x y : Standby) (f : DriveFault) → has_begun x ≡ false → Went gives failures s x t y → WentUntil gives failures t y u f → WentUntil gives failures s x u f
  went_until s t u x y f b g h = until_then s t u x y g.0 f g.1 g.2.carries (g.2.begun ∙ b) g.3 h

  pub one_step : (s t : T) (x y : Standby) (c : Choice) (r : Result Stepped StepFault) → StandbySteps gives s x c t y r → failures s ≤ failures t → Went gives failures s x t y
  one_step s t x y c r h l = (h.0, h.1, record { carries = h.2; same_ends = h.3; begun = h.4; active = h.7; settings = h.6 }, l)

  pub one_fault : (s t : T) (x y : Standby) (c : Choice) (f : StepFault) (g : DriveFault) → StandbySteps gives s x c t y (Err f) → OnLogFault {A = Stepped} (Err f) (failures s < failures t) → failures s ≤ failures t
      → IsSameFault f g → WentUntil gives failures s x t g
  one_fault s t x y c f g h w l q = (h.0, h.1, ends_as Stepped s t x h.0 f g h.5.2 w q, l)
