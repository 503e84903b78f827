-- Which calls are refused before anything is done.
use Rattle.std.proofs.Common.{◌≡◌, ℕ, Bool, true, false, not, ◌&&◌, [], ◌∷◌, length, Option, Some, None, inl, inr, refl, sym, ◌∙◌, arith}
use Rattle.std.specs.Prelude.{nat_le, option_map}
use Rattle.std.specs.List.{list_all}
use Rattle.std.proofs.lemmas.Bool.{le-leb, lt-leb}
use Rattle.std.proofs.Math.Bool.{and-false}
use Rattle.nn_shadow.specs.declared.fault.Stop.{Stop}
use Rattle.nn_model.specs.Apply.{fault_if, first_fault}
use Rattle.nn_shadow.specs.Refusals.{is_lane}
use Rattle.nn_lane_standby.specs.declared.standby.Choice.{Choice}
use Rattle.nn_lane_standby.specs.declared.standby.Choice.TheVariants.{Edit, Lane}
use Rattle.nn_lane_standby.specs.declared.fault.StepFault.{StepFault}
use Rattle.nn_lane_standby.specs.declared.fault.StepFault.TheVariants as step
use Rattle.nn_lane_standby.specs.declared.fault.PromoteFault.{PromoteFault}
use Rattle.nn_lane_standby.specs.declared.fault.PromoteFault.TheVariants as promotion
use Rattle.nn_lane_standby.specs.Tailing.{has_begun, Standby, Keeps}
use Rattle.nn_lane_standby.specs.LaneSteps.{is_closed_lane}
use Rattle.nn_lane_standby.specs.Public.{IsPlace, HasNoPlace}
use Rattle.nn_lane_standby.specs.Refusals.{has_place, step_refusal, promote_refusal}

-- the first of these causes
abbrev step_by : Bool → Option Stop → Bool → Option StepFault
step_by begun stop place = first_fault (fault_if begun step.AlreadyActive ∷ option_map (λ s. step.Stopped s) stop ∷ fault_if (not place) step.BadLane ∷ [])

step_is : (x : Standby) (c : Choice) (begun : Bool) (stop : Option Stop) (place : Bool) → has_begun x ≡ begun → x.stop ≡ stop → has_place x c ≡ place → step_refusal x c ≡ step_by begun stop place
step_is x c begun stop place b s p = λ i. step_by (b i) (s i) (p i)

-- what is known of the first cause is the fault
first_is : {F : Type 0} (o : Option F) (f g : F) → o ≡ Some f → o ≡ Some g → f ≡ g
first_is o f g a b = let e : Some f ≡ Some g = sym a ∙ b in cc

never : {F : Type 0} {P : Type 0} (o : Option F) (f : F) → o ≡ None → o ≡ Some f → P
never o f a b = absurd (let e : None ≡ Some f = sym a ∙ b in cc)

pub active_first : (x : Standby) (c : Choice) (f : StepFault) → has_begun x ≡ true → step_refusal x c ≡ Some f → step.AlreadyActive ≡ f
active_first x c f b e = first_is (step_refusal x c) step.AlreadyActive f (step_is x c true x.stop (has_place x c) b refl refl) e

pub stopped_first : (x : Standby) (c : Choice) (f : StepFault) (s : Stop) → has_begun x ≡ false → x.stop ≡ Some s → step_refusal x c ≡ Some f → step.Stopped s ≡ f
stopped_first x c f s b q e = first_is (step_refusal x c) (step.Stopped s) f (step_is x c false (Some s) (has_place x c) b q refl) e

pub edit_goes : {P : Type 0} (x : Standby) (f : StepFault) → has_begun x ≡ false → x.stop ≡ None → step_refusal x Edit ≡ Some f → P
edit_goes x f b q e = never (step_refusal x Edit) f (step_is x Edit false None true b q refl) e

pub has_one : (x : Standby) (dn i : ℕ) → IsPlace x dn i → is_lane (length x.ends) dn ≡ true
has_one x dn i p = (λ j. le-leb 1 dn (omega (arith, p.0)) j && le-leb dn (length x.ends) (omega (arith, p.0, p.1)) j)

pub has_none : (x : Standby) (dn : ℕ) → HasNoPlace x dn → is_lane (length x.ends) dn ≡ false
has_none x dn (inl z) = (λ j. nat_le 1 (z j) && nat_le dn (length x.ends))
has_none x dn (inr l) = (λ j. nat_le 1 dn && lt-leb dn (length x.ends) l j) ∙ and-false (nat_le 1 dn)

pub lane_goes : {P : Type 0} (x : Standby) (f : StepFault) (dn i : ℕ) → has_begun x ≡ false → x.stop ≡ None → IsPlace x dn i → step_refusal x (Lane dn) ≡ Some f → P
lane_goes x f dn i b q p e = never (step_refusal x (Lane dn)) f (step_is x (Lane dn) false None true b q (has_one x dn i p)) e

pub no_lane : (x : Standby) (f : StepFault) (dn : ℕ) → has_begun x ≡ false → x.stop ≡ None → HasNoPlace x dn → step_refusal x (Lane dn) ≡ Some f → step.BadLane ≡ f
no_lane x f dn b q p e = first_is (step_refusal x (Lane dn)) step.BadLane f (step_is x (Lane dn) false None false b q (has_none x dn p)) e

-- ---- The promotion.

abbrev promote_by : Bool → Option Stop → Bool → Bool → Option PromoteFault
promote_by active stop begun closed = first_fault (fault_if active promotion.AlreadyActive ∷ option_map (λ s. promotion.Step (step.Stopped s)) stop ∷ fault_if (not begun && not closed) promotion.IntakeOpen ∷ [])

promote_is : (x : Standby) (active : Bool) (stop : Option Stop) (begun closed : Bool) → x.active ≡ active → x.stop ≡ stop → has_begun x ≡ begun → list_all is_closed_lane x.ends ≡ closed → promote_refusal x ≡ promote_by active stop begun closed
promote_is x active stop begun closed a s b c = λ i. promote_by (a i) (s i) (b i) (c i)

pub promoted_first : (x : Standby) (f : PromoteFault) → x.active ≡ true → promote_refusal x ≡ Some f → promotion.AlreadyActive ≡ f
promoted_first x f a e = first_is (promote_refusal x) promotion.AlreadyActive f (promote_is x true x.stop (has_begun x) (list_all is_closed_lane x.ends) a refl refl refl) e

pub stop_first : (x : Standby) (f : PromoteFault) (s : Stop) → x.active ≡ false → x.stop ≡ Some s → promote_refusal x ≡ Some f → promotion.Step (step.Stopped s) ≡ f
stop_first x f s a q e = first_is (promote_refusal x) (promotion.Step (step.Stopped s)) f (promote_is x false (Some s) (has_begun x) (list_all is_closed_lane x.ends) a q refl refl) e

pub open_first : (x : Standby) (f : PromoteFault) → x.active ≡ false → x.stop ≡ None → has_begun x ≡ false → list_all is_closed_lane x.ends ≡ false → promote_refusal x ≡ Some f → promotion.IntakeOpen ≡ f
open_first x f a q b c e = first_is (promote_refusal x) promotion.IntakeOpen f (promote_is x false None false false a q b c) e

-- a promoted standby has begun its flush
pub promoted_begun : (x : Standby) → Keeps x → x.active ≡ true → has_begun x ≡ true
promoted_begun x k a = elim (has_begun x) as (λ b. has_begun x ≡ b → has_begun x ≡ true) [
  | true ↦ λ e. e
  | false ↦ λ e. absurd (let w : true ≡ false = sym a ∙ k.not_begun e in cc)
] refl

-- nothing keeps back a flush that has begun
pub resumes : {P : Type 0} (x : Standby) (f : PromoteFault) → Keeps x → x.active ≡ false → has_begun x ≡ true → promote_refusal x ≡ Some f → P
resumes x f k a b e = never (promote_refusal x) f (promote_is x false None true (list_all is_closed_lane x.ends) a (k.begun_live b) b refl) e

pub promotion_goes : {P : Type 0} (x : Standby) (f : PromoteFault) → x.active ≡ false → x.stop ≡ None → has_begun x ≡ false → list_all is_closed_lane x.ends ≡ true → promote_refusal x ≡ Some f → P
promotion_goes x f a q b c e = never (promote_refusal x) f (promote_is x false None false true a q b c) e
