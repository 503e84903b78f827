-- A standby without the history that was taken of it, as if it had kept it: what holds of two such holds of them as they were then.
use Rattle.std.proofs.Common.{◌≡◌, ℕ, List, ◌++◌, sym, ap, subst, append_assoc}
use Rattle.nn_model.specs.History.{History}
use Rattle.nn_segment.specs.Source.{Answer}
use Rattle.nn_shadow.specs.Contents.{Shadow, KeepsSettings}
use Rattle.nn_shadow.specs.declared.fault.Stop.{Stop}
use Rattle.nn_lane_standby.specs.Shadows.{shadow_with_past}
use Rattle.nn_lane_standby.specs.Promotion.{IsPromoted, Promoted}
use Rattle.nn_lane_standby.specs.Tailing.{Standby, StandsAt, Carries, LogStops, standby_with_past}
use Rattle.nn_drive.specs.Driven.{Goes, EndsEarly, WentUntil}
use Rattle.nn_drive.specs.declared.driving.DriveFault.{DriveFault}
use Rattle.nn_drive.specs.declared.driving.DriveFault.TheVariants as drive

-- what was heard comes behind what was taken before
twice : (past heard : History) (x : Standby) → standby_with_past past (standby_with_past heard x) ≡ standby_with_past (past ++ heard) x
twice past heard x = ap (λ (h : History). record x { shadow = record x.shadow { history = h } }) (sym (append_assoc past heard x.shadow.history))

settings_on : (heard : History) (x y : Shadow) → KeepsSettings x y → KeepsSettings (shadow_with_past heard x) (shadow_with_past heard y)
settings_on heard x y k = record { datanodes = k.datanodes; min = k.min; permille = k.permille }

pub settings_with : (heard : History) (x y : Shadow) → KeepsSettings x y → KeepsSettings x (shadow_with_past heard y)
settings_with heard x y k = record { datanodes = k.datanodes; min = k.min; permille = k.permille }

pub settings_of : (heard : History) (x y : Shadow) → KeepsSettings x (shadow_with_past heard y) → KeepsSettings x y
settings_of heard x y k = record { datanodes = k.datanodes; min = k.min; permille = k.permille }

pub carries_after : (heard : History) (x y : Standby) (rs : List Answer) → Carries x rs y → Carries (standby_with_past heard x) rs (standby_with_past heard y)
carries_after heard x y rs c past start base given s =
    subst (λ z. StandsAt start base (given ++ rs) z) (sym (twice past heard y)) (c (past ++ heard) start base given (subst (λ z. StandsAt start base given z) (twice past heard x) s))

pub promotes_after : (heard : History) (x y : Standby) (rs : List Answer) → IsPromoted x rs y → IsPromoted (standby_with_past heard x) rs (standby_with_past heard y)
promotes_after heard x y rs c past start base given s =
    subst (λ z. Promoted start base (given ++ rs) z) (sym (twice past heard y)) (c (past ++ heard) start base given (subst (λ z. StandsAt start base given z) (twice past heard x) s))

-- it is promoted, also where it went on before
pub promotes_then : (x y z : Standby) (rs bs : List Answer) → Carries x rs y → IsPromoted y bs z → IsPromoted x (rs ++ bs) z
promotes_then x y z rs bs f g past start base given s = subst (λ h. Promoted start base h (standby_with_past past z)) (append_assoc given rs bs) (g past start base (given ++ rs) (f past start base given s))

stops_after : (heard : History) (x : Standby) (rs : List Answer) (m : Stop) → LogStops x rs m → LogStops (standby_with_past heard x) rs m
stops_after heard x rs m h past start base given s = h (past ++ heard) start base given (subst (λ z. StandsAt start base given z) (twice past heard x) s)

pub goes_after : (heard : History) (x y : Standby) (rs : List Answer) → Goes x rs y → Goes (standby_with_past heard x) rs (standby_with_past heard y)
goes_after heard x y rs g = record {
  carries = carries_after heard x y rs g.carries;
  same_ends = g.same_ends;
  begun = g.begun;
  active = g.active;
  settings = settings_on heard x.shadow y.shadow g.settings;
}

module _ {T : Type 0} (gives : T → Answer → T → Type 0) (failures : T → ℕ) where
  early_after : (heard : History) (s t : T) (x : Standby) (rs : List Answer) (f : DriveFault) → EndsEarly failures s x rs t f → EndsEarly failures s (standby_with_past heard x) rs t f
  early_after heard s t x rs drive.AlreadyActive h = h
  early_after heard s t x rs (drive.Stopped m) h = stops_after heard x rs m h
  early_after heard s t x rs (drive.LogNotEnded f) h = h
  early_after heard s t x rs drive.OutOfMemory h = tt

  pub until_after : (heard : History) (s t : T) (x : Standby) (f : DriveFault) → WentUntil gives failures s x t f → WentUntil gives failures s (standby_with_past heard x) t f
  until_after heard s t x f h = (h.0, h.1, early_after heard s t x h.0 f h.2, h.3)
