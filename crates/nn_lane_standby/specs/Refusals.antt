-- Which calls are refused before anything is done, and why: the first cause in order is answered.
use Rattle.std.specs.Prelude.{Bool, true, not, ◌&&◌, Option, option_map, [], ◌∷◌, length}
use Rattle.std.specs.List.{list_all}
use Rattle.nn_model.specs.Apply.{fault_if, first_fault}
use Rattle.nn_shadow.specs.Refusals.{is_lane}
use Rattle.nn_lane_standby.specs.declared.standby.Choice.{Choice}
use Rattle.nn_lane_standby.specs.declared.standby.Choice.TheVariants.{Edit, Lane}
use Rattle.nn_lane_standby.specs.declared.fault.StepFault.{StepFault}
use Rattle.nn_lane_standby.specs.declared.fault.StepFault.TheVariants as step
use Rattle.nn_lane_standby.specs.declared.fault.PromoteFault.{PromoteFault}
use Rattle.nn_lane_standby.specs.declared.fault.PromoteFault.TheVariants as promotion
use Rattle.nn_lane_standby.specs.Tailing.{has_begun, Standby}
use Rattle.nn_lane_standby.specs.LaneSteps.{is_closed_lane}

-- DataNodes are numbered from 1
abbrev pub has_place : Standby → Choice → Bool
has_place x Edit = true
has_place x (Lane dn) = is_lane (length x.ends) dn

-- a step: the flush has begun, the standby was stopped, there is no such DataNode
abbrev pub step_refusal : Standby → Choice → Option StepFault
step_refusal x choice =
    first_fault (fault_if (has_begun x) step.AlreadyActive ∷ option_map (λ stop. step.Stopped stop) x.stop ∷ fault_if (not (has_place x choice)) step.BadLane ∷ [])

-- a promotion: it was promoted, it was stopped, a lane is open; once the flush has begun only memory keeps it back
abbrev pub promote_refusal : Standby → Option PromoteFault
promote_refusal x =
    first_fault (fault_if x.active promotion.AlreadyActive ∷ option_map (λ stop. promotion.Step (step.Stopped stop)) x.stop
    ∷ fault_if (not (has_begun x) && not (list_all is_closed_lane x.ends)) promotion.IntakeOpen ∷ [])
