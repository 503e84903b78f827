-- What a worker that is joined says of its lane, once its standby was promoted.
use Rattle.std.specs.Prelude.{Option}
use Rattle.std.proofs.Common.{◌≡◌, ℕ, ◌<◌, length, map, get_or, subst, arith}
use Rattle.std.proofs.lemmas.List.{length-map}
use Rattle.nn_types.specs.declared.report.Report.{Report}
use Rattle.nn_lane.specs.Ends.{Reporter}
use Rattle.nn_segment.specs.Source.{Answer}
use Rattle.nn_lane_standby.specs.Tailing.{Standby}
use Rattle.nn_drive.specs.Driven.{HasReported}
use Rattle.nn_drive.specs.Served.{end_of, handle_of}
use Rattle.nn_drive.specs.ServeLaws.{TakesAllOfTheJoined}
use Rattle.nn_drive.specs.Serving.{IsDry}
use Rattle.nn_drive.specs.declared.operator.Request.{Request}
use Rattle.nn_drive.proofs.Serves.{map_at}

pub takes_all : {O T S : Type 0} (asks : O → Standby → ℕ → Request → O → Type 0) (gives : T → Answer → T → Type 0) (failures : T → ℕ) (reports : S → Option Report → S → Type 0) → TakesAllOfTheJoined asks gives failures reports
takes_all {O} {T} {S} asks gives failures reports past start base given old source workers o p served at h i w r l below left =
    let running = served.workers.items in
    let here : i < length (map handle_of running) = omega (arith, below, h.run.0, length-map running handle_of) in
    let in_ends : i < length (map end_of running) = omega (arith, below, h.run.0, length-map running end_of) in
    let promised = h.run.1.1 i w (handle_of r) here in
    let handle = map_at handle_of running i r in
    let dry : IsDry (end_of (get_or running i r)) = subst IsDry (map_at end_of running i r) ((h.promoted past start base given at).dry i (end_of r) in_ends) in
    let from : (handle_of (get_or running i r)).promise.0.value ≡ (get_or workers i w).0 = subst (λ h. h.promise.0.value ≡ (get_or workers i w).0) handle promised.0 in
    let reporter : (handle_of (get_or running i r)).promise.1.value ≡ (get_or workers i w).1 = subst (λ h. h.promise.1.value ≡ (get_or workers i w).1) handle promised.1 in
    record {
      worked = left.worked;
      reported = subst (λ (x : Reporter). HasReported reports (get_or workers i w).0 x left.worked) reporter
          (subst (λ (s : S). HasReported reports s (handle_of (get_or running i r)).promise.1.value left.worked) from left.reported);
      taken = left.all dry;
      source = left.source;
      outcome = left.outcome;
      accepted = left.accepted;
    }
