-- A standby that was not promoted: what its source did, once its thread is joined.
use Rattle.std.specs.Prelude.{IfSome, MatchOption, ◌⊎◌}
use Rattle.std.specs.declared.thread.PromisedHandle.{PromisedHandle}
use Rattle.std.proofs.Common.{◌≡◌, ℕ, Bool, true, List, [], Option, Some, None, length, sym, subst, inl}
use Rattle.nn_feed.specs.Ends.{got_by}
use Rattle.nn_feed.specs.declared.ends.FeedEnd.{FeedEnd}
use Rattle.nn_lane.specs.Ends.{Reporter}
use Rattle.nn_segment.specs.Source.{Answer}
use Rattle.nn_lane_standby.specs.Tailing.{Standby}
use Rattle.nn_drive.specs.Driven.{NotDriven}
use Rattle.nn_drive.specs.Feeding.{GotMore, HasAnswered, FailsOver}
use Rattle.nn_drive.specs.Served.{AreStarted, IsUntouched, IsUnmet, ComesBack, IsStopped, IsUnserved}
use Rattle.nn_drive.specs.declared.driving.DriveFault.{DriveFault}
use Rattle.nn_drive.specs.declared.driving.DriveFault.TheVariants as drive
use Rattle.nn_drive.specs.declared.operator.Request.{Request}
use Rattle.nn_drive.specs.declared.serving.Feeding.{Feeding}
use Rattle.nn_drive.specs.declared.serving.Unserved.{Unserved}
use Rattle.nn_drive.specs.declared.driving.WorkerExit.{WorkerExit}
use Rattle.nn_drive.specs.declared.driving.WorkerPromise.{WorkerPromise}
use Rattle.nn_drive.proofs.Fed.{got_then, failed, not_met}
use Rattle.nn_drive.proofs.Starts.{none_started}

module _ {T S R : Type 0} (gives : T → Answer → T → Type 0) (failures : T → ℕ) (u : Unserved T S R) (old : Standby) (source : T) (h : IsStopped gives failures old source u) where
  pub none_left : u.feeding ≡ None → NotDriven gives failures old source u.fault
  none_left e =
      subst (λ (o : Option (Feeding T R)). MatchOption o (NotDriven gives failures old source u.fault)
      (λ (f : Feeding T R). (f.handle.promise.0.value ≡ source) × ((begin : FeedEnd R) × (got_by begin ≡ []) × FailsOver old begin f.end u.fault))) e h

  module _ (f : Feeding T R) (is : u.feeding ≡ Some f) where
    left : (f.handle.promise.0.value ≡ source) × ((begin : FeedEnd R) × (got_by begin ≡ []) × FailsOver old begin f.end u.fault)
    left = subst (λ (o : Option (Feeding T R)). MatchOption o (NotDriven gives failures old source u.fault)
        (λ (f : Feeding T R). (f.handle.promise.0.value ≡ source) × ((begin : FeedEnd R) × (got_by begin ≡ []) × FailsOver old begin f.end u.fault))) is h

    module _ (e2 : FeedEnd R) (met : Bool) (a : HasAnswered gives failures f.handle.promise.0.value (got_by e2) met) where
      answered : HasAnswered gives failures source (got_by e2) met
      answered = subst (λ (s : T). HasAnswered gives failures s (got_by e2) met) left.0 a

      pub left_unmet : NotDriven gives failures old source drive.OutOfMemory
      left_unmet = not_met gives failures source old (got_by e2) met answered

      pub left_met : met ≡ true → GotMore (got_by f.end) (got_by e2) → NotDriven gives failures old source u.fault
      left_met m more =
          let k = left.1.2 in
          let over : FailsOver old left.1.0 e2 u.fault = record { answers = k.answers; between = k.between; asked = k.asked; why = k.why; told = k.told; more = got_then (got_by k.between) (got_by f.end) (got_by e2) k.more more } in
          (answered.0, failed gives failures source answered.0 old left.1.0 e2 u.fault left.1.1 over answered.2 (answered.3 m))

-- it was refused for this, with no thread to join
pub is_refused : {O T S R : Type 0} (asks : O → Standby → ℕ → Request → O → Type 0) (gives : T → Answer → T → Type 0) (failures : T → ℕ) (workers : List (S × Reporter)) (o p : O) (u : Unserved T S R) (old : Standby) (source : T) (back : Option T) (f : DriveFault)
    → (u.fault ≡ f) × (u.feeding ≡ None) × (u.source ≡ back) → IsUntouched old workers u → IfSome back (λ s. s ≡ source) → NotDriven gives failures old source f → IsUnserved asks gives failures old source workers o p u
is_refused {O} {T} {S} {R} asks gives failures workers o p u old source back f e same own n = record {
  started = subst (λ (hs : List (PromisedHandle (WorkerExit S) (WorkerPromise S))). AreStarted workers hs u.unstarted.items) (sym same.1) (subst (AreStarted workers []) (sym same.2) (none_started workers));
  source_back = subst (λ (b : Option T). IfSome b (λ s. s ≡ source)) (sym e.2) own;
  why = subst (λ (z : Option (Feeding T R)). MatchOption z (NotDriven gives failures old source u.fault)
      (λ (f : Feeding T R). (f.handle.promise.0.value ≡ source) × ((begin : FeedEnd R) × (got_by begin ≡ []) × FailsOver old begin f.end u.fault))) (sym e.1)
      (subst (λ (z : DriveFault). NotDriven gives failures old source z) (sym e.0) n);
  back = subst (λ (z : Option (Feeding T R)). MatchOption z (IsUntouched old workers u ⊎ IsUnmet asks (length workers) old o p u)
      (λ (f : Feeding T R). (begin : FeedEnd R) × (got_by begin ≡ []) × ComesBack asks (length workers) old begin o u.standby f.end p)) (sym e.1) (inl same);
}
