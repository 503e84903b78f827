-- What a standby in service hands back: promoted, or for a fault.
use Rattle.std.specs.Prelude.{◌≡◌, ◌≤◌, ◌⊎◌, ℕ, ◌+◌, Option, Some, None, Result, IfSome, MatchOption, MatchResult, List, [], ◌∷◌, ◌++◌, length, drop, map, count_by}
use Rattle.std.specs.declared.thread.PromisedHandle.{PromisedHandle}
use Rattle.nn_types.specs.declared.report.Report.{Report}
use Rattle.nn_feed.specs.Ends.{GivesWhatIsFed, got_by}
use Rattle.nn_feed.specs.declared.ends.FeedEnd.{FeedEnd}
use Rattle.nn_lane.specs.Ends.{Reporter, LaneEnd, lane_of, known_count, StartsWith}
use Rattle.nn_model.specs.History.{is_flush}
use Rattle.nn_segment.specs.LogEnd.{given_in}
use Rattle.nn_segment.specs.Segment.{Segment}
use Rattle.nn_segment.specs.Source.{Answer, Asked, given, end}
use Rattle.nn_shadow.specs.Contents.{KeepsSettings}
use Rattle.nn_lane_standby.specs.LaneSteps.{SameEnds, AllClosed}
use Rattle.nn_lane_standby.specs.Promotion.{IsPromoted}
use Rattle.nn_lane_standby.specs.Shadows.{shadow_with_past}
use Rattle.nn_lane_standby.specs.Tailing.{has_begun, Standby, standby_with_past, Carries, EndsInEnd}
use Rattle.nn_lane_standby.specs.declared.standby.Active.{Active}
use Rattle.nn_drive.specs.Driven.{HasReported, ArePromised, Went, NotDriven}
use Rattle.nn_drive.specs.Feeding.{FailsOver}
use Rattle.nn_drive.specs.Serving.{Shown, forgotten, WasShown, WasRequested, IsDry, IsPromotedFrom}
use Rattle.nn_drive.specs.declared.driving.DriveFault.{DriveFault}
use Rattle.nn_drive.specs.declared.driving.DriveFault.TheVariants as drive
use Rattle.nn_drive.specs.declared.driving.WorkerPromise.{WorkerPromise}
use Rattle.nn_drive.specs.declared.driving.WorkerExit.{WorkerExit}
use Rattle.nn_drive.specs.declared.operator.Request.{Request}
use Rattle.nn_drive.specs.declared.serving.Feeding.{Feeding}
use Rattle.nn_drive.specs.declared.serving.Left.{Left}
use Rattle.nn_drive.specs.declared.serving.Running.{Running}
use Rattle.nn_drive.specs.declared.serving.Served.{Served}
use Rattle.nn_drive.specs.declared.serving.Unserved.{Unserved}

-- ---- Workers that may still run.

-- the end of the lane of a worker that may still run, and the handle of its thread
abbrev pub end_of : {S : Type 0} → Running S → LaneEnd
end_of r = r.end

abbrev pub handle_of : {S : Type 0} → Running S → PromisedHandle (WorkerExit S) (WorkerPromise S)
handle_of r = r.handle

-- each end with its handle, in order
abbrev pub ArePaired : {S : Type 0} → List LaneEnd → List (PromisedHandle (WorkerExit S) (WorkerPromise S)) → List (Running S) → Type 0
ArePaired ends handles paired = (map end_of paired ≡ ends) × (map handle_of paired ≡ handles)

-- worker i runs on the thread at handle i, also after the promotion
abbrev pub StillRun : {S : Type 0} → List (S × Reporter) → List (Running S) → Type 0
StillRun workers running = (length running ≡ length workers) × ArePromised workers (map handle_of running)

-- The worker's thread has ended. Its reporter was answered Ok to what its source gave, in order, up to None or a report that was refused. The close
-- counted all of that; what was taken is its prefix, and all of it where the lane is dry
pub record HasLeft {S : Type 0} (gives : S → Option Report → S → Type 0) (r : Running S) (l : Left S) : Type 0 where
  pub worked : WorkerExit S
  pub reported : HasReported gives r.handle.promise.0.value r.handle.promise.1.value worked
  pub prefix : StartsWith worked.reporter.sent r.end.got
  pub counts : known_count r.end ≡ length worked.reporter.sent
  pub all : IsDry r.end → r.end.got ≡ worked.reporter.sent
  pub source : l.source ≡ worked.source
  pub outcome : l.outcome ≡ worked.outcome
  pub accepted : l.met.accepted ≡ length worked.reporter.sent
  pub taken : l.met.taken ≡ length r.end.got

-- ---- Rotations.

-- The standby went on as if it had kept what its operator requested to be forgotten. This holds of what the operator was shown, and of what
-- the source gave
pub record Rotates {T : Type 0} (gives : T → Answer → T → Type 0) (failures : T → ℕ) (s : T) (old : Standby) (t : T) (new : Standby) (Was : List Shown → List Answer → Type 0) : Type 0 where
  pub shown : List Shown
  pub went : Went gives failures s old t (standby_with_past (forgotten shown) new)
  pub was : Was shown went.0

-- ---- A promotion.

-- A run over the end of a feed promoted its standby, at a request of its operator. Each lane is closed
pub record PromotesOver {O R : Type 0} (asks : O → Standby → ℕ → Request → O → Type 0) (workers : ℕ) (old : Standby) (begin : FeedEnd R) (o : O) (active : Active) (new : Standby) (after : FeedEnd R) (p : O) : Type 0 where
  pub answers : List Answer
  pub asked : Asked GivesWhatIsFed begin answers after
  pub ended : EndsInEnd answers
  pub last : active.last ≡ new.shadow.last
  pub flushed : active.flushed ≡ count_by is_flush new.shadow.history
  pub settings : KeepsSettings old.shadow new.shadow
  pub shown : List Shown
  pub requested : WasRequested asks workers old o shown answers p (λ last since. IsPromoted last since (standby_with_past (forgotten shown) new))
  pub lanes : map lane_of new.ends ≡ map lane_of old.ends
  pub closed : AllClosed new.ends
  pub promoted : IsPromoted old answers (standby_with_past (forgotten shown) new)

-- The standby was promoted, at a request of its operator: it is at the whole log of its source, which gave segments and then End, and was
-- not asked again. Each lane is closed, and all that it accepted was processed. What was taken of its history before, what its operator
-- requested to be forgotten and what it has are one history, lawful and whole. Of the log the operator was shown prefixes, in turn, and the
-- promoted standby goes on from the last that it was asked about. Its workers may still run
pub record IsServed {O T S : Type 0} (asks : O → Standby → ℕ → Request → O → Type 0) (gives : T → Answer → T → Type 0) (failures : T → ℕ) (old : Standby) (source : T) (workers : List (S × Reporter)) (o p : O) (r : Served S) : Type 0 where
  pub answers : List Answer
  pub after : T
  pub asked : Asked gives source answers after
  pub not_fewer : failures source ≤ failures after
  pub segments : List Segment
  pub are : answers ≡ map given segments ++ end ∷ []
  pub last : r.active.last ≡ r.shadow.last
  pub flushed : r.active.flushed ≡ count_by is_flush r.shadow.history
  pub settings : KeepsSettings old.shadow r.shadow
  pub shown : List Shown
  pub fed : List Answer
  pub same : given_in answers ≡ given_in fed
  pub requested : WasRequested asks (length workers) old o shown fed p (λ last since. IsPromotedFrom last since (map end_of r.workers.items) (shadow_with_past (forgotten shown) r.shadow))
  pub run : StillRun workers r.workers.items
  pub promoted : IsPromotedFrom old answers (map end_of r.workers.items) (shadow_with_past (forgotten shown) r.shadow)

-- ---- A fault.

-- a standby that went on with these answers, over the same lanes
pub record GoesWith (old : Standby) (answers : List Answer) (new : Standby) : Type 0 where
  pub carries : Carries old answers new
  pub lanes : map lane_of new.ends ≡ map lane_of old.ends
  pub settings : KeepsSettings old.shadow new.shadow

-- Its lanes are as open as they were, its flush has begun only if it had before, and its operator requested no promotion. Or it requested one,
-- and they are closed
abbrev pub OpenOrRequested : {O : Type 0} → (O → Standby → ℕ → Request → O → Type 0) → ℕ → Standby → O → List Shown → List Answer → O → Standby → Type 0
OpenOrRequested asks workers old o shown answers p new =
    (SameEnds old.ends new.ends × (has_begun new ≡ has_begun old) × WasShown asks workers old o shown answers new p)
    ⊎ (AllClosed new.ends × WasRequested asks workers old o shown answers p (λ last since. Carries last since (standby_with_past (forgotten shown) new)))

-- The standby comes back with all that was got of the feed. It was not promoted
pub record ComesBack {O R : Type 0} (asks : O → Standby → ℕ → Request → O → Type 0) (workers : ℕ) (old : Standby) (begin : FeedEnd R) (o : O) (new : Standby) (after : FeedEnd R) (p : O) : Type 0 where
  pub answers : List Answer
  pub asked : Asked GivesWhatIsFed begin answers after
  pub shown : List Shown
  pub goes : GoesWith old answers (standby_with_past (forgotten shown) new)
  pub intake : OpenOrRequested asks workers old o shown answers p new
  pub not_promoted : new.active ≡ old.active

-- The threads at the handles are those of the first workers, in order. The workers behind those come back, except for the first one where
-- its thread was refused
abbrev pub AreStarted : {S : Type 0} → List (S × Reporter) → List (PromisedHandle (WorkerExit S) (WorkerPromise S)) → List (S × Reporter) → Type 0
AreStarted workers handles back = ArePromised workers handles × ((refused : ℕ) × (refused ≤ 1) × (back ≡ drop (length handles + refused) workers))

-- no thread was started: the standby is as it was, and all workers come back
abbrev pub IsUntouched : {T S R : Type 0} → Standby → List (S × Reporter) → Unserved T S R → Type 0
IsUntouched old workers u = (u.standby ≡ old) × (u.workers.items ≡ []) × (u.unstarted.items ≡ workers)

-- The standby was promoted, and then its feed did not meet, although both its ends were there: no channel does so, and no contract
-- excludes it
pub record IsUnmet {O T S R : Type 0} (asks : O → Standby → ℕ → Request → O → Type 0) (workers : ℕ) (old : Standby) (o p : O) (u : Unserved T S R) : Type 0 where
  pub fault : u.fault ≡ drive.OutOfMemory
  pub answers : List Answer
  pub shown : List Shown
  pub requested : WasRequested asks workers old o shown answers p (λ last since. IsPromoted last since (standby_with_past (forgotten shown) u.standby))
  pub ended : EndsInEnd answers
  pub promoted : IsPromoted old answers (standby_with_past (forgotten shown) u.standby)
  pub lanes : map lane_of u.standby.ends ≡ map lane_of old.ends
  pub closed : AllClosed u.standby.ends

module _ {T S R : Type 0} (gives : T → Answer → T → Type 0) (failures : T → ℕ) (old : Standby) (source : T) where
  -- why it was not promoted; where the source's thread was not joined, its end of the feed tells what was got of it by then
  abbrev pub IsStopped : Unserved T S R → Type 0
  IsStopped u = MatchOption u.feeding (NotDriven gives failures old source u.fault)
      (λ (f : Feeding T R). (f.handle.promise.0.value ≡ source) × ((begin : FeedEnd R) × (got_by begin ≡ []) × FailsOver old begin f.end u.fault))

-- why it was not promoted, and what comes back
pub record IsUnserved {O T S R : Type 0} (asks : O → Standby → ℕ → Request → O → Type 0) (gives : T → Answer → T → Type 0) (failures : T → ℕ) (old : Standby) (source : T) (workers : List (S × Reporter)) (o p : O) (u : Unserved T S R) : Type 0 where
  pub started : AreStarted workers u.workers.items u.unstarted.items
  -- a source that comes back was not asked
  pub source_back : IfSome u.source (λ s. s ≡ source)
  pub why : IsStopped gives failures old source u
  pub back : MatchOption u.feeding (IsUntouched old workers u ⊎ IsUnmet asks (length workers) old o p u)
      (λ (f : Feeding T R). (begin : FeedEnd R) × (got_by begin ≡ []) × ComesBack asks (length workers) old begin o u.standby f.end p)

-- it was refused before any thread was started, and the source and the workers come back as they were
abbrev pub IsRefusedAtStart : {A T S R : Type 0} → Standby → T → List (S × Reporter) → DriveFault → Result A (Unserved T S R) → Type 0
IsRefusedAtStart {A} {T} {S} {R} old source workers fault result =
    MatchResult result (λ _. ⊥) (λ u. (u.fault ≡ fault) × (u.feeding ≡ None) × (u.source ≡ Some source) × IsUntouched old workers u)
