-- What a standby in service hands back, and for each clause an example that breaks it.
use Rattle.std.specs.Prelude.{◌≡◌, ℕ, ◌<◌, true, false, Option, Some, None, Result, Ok, Err, IfSome, MatchOption, MatchResult, List, [], ◌∷◌, ◌++◌, length, map, count_by, refl}
use Rattle.std.specs.Iterator.{YieldsThen}
use Rattle.std.specs.List.{list_all}
use Rattle.std.proofs.Common.{arith, sym, ap, subst, ◌∙◌, inl, inr, append-nil, length-append, true≢false}
use Rattle.nn_types.specs.declared.report.Report.{Report}
use Rattle.nn_lane.specs.Ends.{LaneId, Reporter, LaneEnd, lane_of}
use Rattle.nn_lane.specs.declared.fault.Refusal.{Refusal}
use Rattle.nn_model.specs.History.{is_flush}
use Rattle.nn_segment.specs.Segment.{Segment}
use Rattle.nn_segment.specs.Source.{Answer, Asked, GivesNext, given, end}
use Rattle.nn_feed.specs.declared.ends.FeedEnd.{FeedEnd}
use Rattle.nn_lane_standby.specs.LaneSteps.{SameEnds, is_closed_lane}
use Rattle.nn_lane_standby.specs.Tailing.{Standby, has_begun}
use Rattle.nn_lane_standby.specs.declared.standby.Active.{Active}
use Rattle.nn_lane_standby.proofs.LaneSteps.{ends_same}
use Rattle.nn_lane_standby.proofs.Carried.{carries_same}
use Rattle.nn_lane_standby.proofs.Shadowing.{settings_same}
use Rattle.nn_drive.specs.LaneRows.{reporting, taking}
use Rattle.nn_drive.specs.ReportRows.{message}
use Rattle.nn_drive.specs.Driven.{HasReported, IsPromised, Goes}
use Rattle.nn_drive.specs.Reports.{sent_after, message_of_report, TakesNoMore}
use Rattle.nn_drive.specs.Serving.{Shown, WasRequested}
use Rattle.nn_drive.specs.Served.{ArePaired, StillRun, HasLeft, Rotates, PromotesOver, IsServed, GoesWith, OpenOrRequested, ComesBack, IsStopped, IsUnserved}
use Rattle.nn_drive.specs.ServeLaws.{WasAllTaken}
use Rattle.nn_drive.specs.declared.driving.DriveFault.TheVariants as drive
use Rattle.nn_drive.specs.declared.driving.WorkerExit.{WorkerExit}
use Rattle.nn_drive.specs.declared.operator.Request.{Request}
use Rattle.nn_drive.specs.declared.operator.Request.TheVariants.{GoOn, Promote}
use Rattle.nn_drive.specs.declared.serving.Left.{Left}
use Rattle.nn_drive.specs.declared.serving.Running.{Running}
use Rattle.nn_drive.specs.declared.serving.Served.{Served}
use Rattle.nn_drive.specs.declared.serving.Unserved.{Unserved}

-- an operator that requests a promotion at once, and one that never does
abbrev at_once : ℕ → Standby → ℕ → Request → ℕ → Type 0
at_once o x n w p = (w ≡ Promote) × (p ≡ o)

abbrev never : ℕ → Standby → ℕ → Request → ℕ → Type 0
never o x n w p = w ≡ GoOn

no_request : Promote ≡ GoOn → ⊥
no_request e = cc

went_nowhere : (x : Standby) → Goes x [] x
went_nowhere x = record { carries = carries_same x; same_ends = ends_same x.ends; begun = refl; active = refl; settings = settings_same x.shadow }

-- ---- A request.

-- it was shown the standby that was handed in, and nothing came since
requested_at_once : (x : Standby) → WasRequested at_once 1 x 0 [] [] 0 (λ last since. (last ≡ x) × (since ≡ []))
requested_at_once x = record {
  at = x;
  before = [];
  since = [];
  are = refl;
  lanes = ends_same x.ends;
  begun = refl;
  requests = (0, 1, omega arith, refl, record { goes_on = refl; in_turn = tt; since = []; are = refl; goes = went_nowhere x }, (refl, refl));
  follows = (refl, refl);
}

not_requested_by_one_that_never_does : (x : Standby) (o p : ℕ) (shown : List Shown) (answers : List Answer) (F : Standby → List Answer → Type 0) → WasRequested never 1 x o shown answers p F → ⊥
not_requested_by_one_that_never_does x o p shown answers F h = no_request h.requests.5

-- nothing came since that was not answered
not_with_an_answer_more : (x : Standby) (o p : ℕ) (shown : List Shown) → WasRequested at_once 1 x o shown [] p (λ last since. since ≡ end ∷ []) → ⊥
not_with_an_answer_more x o p shown h = let n = ap length h.are in let m = ap length h.follows in omega (arith, n, m, length-append h.before h.since)

not_where_nothing_follows : (x : Standby) (o p : ℕ) (shown : List Shown) (answers : List Answer) → WasRequested at_once 1 x o shown answers p (λ last since. ⊥) → ⊥
not_where_nothing_follows x o p shown answers h = h.follows

-- ---- Workers that may still run.

one_paired : (r : Running ℕ) → ArePaired (r.end ∷ []) (r.handle ∷ []) (r ∷ [])
one_paired r = (refl, refl)

not_without_its_handle : (r : Running ℕ) → ArePaired (r.end ∷ []) [] (r ∷ []) → ⊥
not_without_its_handle r h = let n : 1 ≡ 0 = ap length h.1 in omega (arith, n)

not_without_its_end : (r : Running ℕ) → ArePaired [] (r.handle ∷ []) (r ∷ []) → ⊥
not_without_its_end r h = let n : 1 ≡ 0 = ap length h.0 in omega (arith, n)

not_one_lost : (l : LaneId) → StillRun {S = ℕ} ((7, reporting l 1) ∷ []) [] → ⊥
not_one_lost l h = let n : 0 ≡ 1 = h.0 in omega (arith, n)

not_on_the_thread_of_another : (l : LaneId) (r : Running ℕ) → r.handle.promise.0.value ≡ 8 → StillRun ((7, reporting l 1) ∷ []) (r ∷ []) → ⊥
not_on_the_thread_of_another l r of_8 h = let e : 8 ≡ 7 = sym of_8 ∙ (h.1.1 0 (7, reporting l 1) r.handle (omega arith)).0 in omega (arith, e)

-- ---- What a worker left, whose source gave nothing.

abbrev gives_none : ℕ → Option Report → ℕ → Type 0
gives_none s r t = (r ≡ None) × (t ≡ s)

abbrev leaves : ℕ → ℕ → ℕ → ℕ → Left ℕ
leaves source count accepted taken = record { source = source; outcome = Ok count; met = record { accepted = accepted; taken = taken } }

abbrev idle : Reporter → WorkerExit ℕ
idle r = record { source = 7; reporter = r; outcome = Ok 0 }

-- what is known of a worker of such a source
record Idled (r : Reporter) (w : WorkerExit ℕ) : Type 0 where
  sent : w.reporter.sent ≡ r.sent
  source : w.source ≡ 7
  outcome : w.outcome ≡ Ok 0

idled : (r : Reporter) (w : WorkerExit ℕ) → HasReported gives_none 7 r w → Idled r w
idled r w h = by h.1.0 h.1.1 w.outcome refl h.1.2 h.1.3 h.1.4
  where
    by : (reports : List Report) (last : Option Report) (outcome : Result ℕ Refusal) → w.outcome ≡ outcome → YieldsThen gives_none 7 reports last w.source → w.reporter.sent ≡ sent_after r.lane.node r.sent reports
        → MatchResult outcome (λ n. (last ≡ None) × (n ≡ length reports)) (λ e. MatchOption last ⊥ (λ x. TakesNoMore w.reporter (message_of_report r.lane.node w.reporter.sent x) e))
        → Idled r w
    by [] last (Ok n) is y sent told = record { sent = sent; source = y.2.1 ∙ sym y.1; outcome = is ∙ ap Ok told.1 }
    by [] None (Err e) is y sent told = absurd told
    by [] (Some x) (Err e) is y sent told = let none : Some x ≡ None = y.2.0 in absurd (cc)
    by (x ∷ reports) last outcome is y sent told = let none : Some x ≡ None = y.1.1.0 in absurd (cc)

module _ (l : LaneId) (r : Running ℕ) (its : IsPromised (7, reporting l 1) r.handle) where
  with_none_sent : HasReported gives_none r.handle.promise.0.value r.handle.promise.1.value (idle (reporting l 1))
  with_none_sent =
      subst (λ s. HasReported gives_none s r.handle.promise.1.value (idle (reporting l 1))) (sym its.0)
      (subst (λ q. HasReported gives_none 7 q (idle (reporting l 1))) (sym its.1)
      (refl, ([], None, (7, refl, (refl, refl)), refl, (refl, refl), λ few. omega arith)))

  it_was_idle : (w : WorkerExit ℕ) → HasReported gives_none r.handle.promise.0.value r.handle.promise.1.value w → Idled (reporting l 1) w
  it_was_idle w h =
      idled (reporting l 1) w (subst (λ q. HasReported gives_none 7 q w) its.1 (subst (λ s. HasReported gives_none s r.handle.promise.1.value w) its.0 h))

  left : r.end ≡ record (taking l 1) { closed = true } → HasLeft gives_none r (leaves 7 0 0 0)
  left at = record {
    worked = idle (reporting l 1);
    reported = with_none_sent;
    prefix = ([], ap (λ (e : LaneEnd). e.got) (sym at) ∙ sym (append-nil r.end.got));
    counts = ap (λ (e : LaneEnd). e.seen) at;
    all = λ dry. ap (λ (e : LaneEnd). e.got) at;
    source = refl;
    outcome = refl;
    accepted = refl;
    taken = ap (λ (e : LaneEnd). length e.got) (sym at);
  }

  not_left_with_one_taken_that_was_not_sent : r.end.got ≡ message 1 1 ∷ [] → (x : Left ℕ) → HasLeft gives_none r x → ⊥
  not_left_with_one_taken_that_was_not_sent one x h =
      let n = ap length (h.prefix.1) in
      let m = ap length one in
      let none = ap length (it_was_idle h.worked h.reported).sent in
      omega (arith, n, m, none, length-append r.end.got h.prefix.0)

  not_left_with_one_counted : r.end.seen ≡ 1 → (x : Left ℕ) → HasLeft gives_none r x → ⊥
  not_left_with_one_counted one x h = let none = ap length (it_was_idle h.worked h.reported).sent in omega (arith, one, h.counts, none)

  not_left_with_another_source : HasLeft gives_none r (leaves 8 0 0 0) → ⊥
  not_left_with_another_source h = let e : 8 ≡ 7 = h.source ∙ (it_was_idle h.worked h.reported).source in omega (arith, e)

  not_left_with_another_count : HasLeft gives_none r (leaves 7 1 0 0) → ⊥
  not_left_with_another_count h = let e : ◌≡◌ {A = Result ℕ Refusal} (Ok 1) (Ok 0) = h.outcome ∙ (it_was_idle h.worked h.reported).outcome in cc

  not_left_with_one_accepted : HasLeft gives_none r (leaves 7 0 1 0) → ⊥
  not_left_with_one_accepted h = let none = ap length (it_was_idle h.worked h.reported).sent in omega (arith, h.accepted, none)

  not_left_with_one_more_taken : r.end.got ≡ [] → HasLeft gives_none r (leaves 7 0 0 1) → ⊥
  not_left_with_one_more_taken none h = let n = ap length none in omega (arith, h.taken, n)

  -- of a lane that the standby closed before its promotion, all was taken
  all_taken : r.end ≡ record (taking l 1) { closed = true } → WasAllTaken gives_none (7, reporting l 1) r (leaves 7 0 0 0)
  all_taken at = record {
    worked = idle (reporting l 1);
    reported = (refl, ([], None, (7, refl, (refl, refl)), refl, (refl, refl), λ few. omega arith));
    taken = ap (λ (e : LaneEnd). e.got) at;
    source = refl;
    outcome = refl;
    accepted = refl;
  }

  not_all_with_one_that_was_not_sent : r.end.got ≡ message 1 1 ∷ [] → (x : Left ℕ) → WasAllTaken gives_none (7, reporting l 1) r x → ⊥
  not_all_with_one_that_was_not_sent one x h =
      let n = ap length (sym one ∙ h.taken ∙ (idled (reporting l 1) h.worked h.reported).sent) in omega (arith, n)

  not_all_with_another_source : WasAllTaken gives_none (7, reporting l 1) r (leaves 8 0 0 0) → ⊥
  not_all_with_another_source h = let e : 8 ≡ 7 = h.source ∙ (idled (reporting l 1) h.worked h.reported).source in omega (arith, e)

  not_all_with_another_count : WasAllTaken gives_none (7, reporting l 1) r (leaves 7 1 0 0) → ⊥
  not_all_with_another_count h = let e : ◌≡◌ {A = Result ℕ Refusal} (Ok 1) (Ok 0) = h.outcome ∙ (idled (reporting l 1) h.worked h.reported).outcome in cc

  not_all_with_one_accepted : WasAllTaken gives_none (7, reporting l 1) r (leaves 7 0 1 0) → ⊥
  not_all_with_one_accepted h = let none = ap length (idled (reporting l 1) h.worked h.reported).sent in omega (arith, h.accepted, none)

-- ---- Rotations.

no_rotation : (x : Standby) → Rotates GivesNext (λ s. 0) [] x [] x (λ shown answers. (shown ≡ []) × (answers ≡ []))
no_rotation x = record { shown = []; went = ([], refl, went_nowhere x, omega arith); was = (refl, refl) }

not_with_fewer_failures : (x : Standby) (s t : ℕ) → t < s → Rotates (λ s a t. t ≡ s) (λ n. n) s x t x (λ shown answers. Unit {0}) → ⊥
not_with_fewer_failures x s t few h = omega (arith, few, h.went.3)

not_shown_what_it_was_not : (x : Standby) → Rotates GivesNext (λ s. 0) [] x [] x (λ shown answers. ⊥) → ⊥
not_shown_what_it_was_not x h = h.was

-- ---- A promotion.

abbrev promotes_over : Standby → FeedEnd ℕ → Active → Standby → FeedEnd ℕ → Type 0
promotes_over old begin active new after = PromotesOver at_once 1 old begin 0 active new after 0

not_at_another_txid : (old new : Standby) (begin after : FeedEnd ℕ) → new.shadow.last ≡ 3 → promotes_over old begin (record { last = 4; flushed = 0 }) new after → ⊥
not_at_another_txid old new begin after at h = omega (arith, at, h.last)

not_with_another_count_of_flushed : (old new : Standby) (begin after : FeedEnd ℕ) → new.shadow.history ≡ [] → promotes_over old begin (record { last = 0; flushed = 1 }) new after → ⊥
not_with_another_count_of_flushed old new begin after none h = let e : 1 ≡ 0 = h.flushed ∙ ap (count_by is_flush) none in omega (arith, e)

not_over_an_open_lane : (old new : Standby) (begin after : FeedEnd ℕ) (a : Active) (l : LaneId) → new.ends ≡ taking l 1 ∷ [] → promotes_over old begin a new after → ⊥
not_over_an_open_lane old new begin after a l at h = let e : true ≡ false = sym h.closed ∙ ap (list_all is_closed_lane) at in true≢false e

not_over_other_lanes : (old new : Standby) (begin after : FeedEnd ℕ) (a : Active) → new.ends ≡ [] → (l : LaneId) → old.ends ≡ taking l 1 ∷ [] → promotes_over old begin a new after → ⊥
not_over_other_lanes old new begin after a none l one h =
    let e : 0 ≡ 1 = ap (λ (es : List LaneEnd). length (map lane_of es)) (sym none) ∙ ap length h.lanes ∙ ap (λ (es : List LaneEnd). length (map lane_of es)) one in omega (arith, e)

abbrev served : Standby → ℕ → Served ℕ → Type 0
served old failed r = IsServed {T = ℕ} at_once (λ s a t. (t ≡ failed)) (λ n. n) old 1 [] 0 0 r

not_served_at_another_txid : (old : Standby) (failed : ℕ) (r : Served ℕ) → r.active.last ≡ 4 → r.shadow.last ≡ 3 → served old failed r → ⊥
not_served_at_another_txid old failed r four three h = omega (arith, four, three, h.last)

not_served_with_other_settings : (old : Standby) (failed : ℕ) (r : Served ℕ) → old.shadow.permille ≡ 999 → r.shadow.permille ≡ 0 → served old failed r → ⊥
not_served_with_other_settings old failed r was is h = omega (arith, was, is, h.settings.permille)

not_served_with_a_worker_more : (old : Standby) (failed : ℕ) (r : Served ℕ) → length r.workers.items ≡ 1 → served old failed r → ⊥
not_served_with_a_worker_more old failed r one h = let none : length r.workers.items ≡ 0 = h.run.0 in omega (arith, one, none)

-- its source gave an End at least
not_served_by_a_source_that_was_not_asked : (old : Standby) (r : Served ℕ) (o p : ℕ) → IsServed {T = ℕ} at_once (λ s a t. ⊥) (λ n. n) old 1 [] o p r → ⊥
not_served_by_a_source_that_was_not_asked old r o p h = asked h.answers h.segments h.are h.asked
  where
    asked : (answers : List Answer) (segments : List Segment) → answers ≡ map given segments ++ end ∷ [] → Asked (λ s a t. ⊥) 1 answers h.after → ⊥
    asked [] segments are a = let n = ap length are in omega (arith, n, length-append (map given segments) (end ∷ []))
    asked (x ∷ answers) segments are a = a.1

not_served_unrequested : (old : Standby) (r : Served ℕ) (o p : ℕ) → IsServed {T = List Segment} never GivesNext (λ s. 0) old [] [] o p r → ⊥
not_served_unrequested old r o p h = no_request h.requested.requests.5

-- ---- A fault.

not_over_fewer_lanes : (old new : Standby) (answers : List Answer) (l : LaneId) → old.ends ≡ taking l 1 ∷ [] → new.ends ≡ [] → GoesWith old answers new → ⊥
not_over_fewer_lanes old new answers l one none h =
    let e : 0 ≡ 1 = ap (λ (es : List LaneEnd). length (map lane_of es)) (sym none) ∙ ap length h.lanes ∙ ap (λ (es : List LaneEnd). length (map lane_of es)) one in omega (arith, e)

nothing_requested : (x : Standby) → OpenOrRequested never 1 x 0 [] [] 0 x
nothing_requested x = inl (ends_same x.ends, refl, record { goes_on = refl; in_turn = tt; since = []; are = refl; goes = went_nowhere x })

-- lanes are closed at a request alone
not_closed_unrequested : (old new : Standby) (shown : List Shown) (answers : List Answer) (l : LaneId) → old.ends ≡ taking l 1 ∷ [] → new.ends ≡ record (taking l 1) { closed = true } ∷ [] → OpenOrRequested never 1 old 0 shown answers 0 new → ⊥
not_closed_unrequested old new shown answers l open_lane closed_lane (inl h) =
    let same = subst (λ es. SameEnds es (record (taking l 1) { closed = true } ∷ [])) open_lane (subst (SameEnds old.ends) closed_lane h.0) in
    true≢false same.0.1
not_closed_unrequested old new shown answers l open_lane closed_lane (inr h) = no_request h.1.requests.5

not_promoted_meanwhile : (old new : Standby) (begin after : FeedEnd ℕ) (o p : ℕ) → old.active ≡ false → new.active ≡ true → ComesBack never 1 old begin o new after p → ⊥
not_promoted_meanwhile old new begin after o p was is h = true≢false (sym is ∙ h.not_promoted ∙ was)

-- a standby whose flush had not begun is not refused as one that is active
not_refused_as_active : (old : Standby) (u : Unserved ℕ ℕ ℕ) → has_begun old ≡ false → IsStopped (λ s a t. t ≡ s) (λ n. n) old 7 (record u { fault = drive.AlreadyActive; feeding = None }) → ⊥
not_refused_as_active old u fresh h = true≢false (sym h.1.2.0 ∙ fresh)

-- the source that comes back is the one that was handed in
not_with_another_source : (old : Standby) (workers : List (ℕ × Reporter)) (o p : ℕ) (u : Unserved ℕ ℕ ℕ) → u.source ≡ Some 8 → IsUnserved never (λ s a t. t ≡ s) (λ n. n) old 7 workers o p u → ⊥
not_with_another_source old workers o p u other h = let e : 8 ≡ 7 = subst (λ s. IfSome s (λ x. x ≡ 7)) other h.source_back in omega (arith, e)
