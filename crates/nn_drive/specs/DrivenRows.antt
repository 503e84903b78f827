-- What a DataNode's thread reported, what a drive came to, and for each clause an example that breaks it.
use Rattle.std.specs.Prelude.{◌≡◌, ℕ, zero, suc, ◌+◌, ◌<◌, ◌≤◌, true, false, List, [], ◌∷◌, ◌++◌, length, Option, Some, None, Result, Ok, Err, MatchOption, slice_index_or, refl}
use Rattle.std.specs.Iterator.{YieldsThen}
use Rattle.std.proofs.Common.{arith, sym, ap, subst, ◌∙◌, inl, inr, length-append, true≢false}
use Rattle.nn_types.specs.declared.report.Report.{Report}
use Rattle.nn_types.specs.declared.report.Message.{Message}
use Rattle.nn_types.specs.declared.edit.Edit.TheVariants.{StartSegment, EndSegment}
use Rattle.nn_types.specs.declared.profile.Profile.TheVariants.{One}
use Rattle.nn_types.specs.declared.event.Event.TheVariants.{Applied}
use Rattle.nn_types.specs.declared.event.Cause.TheVariants.{Flush}
use Rattle.nn_model.specs.Namespace.{Namespace, root_alone}
use Rattle.nn_model.specs.History.{History, processed}
use Rattle.nn_model.specs.WellFormed.{Includes}
use Rattle.nn_lane.specs.Ends.{LaneId, Reporter, LaneEnd}
use Rattle.nn_lane.specs.declared.fault.Refusal.{Refusal}
use Rattle.nn_lane.specs.declared.fault.Refusal.TheVariants.{Closed, Exhausted, Full}
use Rattle.nn_segment.specs.Segment.{Segment}
use Rattle.nn_segment.specs.Source.{Answer, GivesNext, given, end}
use Rattle.nn_segment.specs.LogEnd.{end_of_log, disorder}
use Rattle.nn_shadow.specs.Contents.{Shadow}
use Rattle.nn_lane_standby.specs.Tailing.{Standby, standby_with_past, StandsAt}
use Rattle.nn_lane_standby.specs.Shadows.{shadow_with_past}
use Rattle.nn_lane_standby.specs.PromotedRows.{new, promoted_shadow, is_promoted, taking as lane_with, marks as two_marks}
use Rattle.nn_lane_standby.proofs.PromotedRows.{promoted_from_new}
use Rattle.nn_lane_standby.specs.declared.standby.Active.{Active}
use Rattle.nn_drive.specs.declared.driving.WorkerExit.{WorkerExit}
use Rattle.nn_drive.specs.LaneRows.{reporting, taking}
use Rattle.nn_drive.specs.ReportRows.{report, message}
use Rattle.nn_drive.specs.Reports.{message_of_report, Reported, SendsOne, LooksWhileFull, TakesNoMore, sent_after}
use Rattle.nn_drive.specs.Driven.{IsLane, HaveReporters, IsTold, IsToldOnly, IsLaneTaken, IsPromotedAtEnd, IsDriven}

-- a source of reports in memory
abbrev gives_next : List Report → Option Report → List Report → Type 0
gives_next [] r left = (r ≡ None) × (left ≡ [])
gives_next (x ∷ reports) r left = (r ≡ Some x) × (left ≡ reports)

-- a reporter of DataNode 2 that sent these
abbrev sent : LaneId → List Message → Reporter
sent l messages = record (reporting l 2) { sent = messages }

-- ---- All reports of a source.

one_sent : (l : LaneId) → Reported gives_next (report 2 ∷ []) (reporting l 2) [] (sent l (message 2 1 ∷ [])) (Ok 1)
one_sent l = (report 2 ∷ [], None, ([], ([], (refl, refl), refl), (refl, refl)), refl, (refl, refl), λ few. omega arith)

none_sent : (l : LaneId) → Reported gives_next [] (reporting l 2) [] (reporting l 2) (Ok 0)
none_sent l = ([], None, ([], refl, (refl, refl)), refl, (refl, refl), λ few. omega arith)

-- not with another count: what it had sent before is not counted
not_counted_from_before : (l : LaneId) → Reported gives_next [] (sent l (message 2 1 ∷ [])) [] (sent l (message 2 1 ∷ [])) (Ok 1) → ⊥
not_counted_from_before l h = none h.0 h.1 h.2 h.4.1
  where
    none : (reports : List Report) (o : Option Report) → YieldsThen gives_next [] reports o [] → 1 ≡ length reports → ⊥
    none [] o y e = omega (arith, e)
    none (x ∷ reports) o y e = let e : Some x ≡ None = y.1.1.0 in cc

-- the second was refused, since the lane was closed
one_refused : (l : LaneId) → Reported gives_next (report 2 ∷ report 2 ∷ []) (reporting l 2) [] (record (sent l (message 2 1 ∷ [])) { told = true }) (Err (Closed (message 2 2) 1))
one_refused l = (report 2 ∷ [], Some (report 2), (report 2 ∷ [], (report 2 ∷ [], (refl, refl), refl), (refl, refl)), refl, (refl, refl, refl), λ few. omega arith)

-- a refusal is of a report that the source gave
not_refused_unasked : (l : LaneId) (r : Reporter) (e : Refusal) → Reported gives_next [] (reporting l 2) [] r (Err e) → ⊥
not_refused_unasked l r e h = last h.0 h.1 h.2 h.4
  where
    last : (reports : List Report) (o : Option Report) → YieldsThen gives_next [] reports o [] → MatchOption o ⊥ (λ x. TakesNoMore r (message_of_report 2 r.sent x) e) → ⊥
    last [] None y n = n
    last [] (Some x) y n = let none = subst (λ (t : List Report). gives_next t (Some x) []) (sym y.1) y.2 in let e : Some x ≡ None = none.0 in cc
    last (x ∷ reports) o y n = let e : Some x ≡ None = y.1.1.0 in cc

-- a full lane is no reason: the reporter waits
not_refused_as_full : (r : Reporter) (m n : Message) (k : ℕ) → TakesNoMore r m (Full n k) → ⊥
not_refused_as_full r m n k h = h

not_another_comes_back : (l : LaneId) → TakesNoMore (record (reporting l 2) { told = true }) (message 2 1) (Closed (message 2 2) 0) → ⊥
not_another_comes_back l h = let e : 2 ≡ 1 = ap (λ (m : Message). m.number) h.0 in omega (arith, e)

not_closed_untold : (l : LaneId) → TakesNoMore (reporting l 2) (message 2 1) (Closed (message 2 1) 0) → ⊥
not_closed_untold l h = true≢false (sym h.2)

not_closed_with_another_count : (l : LaneId) → TakesNoMore (record (reporting l 2) { told = true }) (message 2 1) (Closed (message 2 1) 5) → ⊥
not_closed_with_another_count l h = let e : 5 ≡ 0 = h.1 in omega (arith, e)

not_exhausted_by_none : (l : LaneId) → TakesNoMore (reporting l 2) (message 2 1) (Exhausted (message 2 1)) → ⊥
not_exhausted_by_none l h = let e : 0 ≡ 4611686018427387904 = h.1 in omega (arith, e)

-- a report that was sent is the next message of its own lane
sends_one : (l : LaneId) → SendsOne (reporting l 2) (report 9) (sent l (message 2 1 ∷ [])) (Ok 1)
sends_one l = (refl, omega arith)

not_sent_as_another : (l : LaneId) → SendsOne (reporting l 2) (report 9) (sent l (message 9 1 ∷ [])) (Ok 1) → ⊥
not_sent_as_another l h = let e : 9 ≡ 2 = ap first_dn h.0 in omega (arith, e)
  where
    first_dn : List Message → ℕ
    first_dn [] = 0
    first_dn (m ∷ ms) = m.dn

not_dropped : (l : LaneId) → SendsOne (reporting l 2) (report 2) (reporting l 2) (Ok 1) → ⊥
not_dropped l h = let e : 0 ≡ 1 = ap length h.0 in omega (arith, e)

-- the lane was found full once, it looked for a close, and then there was a place
looked_once : (l : LaneId) → LooksWhileFull (reporting l 2) (record (reporting l 2) { loads = 2; checks = 1 })
looked_once l = omega arith

not_full_again_unlooked : (l : LaneId) → LooksWhileFull (reporting l 2) (record (reporting l 2) { loads = 2; checks = 0 }) → ⊥
not_full_again_unlooked l h = let e = h in omega (arith, e)

-- ---- What a lane took of a worker.

told_of_a_close : IsTold (Err (Closed (message 2 1) 0))
told_of_a_close = tt

not_told_at_its_end : IsTold (Ok 1) → ⊥
not_told_at_its_end h = h

-- of a lane that was closed before a report is refused, of an open one none is
not_told_of_an_open_lane : (l : LaneId) → IsToldOnly {S = ℕ} (record { source = 0; reporter = reporting l 1; outcome = Err (Closed (message 1 1) 0) }) (taking l 1) → ⊥
not_told_of_an_open_lane l h = true≢false (sym (h tt))

abbrev worked : LaneId → WorkerExit (List Report)
worked l = record { source = []; reporter = sent l (message 2 1 ∷ []); outcome = Ok 1 }

all_taken : (l : LaneId) → IsLaneTaken gives_next (report 2 ∷ []) (reporting l 2) (taking l 2) (message 2 1 ∷ [])
all_taken l = (worked l, (refl, one_sent l), refl, λ told. absurd told)

longer : (dn : ℕ) (before : List Message) (reports : List Report) → length before ≤ length (sent_after dn before reports)
longer dn before [] = omega arith
longer dn before (r ∷ reports) =
    let m = message_of_report dn before r in let more = longer dn (before ++ m ∷ []) reports in omega (arith, more, length-append before (m ∷ []))

-- what the source gave has to be there
not_untaken : (l : LaneId) → IsLaneTaken gives_next (report 1 ∷ []) (reporting l 1) (taking l 1) [] → ⊥
not_untaken l h = by_outcome h.0.source h.0.reporter h.0.outcome h.1.1 h.2 h.3
  where
    all_sent : (left : List Report) (reports : List Report) (o : Option Report) → YieldsThen gives_next (report 1 ∷ []) reports o left → o ≡ None → 0 ≡ length (sent_after 1 [] reports) → ⊥
    all_sent left [] o y none few = let some = subst (λ (t : List Report). gives_next t o left) (sym y.1) y.2 in let e : Some (report 1) ≡ None = sym some.0 ∙ none in cc
    all_sent left (x ∷ reports) o y none few = let more = longer 1 (message_of_report 1 [] x ∷ []) reports in omega (arith, more, few)

    carried : (r : Reporter) (m : Message) (o : Option Report) → MatchOption o ⊥ (λ x. TakesNoMore r (message_of_report 1 r.sent x) (Exhausted m)) → 0 ≡ length r.sent → ⊥
    carried r m None refused few = refused
    carried r m (Some x) refused few = let many = refused.1 in omega (arith, many, few)

    filled : (r : Reporter) (m : Message) (n : ℕ) (o : Option Report) → MatchOption o ⊥ (λ x. TakesNoMore r (message_of_report 1 r.sent x) (Full m n)) → ⊥
    filled r m n None refused = refused
    filled r m n (Some x) refused = refused

    by_outcome : (left : List Report) (r : Reporter) (o : Result ℕ Refusal) → Reported gives_next (report 1 ∷ []) (reporting l 1) left r o → [] ≡ r.sent → (IsTold o → false ≡ true) → ⊥
    by_outcome left r (Ok _) reported none only = all_sent left reported.0 reported.1 reported.2 reported.4.0 (ap length (none ∙ reported.3))
    by_outcome left r (Err (Closed m n)) reported none only = true≢false (sym (only tt))
    by_outcome left r (Err (Exhausted m)) reported none only = carried r m reported.1 reported.4 (ap length none)
    by_outcome left r (Err (Full m n)) reported none only = filled r m n reported.1 reported.4

-- ---- Workers and their lanes.

abbrev one_worker : LaneId → List (ℕ × Reporter)
one_worker l = (7, reporting l 1) ∷ []

one_lane : (l : LaneId) → HaveReporters (one_worker l) (taking l 1 ∷ [])
one_lane l = (refl, at)
  where
    at : (i : ℕ) (w : ℕ × Reporter) (e : LaneEnd) → i < 1 → IsLane (slice_index_or (one_worker l) i w).1 (slice_index_or (taking l 1 ∷ []) i e)
    at zero w e few = refl
    at (suc i) w e few = absurd (omega (arith, few))

not_fewer_lanes : (l : LaneId) → HaveReporters {S = ℕ} ((7, reporting l 1) ∷ []) [] → ⊥
not_fewer_lanes l h = let e : 0 ≡ 1 = h.0 in omega (arith, e)

not_the_lane_of_another : (l : LaneId) → HaveReporters {S = ℕ} ((7, reporting l 1) ∷ []) (taking l 2 ∷ []) → ⊥
not_the_lane_of_another l h = let e : lane_of_2 l ≡ lane_of_1 l = h.1 0 (7, reporting l 1) (taking l 2) (omega arith) in let n : 2 ≡ 1 = ap (λ (k : LaneId). k.node) e in omega (arith, n)
  where
    lane_of_2 : LaneId → LaneId
    lane_of_2 l = record l { node = 2 }

    lane_of_1 : LaneId → LaneId
    lane_of_1 l = record l { node = 1 }

-- ---- A promoted standby.

-- the lane at the end: it is closed, and its one message was taken
abbrev ended : LaneId → LaneEnd
ended l = lane_with l (message 1 1 ∷ []) true

abbrev marks : Segment
marks = record { name = []; bytes = []; txs = record { txid = 5; edit = StartSegment One } ∷ record { txid = 6; edit = EndSegment } ∷ [] }

-- one worker, whose source gave one report: it was sent and taken, and flushed, since no file holds its block
abbrev one_report : LaneId → List (List Report × Reporter)
one_report l = (report 1 ∷ [], reporting l 1) ∷ []

report_taken : (l : LaneId) → IsLaneTaken gives_next (report 1 ∷ []) (reporting l 1) (taking l 1) (message 1 1 ∷ [])
report_taken l = (
  record { source = []; reporter = record (reporting l 1) { sent = message 1 1 ∷ [] }; outcome = Ok 1 },
  (refl, (report 1 ∷ [], None, ([], ([], (refl, refl), refl), (refl, refl)), refl, (refl, refl), λ few. omega arith)),
  refl,
  λ told. absurd told,
)

each_taken : (l : LaneId) (i : ℕ) (w : List Report × Reporter) (b e : LaneEnd) → i < 1
    → IsLaneTaken gives_next (slice_index_or (one_report l) i w).0 (slice_index_or (one_report l) i w).1 (slice_index_or (taking l 1 ∷ []) i b) (slice_index_or (ended l ∷ []) i e).got
each_taken l zero w b e few = report_taken l
each_taken l (suc i) w b e few = absurd (omega (arith, few))

promoted_with_one_report : (l : LaneId) → IsPromotedAtEnd gives_next root_alone 0 (given two_marks ∷ end ∷ []) (one_report l) (taking l 1 ∷ []) (ended l ∷ []) promoted_shadow
promoted_with_one_report l = let p = is_promoted l in record {
  stands = p.stands;
  whole = p.whole;
  picture = p.picture;
  none_held = p.none_held;
  ended = p.ended;
  log_end = p.log_end;
  lanes = refl;
  taken = each_taken l;
}

-- not without its flush in the history
not_unflushed : (l : LaneId) → IsPromotedAtEnd gives_next root_alone 0 (given two_marks ∷ end ∷ []) (one_report l) (taking l 1 ∷ []) (ended l ∷ []) (record promoted_shadow { history = Applied 1 ∷ Applied 2 ∷ [] }) → ⊥
not_unflushed l h = none (h.whole (message 1 1) refl refl)
  where
    none : Includes (Applied 1 ∷ Applied 2 ∷ []) (processed Flush (message 1 1)) → ⊥
    none (inl e) = absurd (cc)
    none (inr (inl e)) = absurd (cc)
    none (inr (inr e)) = e

-- nor without its order
not_without_its_order : (l : LaneId) → IsPromotedAtEnd gives_next root_alone 0 (given two_marks ∷ end ∷ []) (one_report l) (taking l 1 ∷ []) (ended l ∷ []) (record promoted_shadow { table = record { min = 1; entries = [] } }) → ⊥
not_without_its_order l h = let e : false ≡ true = h.picture.orders 1 1073741825 in true≢false (sym e)

not_with_one_held : (x : Shadow) (base : ℕ) (answers : List Answer) → IsPromotedAtEnd gives_next root_alone base answers [] [] [] (record x { held = message 1 1 ∷ [] }) → ⊥
not_with_one_held x base answers h = let e : message 1 1 ∷ [] ≡ [] = h.none_held in cc

not_before_the_end : (x : Shadow) (base : ℕ) → IsPromotedAtEnd gives_next root_alone base (given marks ∷ []) [] [] [] x → ⊥
not_before_the_end x base h = one h.ended.0 h.ended.1
  where
    one : (before : List Answer) → given marks ∷ [] ≡ before ++ end ∷ [] → ⊥
    one [] e = cc
    one (a ∷ []) e = cc
    one (a ∷ b ∷ later) e = cc

not_behind_a_gap : (x : Shadow) → IsPromotedAtEnd gives_next root_alone 3 (given marks ∷ end ∷ []) [] [] [] x → ⊥
unfolding end_of_log
not_behind_a_gap x h = no_end (record { cause = disorder; txid = 4 }) (record { last = x.last; namespace = x.namespace }) h.log_end
  where
    no_end : {A B : Type 0} (stop : B) (end : A) → ◌≡◌ {A = Result A B} (Err stop) (Ok end) → ⊥
    no_end stop end e = cc

not_at_another_txid : (x : Shadow) → IsPromotedAtEnd gives_next root_alone 3 (end ∷ []) [] [] [] (record x { last = 4 }) → ⊥
not_at_another_txid x h = let e : 4 ≡ 3 + 0 = h.stands.last in omega (arith, e)

not_without_a_lane : (x : Shadow) (l : LaneId) (base : ℕ) (answers : List Answer) → IsPromotedAtEnd gives_next root_alone base answers (([], reporting l 1) ∷ []) (taking l 1 ∷ []) [] x → ⊥
not_without_a_lane x l base answers h = let e : 0 ≡ 1 = h.lanes in omega (arith, e)

-- a lane from which nothing was taken, though its source gave a report
not_with_one_untaken : (x : Shadow) (l : LaneId) (base : ℕ) (answers : List Answer)
    → IsPromotedAtEnd gives_next root_alone base answers ((report 1 ∷ [], reporting l 1) ∷ []) (taking l 1 ∷ []) (taking l 1 ∷ []) x → ⊥
not_with_one_untaken x l base answers h = not_untaken l (h.taken 0 ([], reporting l 1) (taking l 1) (taking l 1) (omega arith))

-- ---- A drive.

abbrev IsDrivenBy : Standby → List Segment → Shadow → Active → Type 0
IsDrivenBy old segments x active = IsDriven {S = List Report} GivesNext (λ s. 0) gives_next old segments [] x active

-- a new standby over one lane, wherever it stood: its source gives a segment and then End, and its worker's source one report
driven : (l : LaneId) → IsDriven {T = List Segment} GivesNext (λ s. 0) gives_next (new l) (two_marks ∷ []) (one_report l) promoted_shadow (record { last = 2; flushed = 1 })
driven l = (
  given two_marks ∷ end ∷ [],
  [],
  ended l ∷ [],
  ([], (refl, refl), ([], (refl, refl), refl)),
  omega arith,
  refl,
  refl,
  record { datanodes = refl; min = refl; permille = refl },
  promoted_there,
  (two_marks ∷ [], refl),
)
  where
    promoted_there : (past : History) (start : Namespace) (base : ℕ) (before : List Answer) → StandsAt start base before (standby_with_past past (new l))
        → IsPromotedAtEnd gives_next start base (before ++ given two_marks ∷ end ∷ []) (one_report l) (taking l 1 ∷ []) (ended l ∷ []) (shadow_with_past past promoted_shadow)
    promoted_there past start base before h = let p = promoted_from_new l past start base before h in record {
      stands = p.stands;
      whole = p.whole;
      picture = p.picture;
      none_held = p.none_held;
      ended = p.ended;
      log_end = p.log_end;
      lanes = refl;
      taken = each_taken l;
    }

not_another_last : (old : Standby) (x : Shadow) (a : Active) → IsDrivenBy old [] (record x { last = 3 }) (record a { last = 4 }) → ⊥
not_another_last old x a h = let e : 4 ≡ 3 = h.5 in omega (arith, e)

not_another_count_of_flushed : (old : Standby) (x : Shadow) (a : Active) → IsDrivenBy old [] (record x { history = [] }) (record a { flushed = 1 }) → ⊥
not_another_count_of_flushed old x a h = let e : 1 ≡ 0 = h.6 in omega (arith, e)

-- the settings stay
not_another_threshold : (old : Standby) (x : Shadow) (a : Active) → IsDrivenBy (record old { shadow = record old.shadow { permille = 999 } }) [] (record x { permille = 0 }) a → ⊥
not_another_threshold old x a h = let e : 0 ≡ 999 = h.7.permille in omega (arith, e)
