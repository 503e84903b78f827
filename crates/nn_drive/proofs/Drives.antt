-- From the threads' promises to what `drive` says of each lane.
use Rattle.std.proofs.Common.{◌≡◌, ℕ, zero, suc, ◌<◌, ◌≤◌, Bool, true, false, List, [], ◌∷◌, ◌++◌, Option, length, get_or, refl, sym, ap, ◌∙◌, subst, arith, length-append, append_assoc, append-nil}
use Rattle.std.specs.List.{AllZip}
use Rattle.std.specs.declared.thread.PromisedHandle.{PromisedHandle}
use Rattle.nn_types.specs.declared.report.Report.{Report}
use Rattle.nn_types.specs.declared.report.Message.{Message}
use Rattle.nn_model.specs.History.{History}
use Rattle.nn_model.specs.Namespace.{Namespace}
use Rattle.nn_lane_standby.specs.Shadows.{shadow_with_past}
use Rattle.nn_segment.specs.Source.{Answer}
use Rattle.nn_lane.specs.Ends.{Reporter, LaneEnd, known_count, StartsWith}
use Rattle.nn_lane_standby.specs.Tailing.{Standby, standby_with_past, StandsAt, Carries, AllTaken}
use Rattle.nn_lane_standby.specs.LaneSteps.{SameEnd, SameEnds, ClosesEnd, CloseEnds}
use Rattle.nn_lane_standby.specs.Promotion.{Promoted, IsPromoted as Promotes}
use Rattle.nn_lane_standby.proofs.Carried.{carries_then}
use Rattle.nn_lane_standby.proofs.Closed.{many_closed}
use Rattle.nn_lane_standby.proofs.Drained.{same_length}
use Rattle.nn_drive.specs.declared.driving.WorkerExit.{WorkerExit}
use Rattle.nn_drive.specs.declared.driving.WorkerPromise.{WorkerPromise}
use Rattle.nn_drive.specs.Driven.{HaveReporters, IsPromised, ArePromised, HasReported, IsToldOnly, IsLaneTaken, JoinsAll, AreOneLane, EndsAgree, Goes, IsPromotedAtEnd}
use Rattle.nn_drive.proofs.Meets.{zip_of, zip_at}

pub same_at : (es es' : List LaneEnd) (i : ℕ) (d : LaneEnd) → i < length es → SameEnds es es' → SameEnd (get_or es i d) (get_or es' i d)
same_at [] es' i d l s = absurd (omega (arith, l))
same_at (e ∷ es) [] i d l s = absurd s
same_at (e ∷ es) (e' ∷ es') zero d l s = s.0
same_at (e ∷ es) (e' ∷ es') (suc i) d l s = same_at es es' i d (omega (arith, l)) s.1

pub closes_at : (es es' : List LaneEnd) (i : ℕ) (d : LaneEnd) → i < length es → CloseEnds es es' → ClosesEnd (get_or es i d) (get_or es' i d)
closes_at [] es' i d l s = absurd (omega (arith, l))
closes_at (e ∷ es) [] i d l s = absurd s
closes_at (e ∷ es) (e' ∷ es') zero d l s = s.0
closes_at (e ∷ es) (e' ∷ es') (suc i) d l s = closes_at es es' i d (omega (arith, l)) s.1

-- lanes that were closed are the lanes of the same workers
pub still_lanes : {S : Type 0} (workers : List (S × Reporter)) (es es' : List LaneEnd) → HaveReporters workers es → CloseEnds es es' → HaveReporters workers es'
still_lanes workers es es' l c = (many_closed es es' c ∙ l.0, λ i w e below. (closes_at es es' i e (omega (arith, below, l.0)) c).0 ∙ l.1 i w e below)

-- and so are lanes that were taken from
pub same_lanes : {S : Type 0} (workers : List (S × Reporter)) (es es' : List LaneEnd) → HaveReporters workers es → SameEnds es es' → HaveReporters workers es'
same_lanes workers es es' l s = (omega (arith, l.0, same_length es es' s), λ i w e below. (same_at es es' i e (omega (arith, below, l.0)) s).0 ∙ l.1 i w e below)

-- a lane that is closed, of which all that was counted was taken
abbrev pub IsAll : LaneEnd → Type 0
IsAll e = (e.closed ≡ true) × (length e.got ≡ known_count e)

pub taken_at : (es : List LaneEnd) (ks : List (Option Message)) (i : ℕ) (d : LaneEnd) → i < length es → AllTaken es ks → IsAll (get_or es i d)
taken_at [] ks i d l t = absurd (omega (arith, l))
taken_at (e ∷ es) [] i d l t = absurd t
taken_at (e ∷ es) (k ∷ ks) zero d l t = (t.0, t.2)
taken_at (e ∷ es) (k ∷ ks) (suc i) d l t = taken_at es ks i d (omega (arith, l)) t.3

none_more : (more : List Message) → length more ≡ 0 → more ≡ []
none_more [] h = refl
none_more (m ∷ more) h = absurd (omega (arith, h))

pub whole_prefix : (all got : List Message) → StartsWith all got → length got ≡ length all → got ≡ all
whole_prefix all got f h =
    let none : f.0 ≡ [] = none_more f.0 (omega (arith, h, ap length f.1, length-append got f.0)) in
    sym (append-nil got) ∙ ap (λ m. got ++ m) (sym none) ∙ sym f.1

-- what the meeting says, of a lane of which all was taken
pub all_got : (e : LaneEnd) (r : Reporter) → EndsAgree e r → IsAll e → e.got ≡ r.sent
all_got e r a t = whole_prefix r.sent e.got a.0 (t.1 ∙ a.1 t.0)

-- an element of a list that has one
pub some_of : {A : Type 0} (xs : List A) (i : ℕ) → i < length xs → A
some_of [] i l = absurd (omega (arith, l))
some_of (x ∷ xs) i l = x

module _ {S : Type 0} (gives : S → Option Report → S → Type 0) where
  -- what the thread of a worker's handle reported is reported by the worker
  reported_by : (w : S × Reporter) (h : PromisedHandle (WorkerExit S) (WorkerPromise S)) (v : WorkerExit S) → IsPromised w h → HasReported gives h.promise.0.value h.promise.1.value v → HasReported gives w.0 w.1 v
  reported_by w h v p r = subst (λ x. HasReported gives w.0 x v) p.1 (subst (λ s. HasReported gives s h.promise.1.value v) p.0 r)

module _ {S : Type 0} (gives : S → Option Report → S → Type 0) (workers : List (S × Reporter)) (handles : List (PromisedHandle (WorkerExit S) (WorkerPromise S))) (promised : ArePromised workers handles) (all : length workers ≤ length handles)
    (x0 x1 : Standby) (lanes : HaveReporters workers x0.ends) (a1 : List Answer) (goes : Goes x0 a1 x1) where
  -- there is a lane for each handle
  pub fit : length handles ≤ length x1.ends
  fit = omega (arith, promised.0, lanes.0, same_length x0.ends x1.ends goes.same_ends)

  module _ (reporters : List Reporter) (told : Bool) (joins : JoinsAll gives handles x1.ends reporters told) where
    -- the handle of a worker, and what its thread gave back
    joined_at : (i : ℕ) (w : S × Reporter) (e : LaneEnd) (r : Reporter) → i < length workers
        → (v : WorkerExit S) × HasReported gives (get_or workers i w).0 (get_or workers i w).1 v × (get_or reporters i r ≡ v.reporter) × (told ≡ false → IsToldOnly v (get_or x1.ends i e))
    joined_at i w e r below =
        let within : i < length handles = omega (arith, below, all) in
        let h = some_of handles i within in
        let j = joins.each i h e r within in
        (j.0, reported_by gives (get_or workers i w) (get_or handles i h) j.0 (promised.1 i w h within) j.1, j.2, j.3)

    -- before the close, each end is of the lane of its reporter
    pub lanes_now : AllZip AreOneLane x1.ends reporters
    lanes_now =
        let many = same_length x0.ends x1.ends goes.same_ends in
        zip_of AreOneLane x1.ends reporters (omega (arith, many, lanes.0, joins.size, promised.0, all)) (λ i e r l.
        let below : i < length workers = omega (arith, l, many, lanes.0) in
        let w = some_of workers i below in
        let j = joined_at i w e r below in
        let in0 : i < length x0.ends = omega (arith, below, lanes.0) in
        (same_at x0.ends x1.ends i e in0 goes.same_ends).0 ∙ lanes.1 i w e below ∙ sym j.1.0 ∙ ap (λ z. z.lane) (sym j.2))

    -- so none was told of a close
    pub none_closed : AllZip EndsAgree x1.ends reporters → told ≡ true → ⊥
    none_closed agree t =
        let o = joins.one t in
        let within : o.place < length x1.ends = omega (arith, o.within, joins.size, promised.0, lanes.0, same_length x0.ends x1.ends goes.same_ends) in
        let e = some_of x1.ends o.place within in
        let r = some_of reporters o.place o.within in
        let z : true ≡ false = sym ((zip_at EndsAgree x1.ends reporters agree o.place e r within).2 (o.told r)) ∙ o.is_open e in cc

    module _ (x2 x3 : Standby) (closes : CloseEnds x1.ends x2.ends) (carries : Carries x1 [] x2) (same : SameEnds x2.ends x3.ends) where
      size : length x3.ends ≡ length workers
      size = omega (arith, lanes.0, same_length x0.ends x1.ends goes.same_ends, many_closed x1.ends x2.ends closes, same_length x2.ends x3.ends same)

      -- each end is of the lane of its reporter
      pub one_lanes : AllZip AreOneLane x3.ends reporters
      one_lanes = zip_of AreOneLane x3.ends reporters (omega (arith, size, joins.size, promised.0, all)) (λ i e r l.
          let below : i < length workers = omega (arith, l, size) in
          let w = some_of workers i below in
          let j = joined_at i w e r below in
          let in0 : i < length x0.ends = omega (arith, below, lanes.0) in
          let in1 : i < length x1.ends = omega (arith, in0, same_length x0.ends x1.ends goes.same_ends) in
          let in2 : i < length x2.ends = omega (arith, in1, many_closed x1.ends x2.ends closes) in
          (same_at x2.ends x3.ends i e in2 same).0 ∙ (closes_at x1.ends x2.ends i e in1 closes).0 ∙ (same_at x0.ends x1.ends i e in0 goes.same_ends).0 ∙ lanes.1 i w e below ∙ sym j.1.0 ∙ ap (λ z. z.lane) (sym j.2))

      carried : Carries x0 a1 x2
      carried = subst (λ rs. Carries x0 rs x2) (append-nil a1) (carries_then x0 x1 x2 a1 [] goes.carries carries)

      module _ (a2 : List Answer) (promotes : Promotes x2 a2 x3) where
        promoted : (past : History) (start : Namespace) (base : ℕ) (given : List Answer) → StandsAt start base given (standby_with_past past x0) → Promoted start base (given ++ (a1 ++ a2)) (standby_with_past past x3)
        promoted past start base given h = subst (λ g. Promoted start base g (standby_with_past past x3)) (append_assoc given a1 a2) (promotes past start base (given ++ a1) (carried past start base given h))

        module _ (agree : AllZip EndsAgree x3.ends reporters) (none_told : told ≡ false) where
          is_taken : AllTaken x3.ends x3.undelivered → (i : ℕ) (w : S × Reporter) (b e : LaneEnd) → i < length workers → IsLaneTaken gives (get_or workers i w).0 (get_or workers i w).1 (get_or x0.ends i b) (get_or x3.ends i e).got
          is_taken taken i w b e below =
              let r = (get_or workers i w).1 in
              let j = joined_at i w b r below in
              let in3 : i < length x3.ends = omega (arith, below, size) in
              let whole = all_got (get_or x3.ends i e) (get_or reporters i r) (zip_at EndsAgree x3.ends reporters agree i e r in3) (taken_at x3.ends x3.undelivered i e in3 taken) in
              let was = (same_at x0.ends x1.ends i b (omega (arith, below, lanes.0)) goes.same_ends).1 in
              (j.0, j.1, whole ∙ ap (λ z. z.sent) j.2, λ t. sym was ∙ j.3 none_told t)

          pub is_promoted : (past : History) (start : Namespace) (base : ℕ) (given : List Answer) → StandsAt start base given (standby_with_past past x0) → IsPromotedAtEnd gives start base (given ++ (a1 ++ a2)) workers x0.ends x3.ends (shadow_with_past past x3.shadow)
          is_promoted past start base given h =
              let p = promoted past start base given h in
              record { stands = p.stands; whole = p.whole; picture = p.picture; none_held = p.none_held; ended = p.ended; log_end = p.log_end; lanes = size; taken = is_taken p.taken }
