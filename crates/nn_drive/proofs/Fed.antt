-- From what the end of a feed answered to what its source did.
use Rattle.std.specs.Prelude.{OnErr, IfOk, IfErr, Result, Ok}
use Rattle.std.proofs.Common.{◌≡◌, ℕ, ◌<◌, ◌≤◌, Bool, true, false, true≢false, List, [], ◌∷◌, ◌++◌, length, Option, map, Err, refl, sym, ap, ◌∙◌, subst, append_assoc, append-nil, inl, inr}
use Rattle.std.proofs.lemmas.List.{map-append}
use Rattle.nn_model.specs.Log.{log_of}
use Rattle.nn_model.specs.Items.{items}
use Rattle.nn_model.specs.Lawful.{IsWhole}
use Rattle.nn_model.specs.Namespace.{Namespace}
use Rattle.nn_model.specs.Stands.{Stands}
use Rattle.nn_types.specs.declared.report.Report.{Report}
use Rattle.nn_lane.specs.Ends.{Reporter, LaneEnd, got_of}
use Rattle.nn_segment.specs.LogEnd.{end_of_log, given_in}
use Rattle.nn_segment.specs.Segment.{Segment}
use Rattle.nn_segment.specs.Source.{Answer, Asked, given, end}
use Rattle.nn_segment.specs.Walk.{log_in}
use Rattle.nn_segment.specs.declared.fault.SourceFault.{SourceFault}
use Rattle.nn_shadow.specs.Contents.{Shadow, standby_of}
use Rattle.nn_shadow.specs.declared.fault.Stop.{Stop}
use Rattle.nn_lane_standby.specs.declared.standby.Active.{Active}
use Rattle.nn_lane_standby.specs.Reads.{EndsInFault}
use Rattle.nn_lane_standby.specs.Tailing.{has_begun, Standby, LogStops, EndsInEnd, by_node}
use Rattle.nn_segment.proofs.Asks.{given-append, segments_given}
use Rattle.nn_lane_standby.proofs.Logs.{ends_behind}
use Rattle.nn_feed.specs.declared.ends.FeedEnd.{FeedEnd}
use Rattle.nn_feed.specs.declared.rule.Placed.{Placed}
use Rattle.nn_feed.specs.Ends.{put_by, got_by, IsSameFeeder, Gets, GivesWhatIsFed, IsMet, IsSameEnd}
use Rattle.nn_feed.specs.Feeds.{has_last, answer_of, answers_of, placed}
use Rattle.nn_feed.specs.declared.ends.Feeder.{Feeder}
use Rattle.nn_feed.specs.declared.running.FeederExit.{FeederExit}
use Rattle.nn_feed.specs.declared.running.Delivered.{Delivered}
use Rattle.nn_feed.specs.Running.{HasRun, GaveThen, then_last, last_in, ending_of}
use Rattle.nn_feed.proofs.Feeds.{last_among, one_last}
use Rattle.nn_feed.proofs.Wholes.{asked_gets, given_is_got, ends_in_end, ends_in_last}
use Rattle.nn_lane_standby.specs.Shadows.{shadow_with_past}
use Rattle.nn_drive.specs.declared.driving.DriveFault.{DriveFault}
use Rattle.nn_drive.specs.declared.driving.DriveFault.TheVariants as drive
use Rattle.nn_drive.specs.Driven.{EndsEarly, WentUntil, IsPromotedAtEnd, IsDriven, NotDriven}
use Rattle.nn_drive.proofs.Steps.{begun_or_not}
use Rattle.nn_drive.specs.Feeding.{GotMore, HasAnswered, Sourced, WhyFailed, FailsOver, IsDrivenOver, IsKnown}

-- ---- More was got.

pub got_none : (got : List Placed) → GotMore got got
got_none got = ([], sym (append-nil got), λ _. refl)

pub got_then : (a b c : List Placed) → GotMore a b → GotMore b c → GotMore a c
got_then a b c h k = (
  h.0 ++ k.0,
  k.1 ∙ ap (λ z. z ++ k.0) h.1 ∙ append_assoc a h.0 k.0,
  λ last.
      let none : h.0 ≡ [] = h.2 last in
      let same : b ≡ a = h.1 ∙ ap (λ z. a ++ z) none ∙ append-nil a in
      ap (λ z. z ++ k.0) none ∙ k.2 (ap has_last same ∙ last),
)

-- one more answer was got, or none
got_by_one : (old new : List Placed) (answer : Answer) → Gets old answer new → GotMore old new
got_by_one old new answer h = elim h [
  | inl again ↦ subst (GotMore old) (sym again.2) (got_none old)
  | inr more ↦ elim more [
    | inl next ↦ (placed answer (length old) ∷ [], next.1, λ last. absurd (true≢false (sym last ∙ next.0)))
    | inr nothing ↦ subst (GotMore old) (sym nothing.2) (got_none old)
  ]
]

pub got_next : {R : Type 0} (old new : FeedEnd R) (answer : Answer) → GivesWhatIsFed old answer new → GotMore (got_by old) (got_by new)
got_next old new answer h = got_by_one (got_by old) (got_by new) answer h.1

-- ---- Answers with the same segments.

given_behind : (before answers more others : List Answer) → given_in others ≡ given_in answers ++ given_in more → given_in (before ++ others) ≡ given_in (before ++ answers) ++ given_in more
given_behind before answers more others e =
    given-append before others ∙ ap (λ l. given_in before ++ l) e ∙ sym (append_assoc (given_in before) (given_in answers) (given_in more)) ∙ ap (λ l. l ++ given_in more) (sym (given-append before answers))

-- a log that stops goes on stopping
stops_more : (x : Standby) (answers more others : List Answer) (m : Stop) → given_in others ≡ given_in answers ++ given_in more → LogStops x answers m → LogStops x others m
stops_more x answers more others m e h past start base before at =
    λ later. ap (λ l. end_of_log base start (l ++ later)) (given_behind before answers more others e)
    ∙ ap (λ l. end_of_log base start l) (append_assoc (given_in (before ++ answers)) (given_in more) later) ∙ h past start base before at (given_in more ++ later)

module _ (answers others : List Answer) (same : given_in others ≡ given_in answers) (ended : EndsInEnd others) where
  pub same_behind : (before : List Answer) → given_in (before ++ others) ≡ given_in (before ++ answers)
  same_behind before = given_behind before answers [] others (same ∙ sym (append-nil (given_in answers))) ∙ append-nil (given_in (before ++ answers))

  pub same_log : (base : ℕ) (before : List Answer) → log_in base (before ++ answers) ≡ log_in base (before ++ others)
  same_log base before = ap (log_of base)
      (segments_given (before ++ answers) ∙ ap (λ l. map (λ (s : Segment). s.txs) l) (sym (same_behind before)) ∙ sym (segments_given (before ++ others)))

  promoted_same : {S : Type 0} (gives : S → Option Report → S → Type 0) (start : Namespace) (base : ℕ) (before : List Answer) (workers : List (S × Reporter)) (was ends : List LaneEnd) (x : Shadow)
      → IsPromotedAtEnd gives start base (before ++ answers) workers was ends x → IsPromotedAtEnd gives start base (before ++ others) workers was ends x
  promoted_same gives start base before workers was ends x p = record {
    stands = subst (λ l. Stands start base l (by_node (map got_of ends)) (standby_of x)) (same_log base before) p.stands;
    whole = subst (λ l. IsWhole start l (items (by_node (map got_of ends))) x.history) (same_log base before) p.whole;
    picture = p.picture;
    none_held = p.none_held;
    ended = ends_behind before others ended;
    log_end = ap (λ l. end_of_log base start l) (same_behind before) ∙ p.log_end;
    lanes = p.lanes;
    taken = p.taken;
  }

-- ---- What the feed says of its source.

module _ {T : Type 0} (gives : T → Answer → T → Type 0) (failures : T → ℕ) (s t : T) where
  -- what the source answered, seen from an earlier point
  sourced_before : (got all : List Placed) → GotMore got all → Sourced gives failures s all t → Sourced gives failures s got t
  sourced_before got all m k =
      let answers : answers_of all ++ k.more ≡ answers_of got ++ (answers_of m.0 ++ k.more) =
      ap (λ l. answers_of l ++ k.more) m.1 ∙ ap (λ l. l ++ k.more) (map-append answer_of got m.0) ∙ append_assoc (answers_of got) (answers_of m.0) k.more in
      record {
        more = answers_of m.0 ++ k.more;
        asked = subst (λ l. Asked gives s l t) answers k.asked;
        segments = k.segments;
        last = k.last;
        are = sym answers ∙ k.are;
        whole = λ last.
            let none : m.0 ≡ [] = m.2 last in
            let same : all ≡ got = m.1 ∙ ap (λ z. got ++ z) none ∙ append-nil got in
            ap (λ z. answers_of z ++ k.more) none ∙ k.whole (ap has_last same ∙ last);
        failed = λ f e. k.failed f (subst (λ l. EndsInFault l f) (sym answers) e);
      }

  -- what the promise of the feeder's thread and the meeting say
  pub sourced : (before put got : List Placed) (segments : List Segment) (last : Answer) → before ≡ [] → GaveThen gives s segments last t
      → answers_of put ≡ answers_of before ++ then_last segments last → IsMet put got → OnErr last (failures s < failures t) → Sourced gives failures s got t
  sourced before put got segments last new gave is_put met fails =
      let answers : answers_of got ++ answers_of met.0 ≡ then_last segments last =
      sym (map-append answer_of got met.0) ∙ ap answers_of (sym met.1) ∙ is_put ∙ ap (λ b. answers_of b ++ then_last segments last) new in
      record {
        more = answers_of met.0;
        asked = subst (λ l. Asked gives s l t) (sym answers) gave;
        segments = segments;
        last = last;
        are = answers;
        whole = λ l. ap answers_of (met.2 l);
        failed = λ f e.
            let is : last ≡ Err f = one_last (then_last segments last) last (Err f) (map given segments, refl) (e.0, sym answers ∙ e.1) in
            subst (λ a. OnErr a (failures s < failures t)) is fails;
      }

  module _ {R : Type 0} (e0 e1 : FeedEnd R) (new : got_by e0 ≡ []) (answers : List Answer) (asked : Asked GivesWhatIsFed e0 answers e1) (k : Sourced gives failures s (got_by e1) t) where
    abbrev of_source : List Answer
    of_source = answers_of (got_by e1) ++ k.more

    gets : Asked Gets [] answers (got_by e1)
    gets = subst (λ l. Asked Gets l answers (got_by e1)) new (asked_gets e0 e1 answers asked).0

    given_more : given_in of_source ≡ given_in answers ++ given_in k.more
    given_more = given-append (answers_of (got_by e1)) k.more ∙ ap (λ l. l ++ given_in k.more) (sym (given_is_got (got_by e1) answers gets))

    -- nothing came behind the last answer
    all_got : has_last (got_by e1) ≡ true → of_source ≡ answers_of (got_by e1)
    all_got last = ap (λ l. answers_of (got_by e1) ++ l) (k.whole last) ∙ append-nil (answers_of (got_by e1))

    got_end : EndsInEnd answers → has_last (got_by e1) ≡ true
    got_end e = let g = ends_in_end [] (got_by e1) answers gets e in last_among (got_by e1) g.0 end g.1 refl

    pub ends_alike : EndsInEnd answers → EndsInEnd of_source
    ends_alike e = let g = ends_in_end [] (got_by e1) answers gets e in (g.0, all_got (got_end e) ∙ g.1)

    pub given_alike : EndsInEnd answers → given_in of_source ≡ given_in answers
    given_alike e = given_more ∙ ap (λ l. given_in answers ++ given_in l) (k.whole (got_end e)) ∙ append-nil (given_in answers)

    why_failed : (x : Standby) (f : DriveFault) → WhyFailed x answers f → ((e : _) → f ≡ drive.LogNotEnded e → has_last (got_by e1) ≡ true) → EndsEarly failures s x of_source t f
    why_failed x drive.AlreadyActive w told = absurd w
    why_failed x (drive.Stopped m) w told = stops_more x answers k.more of_source m given_more w
    why_failed x (drive.LogNotEnded f) w told =
        let last = told f refl in let g = (ends_in_last [] (got_by e1) answers (Err f) gets w last).0 in
        let here : EndsInFault of_source f = (g.0, all_got last ∙ g.1) in (here, k.failed f here)
    why_failed x drive.OutOfMemory w told = tt

  pub failed : {R : Type 0} (x : Standby) (e0 e2 : FeedEnd R) (f : DriveFault) → got_by e0 ≡ [] → FailsOver x e0 e2 f → failures s ≤ failures t → Sourced gives failures s (got_by e2) t → WentUntil gives failures s x t f
  failed x e0 e2 f new h counted all =
      let k = sourced_before (got_by h.between) (got_by e2) h.more all in
      (answers_of (got_by h.between) ++ k.more, k.asked, why_failed e0 h.between new h.answers h.asked k x f h.why h.told, counted)

  pub driven : {R S : Type 0} (reports : S → Option Report → S → Type 0) (x : Standby) (e0 e2 : FeedEnd R) (workers : List (S × Reporter)) (y : Shadow) (active : Active)
      → got_by e0 ≡ [] → IsDrivenOver reports x e0 workers e2 y active → failures s ≤ failures t → Sourced gives failures s (got_by e2) t → IsDriven gives failures reports x s workers y active
  driven reports x e0 e2 workers y active new d counted k = (
    answers_of (got_by e2) ++ k.more,
    t,
    d.ends,
    k.asked,
    counted,
    d.last,
    d.flushed,
    d.settings,
    λ past start base before at.
        promoted_same d.answers (answers_of (got_by e2) ++ k.more) (given_alike e0 e2 new d.answers d.asked k d.ended) (ends_alike e0 e2 new d.answers d.asked k d.ended) reports start base before workers x.ends d.ends (shadow_with_past past y)
        (d.promoted past start base before at),
    (let ended = ends_alike e0 e2 new d.answers d.asked k d.ended in
        let is : k.last ≡ end = one_last (then_last k.segments k.last) k.last end (map given k.segments, refl) (ended.0, sym k.are ∙ ended.1) in
        (k.segments, k.are ∙ ap (then_last k.segments) is)),
  )

-- ---- What a run over the end of a feed comes to.

pub same_then : {R : Type 0} (e0 e1 e2 : FeedEnd R) → IsSameEnd e0 e1 → IsSameEnd e1 e2 → IsSameEnd e0 e2
same_then e0 e1 e2 a b = b ∙ a

pub same_asked : {R : Type 0} (e0 e1 : FeedEnd R) (answers : List Answer) → Asked GivesWhatIsFed e0 answers e1 → IsSameEnd e0 e1
same_asked e0 e1 answers asked = (asked_gets e0 e1 answers asked).1

why_of : {Q : Type 0} (failures : Q → ℕ) (s t : Q) (x : Standby) (answers : List Answer) (f : DriveFault) → has_begun x ≡ false → EndsEarly failures s x answers t f → WhyFailed x answers f
why_of failures s t x answers drive.AlreadyActive b h = begun_or_not x b h.0
why_of failures s t x answers (drive.Stopped stop) b h = h
why_of failures s t x answers (drive.LogNotEnded f) b h = h.0
why_of failures s t x answers drive.OutOfMemory b h = tt

no_log : {P : Type 0} (g : DriveFault) (f : SourceFault) → g ≡ drive.OutOfMemory → g ≡ drive.LogNotEnded f → P
no_log g f a b = absurd (let e : drive.OutOfMemory ≡ drive.LogNotEnded f = sym a ∙ b in cc)

module _ {R : Type 0} (x : Standby) (e0 e1 e2 : FeedEnd R) where
  pub nothing_begun : (told : Bool) (g : DriveFault) → IsKnown drive.OutOfMemory told g → GotMore (got_by e0) (got_by e2) → FailsOver x e0 e2 g
  nothing_begun told g known more =
      let is : g ≡ drive.OutOfMemory = elim known [ inl q ↦ q | inr q ↦ q.0 ] in
      record { answers = []; between = e0; asked = refl; why = subst (WhyFailed x []) (sym is) tt; told = λ f w. no_log g f is w; more = more }

  pub fails_over : (failures : FeedEnd R → ℕ) (f g : DriveFault) → has_begun x ≡ false → WentUntil GivesWhatIsFed failures e0 x e1 f
      → IsKnown f (has_last (got_by e1)) g → GotMore (got_by e1) (got_by e2) → FailsOver x e0 e2 g
  fails_over failures f g b h known more = elim known [
    | inl q ↦ record { answers = h.0; between = e1; asked = h.1; why = subst (WhyFailed x h.0) (sym q) tt; told = λ e w. no_log g e q w; more = more }
    | inr q ↦ record {
      answers = h.0;
      between = e1;
      asked = h.1;
      why = subst (WhyFailed x h.0) (sym q.0) (why_of failures e0 e1 x h.0 f b h.2);
      told = λ e w. q.1 e (sym q.0 ∙ w);
      more = more;
    }
  ]

-- a source whose feed did not meet
pub not_met : {T : Type 0} (gives : T → Answer → T → Type 0) (failures : T → ℕ) (s : T) (x : Standby) (got : List Placed) (met : Bool) → HasAnswered gives failures s got met → NotDriven gives failures x s drive.OutOfMemory
not_met gives failures s x got met h = (h.0, (h.1.0, h.1.1, tt, h.2))

-- a feeder that told how its source ended is still that of the same feed
pub told_same : {T : Type 0} (gives : T → Answer → T → Type 0) (failures : T → ℕ) (s : T) (feeder : Feeder) (ran : FeederExit T) (told : Delivered) → ran.outcome ≡ Ok told → HasRun gives failures s feeder ran → IsSameFeeder feeder told.feeder
told_same gives failures s feeder ran told is h =
    (subst (λ o. IfOk o (λ t. IsSameFeeder feeder t.feeder × (answers_of (put_by t.feeder) ≡ answers_of (put_by feeder) ++ then_last h.segments (ending_of t.end)))) is h.put).0

-- a source whose feed met
pub met_source : {T : Type 0} (gives : T → Answer → T → Type 0) (failures : T → ℕ) (s : T) (feeder : Feeder) (ran : FeederExit T) (told : Delivered) (got : List Placed) → ran.outcome ≡ Ok told → HasRun gives failures s feeder ran
    → put_by feeder ≡ [] → IsMet (put_by told.feeder) got → HasAnswered gives failures s got true
met_source gives failures s feeder ran told got is h new met =
    let put = (subst (λ o. IfOk o (λ t. IsSameFeeder feeder t.feeder × (answers_of (put_by t.feeder) ≡ answers_of (put_by feeder) ++ then_last h.segments (ending_of t.end)))) is h.put).1 in
    let gave = subst (λ o. GaveThen gives s h.segments (last_in o) ran.source) is h.gave in
    let fails = subst (λ o. OnErr (last_in o) (failures s < failures ran.source)) is h.failed in (
      ran.source,
      (then_last h.segments (ending_of told.end), gave),
      h.not_fewer,
      λ _. sourced gives failures s ran.source (put_by feeder) (put_by told.feeder) got h.segments (ending_of told.end) new gave put met fails,
    )

-- what a run over the end of a feed came to, a drive comes to over its source
module _ {T R S : Type 0} (gives : T → Answer → T → Type 0) (failures : T → ℕ) (reports : S → Option Report → S → Type 0) (x : Standby) (s : T) (workers : List (S × Reporter)) (e0 e2 : FeedEnd R) (new : got_by e0 ≡ [])
    (met : Bool) (is_met : met ≡ true) (h : HasAnswered gives failures s (got_by e2) met) where
  pub drive_ok : (r : Result (Shadow × Active) DriveFault) → IfOk r (λ a. IsDrivenOver reports x e0 workers e2 a.0 a.1) → IfOk r (λ a. IsDriven gives failures reports x s workers a.0 a.1)
  drive_ok (Ok a) d = driven gives failures s h.0 reports x e0 e2 workers a.0 a.1 new d h.2 (h.3 is_met)
  drive_ok (Err f) d = tt

  pub drive_err : (r : Result (Shadow × Active) DriveFault) → IfErr r (λ f. FailsOver x e0 e2 f) → IfErr r (λ f. NotDriven gives failures x s f)
  drive_err (Ok a) d = tt
  drive_err (Err f) d = (h.0, failed gives failures s h.0 x e0 e2 f new d h.2 (h.3 is_met))
