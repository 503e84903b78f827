-- Two drives of one standby, with the same sources, end alike.
use Rattle.std.proofs.Common.{◌≡◌, ℕ, zero, suc, ◌<◌, ◌^◌, true, false, List, [], ◌∷◌, ◌++◌, length, map, get_or, Option, Some, None, Result, Ok, Err, refl, sym, ap, ◌∙◌, subst, arith, length-append, inl, inr}
use Rattle.std.specs.Prelude.{◌⊎◌, MatchOption, MatchResult}
use Rattle.std.specs.Iterator.{Yields, YieldsThen}
use Rattle.nn_types.specs.declared.report.Report.{Report}
use Rattle.nn_types.specs.declared.report.Message.{Message}
use Rattle.nn_model.specs.Namespace.{Namespace}
use Rattle.nn_model.specs.Counts.{safe_mode_of}
use Rattle.nn_model.specs.Items.{items}
use Rattle.nn_model.specs.Lanes.{Lanes}
use Rattle.nn_model.specs.Picture.{picture_replica, picture_order}
use Rattle.nn_model.specs.Replay.{Sequential}
use Rattle.nn_model.specs.Stands.{tables_of}
use Rattle.nn_lane.specs.Ends.{Reporter, LaneEnd, got_of}
use Rattle.nn_lane.specs.declared.fault.Refusal.{Refusal}
use Rattle.nn_lane.specs.declared.fault.Refusal.TheVariants.{Closed, Exhausted, Full}
use Rattle.nn_segment.specs.Segment.{Segment}
use Rattle.nn_segment.specs.Source.{Answer, Asked, given, end}
use Rattle.nn_shadow.specs.Contents.{Shadow, standby_of}
use Rattle.nn_lane_standby.specs.Tailing.{by_node}
use Rattle.nn_lane_standby.specs.Shadows.{shadow_with_past}
use Rattle.nn_drive.specs.declared.driving.WorkerExit.{WorkerExit}
use Rattle.nn_drive.specs.Reports.{message_of_report, sent_after, TakesNoMore, Reported}
use Rattle.nn_drive.specs.Driven.{HaveReporters, IsTold, IsLaneTaken, IsPromotedAtEnd}
use Rattle.nn_drive.proofs.Sends.{sent_long}
use Rattle.nn_drive.specs.DriveLaws.{AnswersByFunction, AreOpen, DrivesEndAlike}

-- ---- The source of segments.

module _ {T : Type 0} (asks : T → Answer → T → Type 0) (fixed : AnswersByFunction asks) where
  same_segments : (s t u : T) (xs ys : List Segment) → Asked asks s (map given xs ++ end ∷ []) t → Asked asks s (map given ys ++ end ∷ []) u → xs ≡ ys
  same_segments s t u [] [] p q = refl
  same_segments s t u [] (y ∷ ys) p q = absurd (let e : end ≡ given y = (fixed s p.0 q.0 end (given y) p.1 q.1).0 in cc)
  same_segments s t u (x ∷ xs) [] p q = absurd (let e : given x ≡ end = (fixed s p.0 q.0 (given x) end p.1 q.1).0 in cc)
  same_segments s t u (x ∷ xs) (y ∷ ys) p q =
      let both = fixed s p.0 q.0 (given x) (given y) p.1 q.1 in
      let first : x ≡ y = let e : given x ≡ given y = both.0 in cc in
      let more : xs ≡ ys = same_segments q.0 t u xs ys (subst (λ z. Asked asks z (map given xs ++ end ∷ []) t) both.1 p.2) q.2 in
      λ j. first j ∷ more j

-- ---- A source of reports.

-- of two lists of reports, each followed by what ended it: the same, or one goes on where the other ends
abbrev AreAlike : List Report → Option Report → List Report → Option Report → Type 0
AreAlike xs last ys last' =
    (xs ≡ ys)
    ⊎ (((z : Report) × (zs : List Report) × (ys ≡ xs ++ z ∷ zs) × (last ≡ Some z)) ⊎ ((z : Report) × (zs : List Report) × (xs ≡ ys ++ z ∷ zs) × (last' ≡ Some z)))

with_first : (x y : Report) (xs ys : List Report) (last last' : Option Report) → x ≡ y → AreAlike xs last ys last' → AreAlike (x ∷ xs) last (y ∷ ys) last'
with_first x y xs ys last last' e h = elim h [
  | inl same ↦ inl (λ j. e j ∷ same j)
  | inr other ↦ elim other [
    | inl more ↦ inr (inl (more.0, more.1, (λ j. sym e j ∷ more.2 j), more.3))
    | inr more ↦ inr (inr (more.0, more.1, (λ j. e j ∷ more.2 j), more.3))
  ]
]

module _ {S : Type 0} (gives : S → Option Report → S → Type 0) (fixed : AnswersByFunction gives) where
  alike : (s t u : S) (xs ys : List Report) (last last' : Option Report) → YieldsThen gives s xs last t → YieldsThen gives s ys last' u → AreAlike xs last ys last'
  alike s t u [] [] last last' p q = inl refl
  alike s t u [] (y ∷ ys) last last' p q =
      let from = subst (λ z. gives z last t) (sym p.1) p.2 in
      inr (inl (y, ys, refl, (fixed s t q.1.0 last (Some y) from q.1.1).0))
  alike s t u (x ∷ xs) [] last last' p q =
      let from = subst (λ z. gives z last' u) (sym q.1) q.2 in
      inr (inr (x, xs, refl, (fixed s u p.1.0 last' (Some x) from p.1.1).0))
  alike s t u (x ∷ xs) (y ∷ ys) last last' p q =
      let both = fixed s p.1.0 q.1.0 (Some x) (Some y) p.1.1 q.1.1 in
      let first : x ≡ y = let e : Some x ≡ Some y = both.0 in cc in
      with_first x y xs ys last last' first
      (alike q.1.0 t u xs ys last last' (p.0, subst (λ z. Yields gives z xs p.0) both.1 p.1.2, p.2) (q.0, q.1.2, q.2))

-- a report that was not sent, of a lane that was not closed: the lane has carried all that it can
full_of : (u : Reporter) (f : Report → Message) (last : Option Report) (size : ℕ) (z : Report) (answer : Result ℕ Refusal) → last ≡ Some z → (IsTold answer → ⊥)
    → MatchResult answer (λ n. (last ≡ None) × (n ≡ size)) (λ e. MatchOption last ⊥ (λ x. TakesNoMore u (f x) e)) → length u.sent ≡ 2 ^ 62
full_of u f last size z (Ok _) some open_ h = absurd (let e : None ≡ Some z = sym h.0 ∙ some in cc)
full_of u f last size z (Err (Closed m n)) some open_ h = absurd (open_ tt)
full_of u f last size z (Err (Exhausted m)) some open_ h = (subst (λ (o : Option Report). MatchOption o ⊥ (λ x. TakesNoMore u (f x) (Exhausted m))) some h).1
full_of u f last size z (Err (Full m n)) some open_ h = absurd (subst (λ (o : Option Report). MatchOption o ⊥ (λ x. TakesNoMore u (f x) (Full m n))) some h)

module _ {S : Type 0} (gives : S → Option Report → S → Type 0) (fixed : AnswersByFunction gives) (s : S) (r : Reporter) (v w : WorkerExit S)
    (p : Reported gives s r v.source v.reporter v.outcome) (q : Reported gives s r w.source w.reporter w.outcome) (not_told : IsTold v.outcome → ⊥) (not_told' : IsTold w.outcome → ⊥) where
  same_sent : v.reporter.sent ≡ w.reporter.sent
  same_sent = elim (alike gives fixed s v.source w.source p.0 q.0 p.1 q.1 p.2 q.2) [
    | inl same ↦ p.3 ∙ ap (sent_after r.lane.node r.sent) same ∙ sym q.3
    | inr other ↦ elim other [
      | inl more ↦
          let all = full_of v.reporter (message_of_report r.lane.node v.reporter.sent) p.1 (length p.0) more.0 v.outcome more.3 not_told p.4 in
          let longer = ap length more.2 ∙ length-append p.0 (more.0 ∷ more.1) in
          let few = q.5 (omega (arith, longer)) in
          absurd (omega (arith, all, longer, few, ap length p.3, ap length q.3, sent_long r.lane.node r.sent p.0, sent_long r.lane.node r.sent q.0))
      | inr more ↦
          let all = full_of w.reporter (message_of_report r.lane.node w.reporter.sent) q.1 (length q.0) more.0 w.outcome more.3 not_told' q.4 in
          let longer = ap length more.2 ∙ length-append q.0 (more.0 ∷ more.1) in
          let few = p.5 (omega (arith, longer)) in
          absurd (omega (arith, all, longer, few, ap length p.3, ap length q.3, sent_long r.lane.node r.sent p.0, sent_long r.lane.node r.sent q.0))
    ]
  ]

-- ---- All lanes.

open_at : (es : List LaneEnd) (i : ℕ) (d : LaneEnd) → i < length es → AreOpen es → (get_or es i d).closed ≡ false
open_at [] i d l h = absurd (omega (arith, l))
open_at (e ∷ es) zero d l h = h.0
open_at (e ∷ es) (suc i) d l h = open_at es i d (omega (arith, l)) h.1

same_got : (es es' : List LaneEnd) → length es ≡ length es' → ((i : ℕ) (d d' : LaneEnd) → i < length es → (get_or es i d).got ≡ (get_or es' i d').got) → map got_of es ≡ map got_of es'
same_got [] [] l h = refl
same_got [] (e ∷ es') l h = absurd (omega (arith, l))
same_got (e ∷ es) [] l h = absurd (omega (arith, l))
same_got (e ∷ es) (e' ∷ es') l h =
    let first : e.got ≡ e'.got = h zero e e' (omega arith) in
    let more = same_got es es' (omega (arith, l)) (λ i d d' b. h (suc i) d d' (omega (arith, b))) in
    λ j. first j ∷ more j

some_of : {A : Type 0} (xs : List A) (i : ℕ) → i < length xs → A
some_of [] i l = absurd (omega (arith, l))
some_of (x ∷ xs) i l = x

module _ {S : Type 0} (gives : S → Option Report → S → Type 0) (fixed : AnswersByFunction gives) (workers : List (S × Reporter)) (before : List LaneEnd) (lanes : HaveReporters workers before) (are_open : AreOpen before) where
  same_lanes : (es es' : List LaneEnd) → length es ≡ length workers → length es' ≡ length workers
      → ((i : ℕ) (w : S × Reporter) (b e : LaneEnd) → i < length workers → IsLaneTaken gives (get_or workers i w).0 (get_or workers i w).1 (get_or before i b) (get_or es i e).got)
      → ((i : ℕ) (w : S × Reporter) (b e : LaneEnd) → i < length workers → IsLaneTaken gives (get_or workers i w).0 (get_or workers i w).1 (get_or before i b) (get_or es' i e).got)
      → map got_of es ≡ map got_of es'
  same_lanes es es' l l' p q = same_got es es' (l ∙ sym l') (λ i d d' b.
      let here : i < length workers = omega (arith, b, l) in
      let in_before : i < length before = omega (arith, here, lanes.0) in
      let w = some_of workers i here in
      let t = p i w d d here in
      let u = q i w d d' here in
      let no : (told : (get_or before i d).closed ≡ true) → ⊥ = λ told. let z : false ≡ true = sym (open_at before i d in_before are_open) ∙ told in cc in
      t.2 ∙ same_sent gives fixed (get_or workers i w).0 (get_or workers i w).1 t.0 u.0 t.1.1 u.1.1 (λ told. no (t.3 told)) (λ told. no (u.3 told)) ∙ sym u.2)

-- ---- The promoted standbys.

module _ {S : Type 0} (gives : S → Option Report → S → Type 0) (start : Namespace) (base : ℕ) (workers : List (S × Reporter)) (before ends ends' : List LaneEnd) (x y : Shadow) (given given' : List Answer) (log : given ≡ given') (got : map got_of ends ≡ map got_of ends')
    (p : IsPromotedAtEnd gives start base given workers before ends x) (q : IsPromotedAtEnd gives start base given' workers before ends' y) where
  abbrev sent : Lanes
  sent = by_node (map got_of ends)

  q' : IsPromotedAtEnd gives start base given workers before ends' y
  q' = subst (λ g. IsPromotedAtEnd gives start base g workers before ends' y) (sym log) q

  same_namespace : x.namespace ≡ y.namespace
  same_namespace = p.stands.namespace ∙ sym q'.stands.namespace

  same_last : x.last ≡ y.last
  same_last = p.stands.last ∙ sym q'.stands.last

  same_tables : tables_of (standby_of x) ≡ tables_of (standby_of y)
  same_tables j = record {
    namespace = same_namespace j;
    replica = λ dn id.
        (p.picture.replicas dn id ∙ (λ k. picture_replica (same_namespace k) (items (by_node (got k))) dn id) ∙ sym (q'.picture.replicas dn id)) j;
    has_order = λ dn id.
        (p.picture.orders dn id ∙ (λ k. picture_order (same_namespace k) (items (by_node (got k))) dn id) ∙ sym (q'.picture.orders dn id)) j;
  }

pub drives_end_alike : {T S : Type 0} (asks : T → Answer → T → Type 0) (failures : T → ℕ) (gives : S → Option Report → S → Type 0) → DrivesEndAlike asks failures gives
drives_end_alike asks failures gives fixed fixed' past start base earlier old source workers at lanes are_open x y a b d e =
    let p = d.8 past start base earlier at in
    let q = e.8 past start base earlier at in
    let segments = same_segments asks fixed source d.1 e.1 d.9.0 e.9.0 (subst (λ rs. Asked asks source rs d.1) d.9.1 d.3) (subst (λ rs. Asked asks source rs e.1) e.9.1 e.3) in
    let answers : d.0 ≡ e.0 = d.9.1 ∙ ap (λ (ss : List Segment). map given ss ++ end ∷ []) segments ∙ sym e.9.1 in
    let log = ap (λ rs. earlier ++ rs) answers in
    let got = same_lanes gives fixed' workers old.ends lanes are_open d.2 e.2 p.lanes q.lanes p.taken q.taken in
    let tables = same_tables gives start base workers old.ends d.2 e.2 (shadow_with_past past x) (shadow_with_past past y) (earlier ++ d.0) (earlier ++ e.0) log got p q in
    let permille : x.permille ≡ y.permille = d.7.permille ∙ sym e.7.permille in
    let min : x.table.min ≡ y.table.min = d.7.min ∙ sym e.7.min in
    record {
      namespace = same_namespace gives start base workers old.ends d.2 e.2 (shadow_with_past past x) (shadow_with_past past y) (earlier ++ d.0) (earlier ++ e.0) log got p q;
      last = d.5 ∙ same_last gives start base workers old.ends d.2 e.2 (shadow_with_past past x) (shadow_with_past past y) (earlier ++ d.0) (earlier ++ e.0) log got p q ∙ sym e.5;
      replicas = λ dn id. ap (λ (t : Sequential). t.replica dn id) tables;
      orders = λ dn id. ap (λ (t : Sequential). t.has_order dn id) tables;
      counts = λ j. let t : Sequential = tables j in safe_mode_of (permille j) (min j) t.namespace t.replica;
    }
