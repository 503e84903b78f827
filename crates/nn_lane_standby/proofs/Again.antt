-- Segments that are read again from further on end where they ended.
use Rattle.std.proofs.Common.{inl, inr, ◌≡◌, ℕ, zero, suc, ◌+◌, ◌-◌, ◌≤◌, ◌<◌, List, [], ◌∷◌, ◌++◌, length, drop, Ok, Err, refl, sym, ap, subst, ◌∙◌, arith, append-nil, length-append}
use Rattle.std.specs.Prelude.{◌⊎◌, flat_map}
use Rattle.std.specs.List.{AllByRecursion}
use Rattle.std.proofs.Math.Seq.{drop-append_seam}
use Rattle.std.proofs.lemmas.Bool.{cases_lt}
use Rattle.std.proofs.lemmas.List.{drop_all}
use Rattle.nn_types.specs.declared.tx.Tx.{Tx}
use Rattle.nn_types.specs.declared.edit_fault.EditFault.{EditFault}
use Rattle.nn_model.specs.Namespace.{Namespace}
use Rattle.nn_model.specs.Apply.{effect, applied}
use Rattle.nn_model.specs.Log.{counted, namespace_after, IsLog, CountsUp}
use Rattle.nn_model.specs.Status.{status_of}
use Rattle.nn_model.specs.Laws.{in_profile}
use Rattle.nn_types.specs.declared.profile.Profile.TheVariants.{One}
use Rattle.nn_model.proofs.Logs.{counted_append, namespace_of_appended, appended_log}
use Rattle.nn_segment.specs.Segment.{Segment, IsSegment, first_txid}
use Rattle.nn_segment.specs.Source.{Answer}
use Rattle.nn_segment.specs.Walk.{segments_in}
use Rattle.nn_segment.specs.declared.source.Item.TheVariants as item
use Rattle.nn_segment.specs.LogEnd.{LogStop, LogEnd, refused, disorder, go_on, end_of_txs, and_then, end_of_log, end_behind, given_in}
use Rattle.nn_segment.proofs.Walks.{passed_over, next_taken}
use Rattle.nn_image.proofs.Round.{reads_back, reads_old_back}
use Rattle.nn_lane_standby.specs.Tailing.{log_cause}
use Rattle.nn_lane_standby.specs.RestartLaws.{RestartGoesOn, ReadsAgain, StopsAgain, KeepsStatus, KeepsOldStatus}
use Rattle.nn_lane_standby.proofs.LogEnds.{no_more, behind_none, behind_gap, behind_segment, behind_applied}

-- ---- what counts where some of it was counted before

counted_on : (txs : List Tx) (k last before : ℕ) → CountsUp before txs → before ≤ last → counted (last + k) txs ≡ drop k (counted last txs)
counted_on txs zero last before up low = ap (λ n. counted n txs) (omega arith)
counted_on [] (suc k) last before up low = refl
counted_on (tx ∷ txs) (suc k) last before up low =
    elim (cases_lt before last) [
      | inl less ↦
          passed_over (last + suc k) tx txs (omega (arith, less, up.0))
          ∙ counted_on txs (suc k) last tx.txid up.1 (omega (arith, less, up.0))
          ∙ ap (drop (suc k)) (sym (passed_over last tx txs (omega (arith, less, up.0))))
      | inr same ↦
          let next : last + suc k ≡ (last + 1) + k = omega arith in
          passed_over (last + suc k) tx txs (omega (arith, low, up.0))
          ∙ ap (λ n. counted n txs) next
          ∙ counted_on txs k (last + 1) tx.txid up.1 (omega (arith, low, up.0))
          ∙ ap (drop (suc k)) (sym (next_taken last tx txs (omega (arith, low, same, up.0))))
    ]

-- ---- one list, cut in two ways

abbrev Cut : {A : Type 0} → List A → List A → List A → List A → Type 0
Cut {A} prefix back first rest =
    ((more : List A) × (first ≡ prefix ++ more) × (back ≡ more ++ rest)) ⊎ ((left : List A) × (prefix ≡ first ++ left) × (rest ≡ left ++ back))

cut : {A : Type 0} (prefix back first rest : List A) → prefix ++ back ≡ first ++ rest → Cut prefix back first rest
cut [] back first rest e = inl (first, refl, e)
cut (x ∷ prefix) back [] rest e = inr (x ∷ prefix, refl, sym e)
cut (x ∷ prefix) back (y ∷ first) rest e =
    let head : x ≡ y = cc in
    let tail : prefix ++ back ≡ first ++ rest = cc in
    elim (cut prefix back first rest tail) [
      | inl h ↦ inl (h.0, (λ j. sym head j ∷ h.1 j), h.2)
      | inr h ↦ inr (h.0, (λ j. head j ∷ h.1 j), h.2)
    ]

-- ---- logs, cut

log_prefix : (n : Namespace) (last : ℕ) (prefix back : List Tx) → IsLog n last (prefix ++ back) → IsLog n last prefix
log_prefix n last [] back l = tt
log_prefix n last (t ∷ prefix) back l = (l.0, l.1, log_prefix (effect n t.edit) t.txid prefix back l.2)

log_back : (n : Namespace) (last : ℕ) (prefix back : List Tx) → IsLog n last (prefix ++ back) → IsLog (namespace_after n prefix) (last + length prefix) back
log_back n last [] back l = let same : last ≡ last + 0 = omega arith in subst (λ k. IsLog n k back) same l
log_back n last (t ∷ prefix) back l =
    let same : t.txid + length prefix ≡ last + length (t ∷ prefix) = omega (arith, l.0) in
    subst (λ k. IsLog (namespace_after (effect n t.edit) prefix) k back) same (log_back (effect n t.edit) t.txid prefix back l.2)

behind_log : (n : Namespace) (last : ℕ) (prefix back : List Tx) (later : List Segment) → IsLog n last prefix →
    end_behind last n (prefix ++ back) later ≡ end_behind (last + length prefix) (namespace_after n prefix) back later
behind_log n last [] back later l = let same : last ≡ last + 0 = omega arith in ap (λ k. end_behind k n back later) same
behind_log n last (t ∷ prefix) back later l =
    let same : t.txid + length prefix ≡ last + length (t ∷ prefix) = omega (arith, l.0) in
    behind_applied last n t (prefix ++ back) later l.1
    ∙ behind_log (effect n t.edit) t.txid prefix back later l.2
    ∙ ap (λ k. end_behind k (namespace_after (effect n t.edit) prefix) back later) same

-- ---- transactions in hand do not stop at a gap

refused_by : (last : ℕ) (n : Namespace) (txs : List Tx) (s : LogStop) → end_of_txs last n txs ≡ Err s → (fault : EditFault) × (s.cause ≡ refused fault)
unfolding end_of_txs
refused_by last n [] s e = absurd (cc)
refused_by last n (tx ∷ txs) s e =
    elim (applied n tx.edit) as (λ r. go_on tx.txid r (λ next. end_of_txs tx.txid next txs) ≡ Err s → (fault : EditFault) × (s.cause ≡ refused fault)) [
      | Ok next ↦ λ h. refused_by tx.txid next txs s h
      | Err fault ↦ λ h. let is : record { cause = refused fault; txid = tx.txid } ≡ s = cc in (fault, sym (ap (λ (z : LogStop). z.cause) is))
    ] e

no_gap : (last : ℕ) (n : Namespace) (txs : List Tx) (s : LogStop) → s.cause ≡ disorder → end_behind last n txs [] ≡ Err s → ⊥
no_gap last n txs s gap e =
    elim (end_of_txs last n txs) as (λ r. end_of_txs last n txs ≡ r → and_then r (λ (z : LogEnd). end_of_log z.last z.namespace []) ≡ Err s → ⊥) [
      | Ok z ↦ λ is h. let more = no_more z.last z.namespace in cc (more, h)
      | Err other ↦ λ is h.
          let w = refused_by last n txs other is in
          let same : other ≡ s = cc in
          let both : refused w.0 ≡ disorder = sym w.1 ∙ ap (λ (z : LogStop). z.cause) same ∙ gap in cc
    ] refl e

-- ---- segments

abbrev all_txs : List Segment → List Tx
all_txs [] = []
all_txs (s ∷ segments) = s.txs ++ all_txs segments

txs_given : (answers : List Answer) → all_txs (given_in answers) ≡ flat_map (λ txs. txs) (segments_in answers)
txs_given [] = refl
txs_given (Ok (item.Segment s) ∷ answers) = ap (λ txs. s.txs ++ txs) (txs_given answers)
txs_given (Ok item.End ∷ answers) = txs_given answers
txs_given (Err fault ∷ answers) = txs_given answers

-- the log of these segments was read as `txs` and the rest, and where it has a gap, that comes after `txs`
pub record Read (segments : List Segment) (last : ℕ) (n : Namespace) (txs rest : List Tx) (now : ℕ) (after : Namespace) : Type 0 where
  pub read : counted last (all_txs segments) ≡ txs ++ rest
  pub log : IsLog n last txs
  pub at : now ≡ last + length txs
  pub in_it : after ≡ namespace_after n txs
  pub gap : (s : LogStop) → end_of_log last n (segments ++ []) ≡ Err s → s.cause ≡ disorder → last + length txs < s.txid

none_of : (txs : List Tx) → length txs ≤ 0 → txs ≡ []
none_of [] few = refl
none_of (tx ∷ txs) few = absurd (omega (arith, few))

again : (segments : List Segment) (last : ℕ) (n : Namespace) (txs rest : List Tx) (now : ℕ) (after : Namespace) → AllByRecursion IsSegment segments
    → Read segments last n txs rest now after → (later : List Segment) → end_of_log now after (segments ++ later) ≡ end_of_log last n (segments ++ later)
again [] last n [] rest now after are r later = let same : now ≡ last = omega (arith, r.at) in (λ j. end_of_log (same j) (r.in_it j) later)
again [] last n (tx ∷ txs) rest now after are r later = let e = r.read in absurd (cc)
again (s ∷ segments) last n txs rest now after are r later =
    elim (cases_lt (last + 1) (first_txid s.txs)) [
      | inl high ↦
          let gap = r.gap (record { cause = disorder; txid = last + 1 }) (behind_gap last n s (segments ++ []) high) refl in
          let none : txs ≡ [] = none_of txs (omega (arith, gap)) in
          let same : now ≡ last = omega (arith, r.at, ap length none) in
          let is : after ≡ n = r.in_it ∙ ap (namespace_after n) none in (λ j. end_of_log (same j) (is j) (s ∷ (segments ++ later)))
      | inr low ↦
          let prefix = counted last s.txs in
          let back = counted (last + length prefix) (all_txs segments) in
          let on : counted now s.txs ≡ drop (length txs) prefix =
          ap (λ k. counted k s.txs) r.at ∙ counted_on s.txs (length txs) last (first_txid s.txs - 1) are.0.counts_up (omega (arith, low)) in
          let here : (later : List Segment) → end_of_log last n (s ∷ (segments ++ later)) ≡ end_behind last n prefix (segments ++ later) = λ later. behind_segment last n s (segments ++ later) low in
          let there : end_of_log now after (s ∷ (segments ++ later)) ≡ end_behind now after (counted now s.txs) (segments ++ later) =
          behind_segment now after s (segments ++ later) (omega (arith, low, r.at)) in
          elim (cut prefix back txs rest (sym (counted_append last s.txs (all_txs segments)) ∙ r.read)) [
            | inl h ↦
                let log : IsLog n last (prefix ++ h.0) = subst (IsLog n last) h.1 r.log in
                let n1 = namespace_after n prefix in
                let last1 = last + length prefix in
                let passed : counted now s.txs ≡ [] = on ∙ drop_all (length txs) prefix (omega (arith, ap length h.1, length-append prefix h.0)) in
                let over : (later : List Segment) → end_of_log last n (s ∷ (segments ++ later)) ≡ end_of_log last1 n1 (segments ++ later) = λ later.
                here later ∙ ap (λ xs. end_behind last n xs (segments ++ later)) (sym (append-nil prefix))
                ∙ behind_log n last prefix [] (segments ++ later) (log_prefix n last prefix h.0 log) ∙ behind_none last1 n1 (segments ++ later) in
                there ∙ ap (λ xs. end_behind now after xs (segments ++ later)) passed ∙ behind_none now after (segments ++ later)
                ∙ again segments last1 n1 h.0 rest now after are.1 (record {
                  read = h.2;
                  log = log_back n last prefix h.0 log;
                  at = omega (arith, r.at, ap length h.1, length-append prefix h.0);
                  in_it = r.in_it ∙ ap (namespace_after n) h.1 ∙ namespace_of_appended n prefix h.0;
                  gap = λ z stops is.
                      let low = r.gap z (over [] ∙ stops) is in omega (arith, low, ap length h.1, length-append prefix h.0);
                }) later
                ∙ sym (over later)
            | inr h ↦
                let left : counted now s.txs ≡ h.0 = on ∙ ap (drop (length txs)) h.1 ∙ drop-append_seam txs h.0 in
                there ∙ ap (λ xs. end_behind now after xs (segments ++ later)) left
                ∙ (λ j. end_behind (r.at j) (r.in_it j) h.0 (segments ++ later))
                ∙ sym (behind_log n last txs h.0 (segments ++ later) r.log)
                ∙ ap (λ xs. end_behind last n xs (segments ++ later)) (sym h.1)
                ∙ sym (here later)
          ]
    ]

pub reads_again : ReadsAgain
reads_again start base given x s going are later =
    again (given_in given) base start s.txs x.rest x.shadow.last x.shadow.namespace are (record {
      read = ap (counted base) (txs_given given) ∙ s.log;
      log = s.shadow.log;
      at = s.shadow.last;
      in_it = s.shadow.namespace;
      gap = λ z stops is. absurd (no_gap x.shadow.last x.shadow.namespace x.rest z is (sym (s.goes_on going []) ∙ stops));
    }) later

pub stops_again : StopsAgain
stops_again start base given x stop s stopped next are =
    let stops = s.stops stop stopped in λ later.
    again (given_in given) base start s.txs x.rest x.shadow.last x.shadow.namespace are (record {
      read = ap (counted base) (txs_given given) ∙ s.log;
      log = s.shadow.log;
      at = s.shadow.last;
      in_it = s.shadow.namespace;
      gap = λ z here is.
          let both : Err z ≡ Err (record { cause = log_cause stop.cause; txid = stop.txid }) = sym here ∙ stops [] in
          let same : z ≡ record { cause = log_cause stop.cause; txid = stop.txid } = cc in
          let txid = ap (λ (q : LogStop). q.txid) same in omega (arith, txid, next, s.shadow.last);
    }) later
    ∙ stops later

pub goes_on : RestartGoesOn
goes_on start base given more x y s t =
    let log : IsLog (namespace_after start s.txs) (base + length s.txs) t.txs =
    subst (λ k. IsLog (namespace_after start s.txs) k t.txs) s.shadow.last (subst (λ (n : Namespace). IsLog n x.shadow.last t.txs) s.shadow.namespace t.shadow.log) in (
      appended_log start base s.txs t.txs s.shadow.log log,
      t.shadow.namespace ∙ ap (λ (n : Namespace). namespace_after n t.txs) s.shadow.namespace ∙ sym (namespace_of_appended start s.txs t.txs),
      omega (arith, t.shadow.last, s.shadow.last, length-append s.txs t.txs),
    )

-- ---- the namespace of an image

pub keeps_status : KeepsStatus
keeps_status n txid m well utf8 paths few small read id =
    let both : Ok (n, txid) ≡ Ok m = sym (reads_back n txid well utf8 paths few small) ∙ read in
    let same : (n, txid) ≡ m = cc in
    sym (ap (λ (p : Namespace × ℕ). status_of p.0 id) same)

pub keeps_old_status : KeepsOldStatus
keeps_old_status n txid m well utf8 paths few small read id =
    let both : Ok (in_profile One n, txid) ≡ Ok m = sym (reads_old_back n txid well utf8 paths few small) ∙ read in
    let same : (in_profile One n, txid) ≡ m = cc in
    sym (ap (λ (p : Namespace × ℕ). status_of p.0 id) same)
