-- How a walk over segments goes through the log.
use Rattle.std.proofs.Common.{◌≡◌, ℕ, zero, suc, ◌+◌, ◌-◌, ◌<◌, ◌≤◌, Bool, cond, List, [], ◌∷◌, ◌++◌, length, drop, Ok, Err, refl, ap, ◌∙◌, subst, arith, append_assoc, append-nil, length-append}
use Rattle.std.proofs.lemmas.Bool.{eq-eqb, ne_eqb}
use Rattle.nn_types.specs.declared.tx.Tx.{Tx}
use Rattle.nn_model.specs.Log.{counted, log_of, CountsUp}
use Rattle.nn_model.proofs.Logs.{one_more_segment, gap_adds_nothing, overlap_adds_the_rest}
use Rattle.nn_segment.specs.Segment.{first_txid, last_txid}
use Rattle.nn_segment.specs.Source.{Answer, given, end}
use Rattle.nn_segment.specs.Walk.{segments_in, OldIsPassedOver, NextTxIsTaken, OldSegmentAddsNothing, HighSegmentAddsNothing, SegmentAddsTheRest, SegmentBehindTheRest, EndAddsNothing, FaultAddsNothing}
use Rattle.nn_segment.specs.declared.source.Item.TheVariants as item

-- ---- transaction by transaction

abbrev next : ℕ → Tx → List Tx → Bool → List Tx
next last tx txs counts = cond counts (tx ∷ counted tx.txid txs) (counted last txs)

pub passed_over : OldIsPassedOver
passed_over last tx txs old = ap (next last tx txs) (ne_eqb tx.txid (last + 1) (λ e. omega (arith, old, e)))

pub next_taken : NextTxIsTaken
next_taken last tx txs is = ap (next last tx txs) (eq-eqb tx.txid (last + 1) is) ∙ ap (λ n. tx ∷ counted n txs) is

-- ---- segment by segment

-- transactions that count up from a txid no higher than the last: those up to it are passed over
rest_of : (k last before : ℕ) (txs : List Tx) → CountsUp before txs → before + k ≡ last → (counted last txs ≡ drop k txs) × CountsUp last (drop k txs)
rest_of zero last before txs up e =
    (overlap_adds_the_rest last before [] txs up e, subst (λ n. CountsUp n txs) (let same : before ≡ last = omega (arith, e) in same) up)
rest_of (suc k) last before [] up e = (refl, tt)
rest_of (suc k) last before (tx ∷ txs) up e =
    let later = rest_of k last tx.txid txs up.1 (omega (arith, e, up.0)) in
    (passed_over last tx txs (omega (arith, e, up.0)) ∙ later.0, later.1)

pub adds_the_rest : SegmentAddsTheRest
adds_the_rest last s is low =
    rest_of (last + 1 - first_txid s.txs) last (first_txid s.txs - 1) s.txs is.counts_up (omega (arith, is.named.from_one, low))

pub high_adds_nothing : HighSegmentAddsNothing
high_adds_nothing last s is high = gap_adds_nothing last (first_txid s.txs - 1) s.txs (omega arith) is.counts_up

below_last : (before : ℕ) (txs : List Tx) → CountsUp before txs → 0 < length txs → before < last_txid txs
below_last before [] up some = absurd (omega arith)
below_last before (tx ∷ []) up some = omega (arith, up.0)
below_last before (tx ∷ y ∷ txs) up some = omega (arith, up.0, below_last tx.txid (y ∷ txs) up.1 (omega arith))

all_old : (last before : ℕ) (txs : List Tx) → CountsUp before txs → last_txid txs ≤ last → counted last txs ≡ []
all_old last before [] up old = refl
all_old last before (tx ∷ []) up old = passed_over last tx [] old
all_old last before (tx ∷ y ∷ txs) up old =
    passed_over last tx (y ∷ txs) (omega (arith, old, below_last tx.txid (y ∷ txs) up.1 (omega arith))) ∙ all_old last tx.txid (y ∷ txs) up.1 old

pub old_adds_nothing : OldSegmentAddsNothing
old_adds_nothing last s is old = all_old last (first_txid s.txs - 1) s.txs is.counts_up old

-- ---- answer by answer

segments-append : (answers more : List Answer) → segments_in (answers ++ more) ≡ segments_in answers ++ segments_in more
segments-append [] more = refl
segments-append (Ok (item.Segment s) ∷ answers) more = ap (λ ss. s.txs ∷ ss) (segments-append answers more)
segments-append (Ok item.End ∷ answers) more = segments-append answers more
segments-append (Err fault ∷ answers) more = segments-append answers more

pub behind_the_rest : SegmentBehindTheRest
behind_the_rest last answers applied rest s is =
    let size : last + length (applied ++ rest) ≡ last + length applied + length rest = omega (arith, length-append applied rest) in
    ap (log_of last) (segments-append answers (given s ∷ []))
    ∙ one_more_segment last (segments_in answers) s.txs
    ∙ ap (λ txs. txs ++ counted (last + length txs) s.txs) is
    ∙ ap (λ n. applied ++ rest ++ counted n s.txs) size
    ∙ append_assoc applied rest (counted (last + length applied + length rest) s.txs)

pub end_adds_nothing : EndAddsNothing
end_adds_nothing last answers = ap (log_of last) (segments-append answers (end ∷ []) ∙ append-nil (segments_in answers))

pub fault_adds_nothing : FaultAddsNothing
fault_adds_nothing last answers fault = ap (log_of last) (segments-append answers (Err fault ∷ []) ∙ append-nil (segments_in answers))
