-- What is left of a log, one transaction or one segment further.
use Rattle.std.proofs.Common.{◌≡◌, ℕ, ◌+◌, ◌<◌, ◌≤◌, List, [], ◌∷◌, ◌++◌, length, Result, Ok, Err, refl, sym, ap, ◌∙◌, arith}
use Rattle.std.specs.Prelude.{map, flat_map}
use Rattle.std.proofs.lemmas.Bool.{lt-ltb, le-ltb}
use Rattle.nn_types.specs.declared.tx.Tx.{Tx}
use Rattle.nn_types.specs.declared.edit_fault.EditFault.{EditFault}
use Rattle.nn_model.specs.Namespace.{Namespace}
use Rattle.nn_model.specs.Apply.{applied}
use Rattle.nn_model.specs.Log.{counted}
use Rattle.nn_model.proofs.Logs.{counted_append}
use Rattle.nn_segment.specs.Segment.{Segment, first_txid}
use Rattle.nn_segment.specs.LogEnd.{disorder, LogStop, LogEnd, go_on, end_of_txs, and_then, end_of_log}
use Rattle.nn_segment.specs.LogLeft.{LogLeft, end_of_left, txs_left}

and_then_on : (txid : ℕ) (r : Result Namespace EditFault) (next : Namespace → Result LogEnd LogStop) (rest : LogEnd → Result LogEnd LogStop)
    → and_then (go_on txid r next) rest ≡ go_on txid r (λ n. and_then (next n) rest)
and_then_on txid (Ok n) next rest = refl
and_then_on txid (Err fault) next rest = refl

module _ (last : ℕ) (n : Namespace) where
  -- from a namespace on: the transactions that count, and then the segments
  abbrev from : List Tx → List Segment → Result LogEnd LogStop
  from txs segments = and_then (end_of_txs last n txs) (λ end. end_of_log end.last end.namespace segments)

  one_first : (tx : Tx) (later : List Tx) → end_of_txs last n (tx ∷ later) ≡ go_on tx.txid (applied n tx.edit) (λ after. end_of_txs tx.txid after later)
  unfolding end_of_txs
  one_first tx later = refl

  none_first : end_of_txs last n [] ≡ Ok (record { last = last; namespace = n })
  unfolding end_of_txs
  none_first = refl

  no_more : end_of_log last n [] ≡ Ok (record { last = last; namespace = n })
  unfolding end_of_log
  no_more = refl

  gap : (s : Segment) (segments : List Segment) → last + 1 < first_txid s.txs → end_of_log last n (s ∷ segments) ≡ Err (record { cause = disorder; txid = last + 1 })
  unfolding end_of_log
  gap s segments l = rw (lt-ltb (last + 1) (first_txid s.txs) l) refl

  segment_on : (s : Segment) (segments : List Segment) → first_txid s.txs ≤ last + 1
      → end_of_log last n (s ∷ segments) ≡ end_of_left last n (record { txs = s.txs; segments = segments })
  unfolding end_of_log
  segment_on s segments l = rw (le-ltb (last + 1) (first_txid s.txs) l) refl

  -- nothing of the segment in hand counts any more
  spent : (old : LogLeft) → counted last old.txs ≡ [] → end_of_left last n old ≡ end_of_log last n old.segments
  spent old none = ap (λ txs. from txs old.segments) none ∙ ap (λ r. and_then r (λ end. end_of_log end.last end.namespace old.segments)) none_first

  pub one_taken : (old new : LogLeft) (tx : Tx) → counted last old.txs ≡ tx ∷ counted tx.txid new.txs → old.segments ≡ new.segments
      → end_of_left last n old ≡ go_on tx.txid (applied n tx.edit) (λ after. end_of_left tx.txid after new)
  one_taken old new tx is same =
      (λ j. from (is j) (same j))
      ∙ ap (λ r. and_then r (λ end. end_of_log end.last end.namespace new.segments)) (one_first tx (counted tx.txid new.txs))
      ∙ and_then_on tx.txid (applied n tx.edit) (λ after. end_of_txs tx.txid after (counted tx.txid new.txs)) (λ end. end_of_log end.last end.namespace new.segments)

  pub one_missing : (old : LogLeft) (s : Segment) (segments : List Segment) → counted last old.txs ≡ [] → old.segments ≡ s ∷ segments → last + 1 < first_txid s.txs
      → end_of_left last n old ≡ Err (record { cause = disorder; txid = last + 1 })
  one_missing old s segments none is l = spent old none ∙ ap (end_of_log last n) is ∙ gap s segments l

  pub segment_taken : (old : LogLeft) (s : Segment) (segments : List Segment) → counted last old.txs ≡ [] → old.segments ≡ s ∷ segments → first_txid s.txs ≤ last + 1
      → end_of_left last n old ≡ end_of_left last n (record { txs = s.txs; segments = segments })
  segment_taken old s segments none is l = spent old none ∙ ap (end_of_log last n) is ∙ segment_on s segments l

-- ---- the transactions that are left

-- those of segments
abbrev txs_of : List Segment → List Tx
txs_of segments = flat_map (λ segment. segment) (map (λ (s : Segment). s.txs) segments)

-- nothing of the segment in hand counts any more
spent_left : (last : ℕ) (old : LogLeft) → counted last old.txs ≡ [] → txs_left last old ≡ counted last (txs_of old.segments)
spent_left last old none =
    counted_append last old.txs (txs_of old.segments)
    ∙ ap (λ own. own ++ counted (last + length own) (txs_of old.segments)) none
    ∙ ap (λ k. counted k (txs_of old.segments)) (let q : last + 0 ≡ last = omega arith in q)

pub one_left : (last : ℕ) (old new : LogLeft) (tx : Tx) → tx.txid ≡ last + 1 → counted last old.txs ≡ tx ∷ counted tx.txid new.txs → old.segments ≡ new.segments
    → txs_left last old ≡ tx ∷ txs_left tx.txid new
one_left last old new tx next is same =
    let own = counted tx.txid new.txs in
    let place : last + length (tx ∷ own) ≡ tx.txid + length own = omega (arith, next) in
    counted_append last old.txs (txs_of old.segments)
    ∙ (λ j. is j ++ counted (last + length (is j)) (txs_of (same j)))
    ∙ ap (λ k. tx ∷ (own ++ counted k (txs_of new.segments))) place
    ∙ ap (λ txs. tx ∷ txs) (sym (counted_append tx.txid new.txs (txs_of new.segments)))

pub segment_left : (last : ℕ) (old : LogLeft) (s : Segment) (segments : List Segment) → counted last old.txs ≡ [] → old.segments ≡ s ∷ segments
    → txs_left last old ≡ txs_left last (record { txs = s.txs; segments = segments })
segment_left last old s segments none is = spent_left last old none ∙ ap (λ all. counted last (txs_of all)) is
