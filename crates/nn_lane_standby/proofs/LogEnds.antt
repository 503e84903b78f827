-- Where the log goes on from a standby, and where it stops.
use Rattle.std.proofs.Common.{◌≡◌, ℕ, ◌+◌, ◌<◌, ◌≤◌, List, [], ◌∷◌, ◌++◌, Option, Some, None, Ok, Err, refl, sym, ap, ◌∙◌, subst}
use Rattle.std.proofs.lemmas.Bool.{lt-ltb, le-ltb}
use Rattle.std.proofs.lemmas.List.{append-nil}
use Rattle.nn_types.specs.declared.tx.Tx.{Tx}
use Rattle.nn_types.specs.declared.edit_fault.EditFault.{EditFault}
use Rattle.nn_model.specs.Namespace.{Namespace}
use Rattle.nn_model.specs.Apply.{refusal, effect, applied, outcome}
use Rattle.nn_model.specs.Log.{counted as news, namespace_after, IsLog}
use Rattle.nn_shadow.specs.declared.fault.Stop.{Stop}
use Rattle.nn_segment.specs.Segment.{Segment, first_txid}
use Rattle.nn_segment.specs.Source.{Answer}
use Rattle.nn_segment.specs.LogEnd.{refused, disorder, go_on, end_of_txs, and_then, end_of_log, end_behind, given_in}
use Rattle.nn_lane_standby.specs.Tailing.{Standby, way_on, StopsLog}

module _ (last : ℕ) (n : Namespace) where
  pub no_more : end_of_log last n [] ≡ Ok (record { last = last; namespace = n })
  unfolding end_of_log
  no_more = refl

  -- nothing is in hand
  pub behind_none : (later : List Segment) → end_behind last n [] later ≡ end_of_log last n later
  unfolding end_of_txs
  behind_none later = refl

  pub behind_gap : (s : Segment) (later : List Segment) → last + 1 < first_txid s.txs → end_of_log last n (s ∷ later) ≡ Err (record { cause = disorder; txid = last + 1 })
  unfolding end_of_log
  behind_gap s later l = rw (lt-ltb (last + 1) (first_txid s.txs) l) refl

  pub behind_segment : (s : Segment) (later : List Segment) → first_txid s.txs ≤ last + 1 → end_of_log last n (s ∷ later) ≡ end_behind last n (news last s.txs) later
  unfolding end_of_log
  behind_segment s later l = rw (le-ltb (last + 1) (first_txid s.txs) l) refl

  first_of : (tx : Tx) (rest : List Tx) → end_of_txs last n (tx ∷ rest) ≡ go_on tx.txid (applied n tx.edit) (λ after. end_of_txs tx.txid after rest)
  unfolding end_of_txs
  first_of tx rest = refl

  first_by : (tx : Tx) (rest : List Tx) (later : List Segment) (o : Option EditFault) → refusal n tx.edit ≡ o
      → end_behind last n (tx ∷ rest) later ≡ and_then (go_on tx.txid (outcome o (effect n tx.edit)) (λ after. end_of_txs tx.txid after rest)) (λ e. end_of_log e.last e.namespace later)
  first_by tx rest later o q =
      ap (λ r. and_then r (λ e. end_of_log e.last e.namespace later)) (first_of tx rest)
      ∙ ap (λ z. and_then (go_on tx.txid (outcome z (effect n tx.edit)) (λ after. end_of_txs tx.txid after rest)) (λ e. end_of_log e.last e.namespace later)) q

  pub behind_applied : (tx : Tx) (rest : List Tx) (later : List Segment) → refusal n tx.edit ≡ None → end_behind last n (tx ∷ rest) later ≡ end_behind tx.txid (effect n tx.edit) rest later
  behind_applied tx rest later q = first_by tx rest later None q

  pub behind_refused : (tx : Tx) (rest : List Tx) (later : List Segment) (f : EditFault) → refusal n tx.edit ≡ Some f → end_behind last n (tx ∷ rest) later ≡ Err (record { cause = refused f; txid = tx.txid })
  behind_refused tx rest later f q = first_by tx rest later (Some f) q

-- ---- what is given

-- no answer more
pub stops_same : (start : Namespace) (base : ℕ) (answers : List Answer) (m : Stop) → StopsLog start base answers m → StopsLog start base (answers ++ []) m
stops_same start base answers m h = subst (λ g. StopsLog start base g m) (sym (append-nil answers)) h

pub same_given : (start : Namespace) (base : ℕ) (answers : List Answer) (later : List Segment) → end_of_log base start (given_in (answers ++ []) ++ later) ≡ end_of_log base start (given_in answers ++ later)
same_given start base answers later = ap (λ g. end_of_log base start (given_in g ++ later)) (append-nil answers)

-- ---- the way on

pub same_way : (x y : Standby) (later : List Segment) → y.shadow.last ≡ x.shadow.last → y.shadow.namespace ≡ x.shadow.namespace → y.rest ≡ x.rest → way_on x later ≡ way_on y later
same_way x y later l n r = (λ j. end_behind (sym l j) (sym n j) (sym r j) later)

-- a transaction that stands in a log was not refused
pub not_refused : (start : Namespace) (base : ℕ) (txs : List Tx) (tx : Tx) → IsLog start base (txs ++ tx ∷ []) → refusal (namespace_after start txs) tx.edit ≡ None
not_refused start base [] tx h = h.1
not_refused start base (t ∷ txs) tx h = not_refused (effect start t.edit) t.txid txs tx h.2
