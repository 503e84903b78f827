-- How a log is read: transactions that are passed over, what comes of asking a source once, and what comes next.
use Rattle.std.specs.Prelude.{◌≡◌, ◌≢◌, ℕ, ◌+◌, ◌<◌, ◌≤◌, Bool, false, not, ◌==◌, List, [], ◌∷◌, ◌++◌, map, Result, Ok, Err}
use Rattle.nn_types.specs.declared.tx.Tx.{Tx}
use Rattle.nn_model.specs.Log.{counted, CountsUp}
use Rattle.nn_segment.specs.Segment.{Segment, first_txid}
use Rattle.nn_segment.specs.Source.{Answer, Asked, given, end}
use Rattle.nn_segment.specs.LogEnd.{given_in}
use Rattle.nn_segment.specs.LogLeft.{LogLeft, ComesNext, IsMissing, LeavesSame}
use Rattle.nn_segment.specs.declared.fault.SourceFault.{SourceFault}
use Rattle.nn_segment.specs.declared.cursor.TakenUp.{TakenUp}
use Rattle.nn_segment.specs.declared.cursor.TakenUp.TheVariants as taken_up
use Rattle.nn_segment.specs.declared.cursor.Next.{Next}
use Rattle.nn_segment.specs.declared.cursor.Next.TheVariants as next

-- whether there is a first transaction, and it is not the next one after this txid
abbrev pub is_passed : ℕ → List Tx → Bool
is_passed last [] = false
is_passed last (tx ∷ txs) = not (tx.txid == last + 1)

-- transactions that do not count were passed over, up to one that does
pub record PassesOver (last : ℕ) (old new : List Tx) : Type 0 where
  pub same : counted last old ≡ counted last new
  pub first : is_passed last new ≡ false
  pub counts_up : (before : ℕ) → CountsUp before old → (from : ℕ) × CountsUp from new

-- A source was asked once: of a segment that begins no higher than the next txid what counts is in hand then, where anything does
abbrev pub TakesUp : ℕ → List Tx → Answer → List Tx → Result TakenUp SourceFault → Type 0
TakesUp last old answer new (Ok taken_up.New) = (s : Segment) × (answer ≡ given s) × (first_txid s.txs ≤ last + 1) × (counted last s.txs ≢ []) × (new ≡ counted last s.txs)
TakesUp last old answer new (Ok taken_up.Old) = (s : Segment) × (answer ≡ given s) × (first_txid s.txs ≤ last + 1) × (counted last s.txs ≡ []) × (new ≡ old)
TakesUp last old answer new (Ok taken_up.Disorder) = (s : Segment) × (answer ≡ given s) × (last + 1 < first_txid s.txs) × (counted last s.txs ≡ []) × (new ≡ old)
TakesUp last old answer new (Ok taken_up.End) = (answer ≡ end) × (new ≡ old)
TakesUp last old answer new (Err fault) = (answer ≡ Err fault) × (new ≡ old)

-- what is in hand, then the segments among these answers, and then those that come later
abbrev pub log_left : List Tx → List Answer → List Segment → LogLeft
log_left txs answers later = record { txs = txs; segments = given_in answers ++ later }

abbrev pub ComesAfter : ℕ → LogLeft → Result Next SourceFault → LogLeft → Type 0
ComesAfter last old (Ok (next.Transaction tx)) new = ComesNext last old tx new
ComesAfter last old (Ok next.Disorder) new = IsMissing last old
ComesAfter last old (Ok next.Over) new = LeavesSame last old new
ComesAfter last old (Err fault) new = LeavesSame last old new

-- the answers were segments; then the end where the log is over, and the fault where one is told
abbrev pub AnswersSo : List Answer → Result Next SourceFault → Type 0
AnswersSo answers (Ok (next.Transaction tx)) = (segments : List Segment) × (answers ≡ map given segments)
AnswersSo answers (Ok next.Disorder) = (segments : List Segment) × (answers ≡ map given segments)
AnswersSo answers (Ok next.Over) = (segments : List Segment) × (answers ≡ map given segments ++ end ∷ [])
AnswersSo answers (Err fault) = (segments : List Segment) × (answers ≡ map given segments ++ Err fault ∷ [])

-- a log was read on by answers of its source, whatever segments come later
abbrev pub ReadsOn : {S : Type 0} → (S → Answer → S → Type 0) → ℕ → S → List Tx → S → List Tx → Result Next SourceFault → Type 0
ReadsOn gives last s old t new result =
    (answers : List Answer) × Asked gives s answers t × ((later : List Segment) → ComesAfter last (log_left old answers later) result (log_left new [] later))
    × AnswersSo answers result
