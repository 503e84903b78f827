-- Logs, and the log of segments that overlap.
use Rattle.std.proofs.Common.{◌≡◌, ℕ, ◌+◌, Bool, cond, List, [], ◌∷◌, ◌++◌, length, refl, sym, ap, subst, ◌∙◌, inl, inr, arith, append-nil, append_assoc}
use Rattle.std.specs.Prelude.{flat_map}
use Rattle.std.proofs.lemmas.Bool.{eq-eqb, ne_eqb, cases_eq}
use Rattle.nn_types.specs.declared.tx.Tx.{Tx}
use Rattle.nn_model.specs.Apply.{effect}
use Rattle.nn_model.specs.Log.{namespace_after, IsLog, unless_refused, run, counted, CountsUp}
use Rattle.nn_model.specs.Laws.{LogKeepsWellFormed, LogKeepsBlocks, LogKeepsDue, NamespaceOfAppended, AppendedLog, LogRuns, LogCountsUp, OneMoreSegment}
use Rattle.nn_model.specs.Laws.{OldAddsNothing, GapAddsNothing, OverlapAddsTheRest}
use Rattle.nn_model.proofs.Dues.{due_stays}
use Rattle.nn_model.proofs.Wells.{blocks_stay_well_formed}
use Rattle.nn_model.proofs.Trees.{stays_well_formed}

-- ---- along a log

pub log_keeps_well_formed : LogKeepsWellFormed
log_keeps_well_formed n last [] are log w = w
log_keeps_well_formed n last (tx ∷ txs) are log w =
    log_keeps_well_formed (effect n tx.edit) tx.txid txs are.1 log.2 (stays_well_formed n tx.edit are.0 log.1 w)

pub log_keeps_blocks : LogKeepsBlocks
log_keeps_blocks n last [] are log w = w
log_keeps_blocks n last (tx ∷ txs) are log w =
    log_keeps_blocks (effect n tx.edit) tx.txid txs are.1 log.2 (blocks_stay_well_formed n tx.edit are.0 log.1 w)

pub log_keeps_due : LogKeepsDue
log_keeps_due n last [] are log w id stamp due = due
log_keeps_due n last (tx ∷ txs) are log w id stamp due =
    log_keeps_due (effect n tx.edit) tx.txid txs are.1 log.2 (blocks_stay_well_formed n tx.edit are.0 log.1 w) id stamp
    (due_stays n tx.edit w log.1 id stamp due)

pub namespace_of_appended : NamespaceOfAppended
namespace_of_appended n [] more = refl
namespace_of_appended n (tx ∷ txs) more = namespace_of_appended (effect n tx.edit) txs more

pub appended_log : AppendedLog
appended_log n last [] more first rest = subst (λ k. IsLog n k more) (omega arith) rest
appended_log n last (tx ∷ txs) more first rest = (
  first.0,
  first.1,
  appended_log (effect n tx.edit) tx.txid txs more first.2 (subst (λ k. IsLog (namespace_after n (tx ∷ txs)) k more) (omega (arith, first.0)) rest),
)

pub log_runs : LogRuns
log_runs n last [] log = refl
log_runs n last (tx ∷ txs) log = ap (λ o. unless_refused o tx.txid (run (effect n tx.edit) txs)) log.1 ∙ log_runs (effect n tx.edit) tx.txid txs log.2

-- ---- the log of segments

abbrev next : ℕ → Tx → List Tx → Bool → List Tx
next last tx txs counts = cond counts (tx ∷ counted tx.txid txs) (counted last txs)

counts : (last : ℕ) (tx : Tx) (txs : List Tx) → tx.txid ≡ last + 1 → counted last (tx ∷ txs) ≡ tx ∷ counted tx.txid txs
counts last tx txs is = ap (next last tx txs) (eq-eqb _ _ is)

passes : (last : ℕ) (tx : Tx) (txs : List Tx) → (tx.txid ≡ last + 1 → ⊥) → counted last (tx ∷ txs) ≡ counted last txs
passes last tx txs isnt = ap (next last tx txs) (ne_eqb _ _ isnt)

pub counts_up : (last : ℕ) (txs : List Tx) → CountsUp last (counted last txs)
counts_up last [] = tt
counts_up last (tx ∷ txs) =
    elim (cases_eq tx.txid (last + 1)) [
      | inl is ↦ subst (CountsUp last) (sym (counts last tx txs is)) (is, counts_up tx.txid txs)
      | inr isnt ↦ subst (CountsUp last) (sym (passes last tx txs isnt)) (counts_up last txs)
    ]

pub log_counts_up : LogCountsUp
log_counts_up last segments = counts_up last (flat_map (λ segment. segment) segments)

pub counted_append : (last : ℕ) (txs more : List Tx) → counted last (txs ++ more) ≡ counted last txs ++ counted (last + length (counted last txs)) more
counted_append last [] more = ap (λ k. counted k more) (omega arith)
counted_append last (tx ∷ txs) more =
    elim (cases_eq tx.txid (last + 1)) [
      | inl is ↦
          let later : tx.txid + length (counted tx.txid txs) ≡ last + length (tx ∷ counted tx.txid txs) = omega (arith, is) in
          counts last tx (txs ++ more) is
          ∙ ap (λ xs. tx ∷ xs) (counted_append tx.txid txs more ∙ ap (λ k. counted tx.txid txs ++ counted k more) later)
          ∙ ap (λ xs. xs ++ counted (last + length xs) more) (sym (counts last tx txs is))
      | inr isnt ↦
          passes last tx (txs ++ more) isnt ∙ counted_append last txs more ∙ ap (λ xs. xs ++ counted (last + length xs) more) (sym (passes last tx txs isnt))
    ]

joined_append : (segments : List (List Tx)) (segment : List Tx) → flat_map (λ s. s) (segments ++ segment ∷ []) ≡ flat_map (λ s. s) segments ++ segment
joined_append [] segment = append-nil segment
joined_append (s ∷ segments) segment = ap (λ txs. s ++ txs) (joined_append segments segment) ∙ sym (append_assoc s (flat_map (λ s. s) segments) segment)

pub one_more_segment : OneMoreSegment
one_more_segment last segments segment = ap (counted last) (joined_append segments segment) ∙ counted_append last (flat_map (λ s. s) segments) segment

pub old_adds_nothing : OldAddsNothing
old_adds_nothing last [] old = refl
old_adds_nothing last (tx ∷ txs) old =
    passes last tx txs (λ is. (let low = old tx (inl refl) in omega (arith, low, is))) ∙ old_adds_nothing last txs (λ x here. old x (inr here))

pub gap_adds_nothing : GapAddsNothing
gap_adds_nothing last before [] gap up = refl
gap_adds_nothing last before (tx ∷ txs) gap up =
    passes last tx txs (λ is. omega (arith, gap, up.0, is)) ∙ gap_adds_nothing last tx.txid txs (omega (arith, gap, up.0)) up.1

all_count : (last : ℕ) (txs : List Tx) → CountsUp last txs → counted last txs ≡ txs
all_count last [] up = refl
all_count last (tx ∷ txs) up = counts last tx txs up.0 ∙ ap (λ xs. tx ∷ xs) (all_count tx.txid txs up.1)

pub overlap_adds_the_rest : OverlapAddsTheRest
overlap_adds_the_rest last before [] new up ends = all_count last new (subst (λ k. CountsUp k new) (omega (arith, ends)) up)
overlap_adds_the_rest last before (tx ∷ old) new up ends =
    passes last tx (old ++ new) (λ is. omega (arith, up.0, ends, is)) ∙ overlap_adds_the_rest last tx.txid old new up.1 (omega (arith, up.0, ends))
