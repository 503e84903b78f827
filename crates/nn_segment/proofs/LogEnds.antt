-- The walk over segments ends with the log that they hold.
use Rattle.std.proofs.Common.{◌≡◌, ℕ, ◌+◌, true, false, cond, List, [], ◌∷◌, ◌++◌, length, Some, None, Result, Ok, Err, refl, sym, ap, subst, ◌∙◌, arith}
use Rattle.std.specs.Prelude.{map, flat_map, nat_lt}
use Rattle.std.proofs.lemmas.List.{length-append}
use Rattle.nn_types.specs.declared.tx.Tx.{Tx}
use Rattle.nn_model.specs.Namespace.{Namespace}
use Rattle.nn_model.specs.Apply.{refusal, effect, outcome}
use Rattle.nn_model.specs.Log.{namespace_after, IsLog, counted, CountsUp}
use Rattle.nn_model.proofs.Logs.{counted_append, counts_up, appended_log, namespace_of_appended}
use Rattle.nn_segment.specs.Segment.{Segment, first_txid}
use Rattle.nn_segment.specs.LogEnd.{disorder, LogStop, LogEnd, go_on, end_of_txs, and_then, end_of_log}
use Rattle.nn_segment.specs.LogLaws.{IsEndOf, EndsWithTheLog}

ends_here : (last : ℕ) (n : Namespace) (end : LogEnd) → record { last = last; namespace = n } ≡ end → IsEndOf last n [] end
ends_here last n end same = record {
  log = tt;
  namespace = sym (ap (λ (e : LogEnd). e.namespace) same);
  last_txid = (let is = ap (λ (e : LogEnd). e.last) same in omega (arith, is));
}

-- of transactions that count up
txs_end : (last : ℕ) (n : Namespace) (txs : List Tx) (end : LogEnd) → CountsUp last txs → end_of_txs last n txs ≡ Ok end → IsEndOf last n txs end
unfolding end_of_txs
txs_end last n [] end up is = ends_here last n end (cc)
txs_end last n (tx ∷ txs) end up is =
    elim (refusal n tx.edit) as (λ o. refusal n tx.edit ≡ o → go_on tx.txid (outcome o (effect n tx.edit)) (λ next. end_of_txs tx.txid next txs) ≡ Ok end →
    IsEndOf last n (tx ∷ txs) end) [
      | None ↦ λ none e.
          let rest = txs_end tx.txid (effect n tx.edit) txs end up.1 e in
          record { log = (up.0, none, rest.log); namespace = rest.namespace; last_txid = (let k = rest.last_txid in omega (arith, up.0, k)) }
      | Some fault ↦ λ some e. absurd (cc)
    ] refl is

-- what counts of one segment, and then of the others
glued : (last : ℕ) (n : Namespace) (txs more : List Tx) (end : LogEnd) → IsLog n last (counted last txs)
    → IsEndOf (last + length (counted last txs)) (namespace_after n (counted last txs)) (counted (last + length (counted last txs)) more) end
    → IsEndOf last n (counted last (txs ++ more)) end
glued last n txs more end first rest =
    let own = counted last txs in
    let others = counted (last + length own) more in
    subst (λ xs. IsEndOf last n xs end) (sym (counted_append last txs more)) (record {
      log = appended_log n last own others first rest.log;
      namespace = rest.namespace ∙ sym (namespace_of_appended n own others);
      last_txid = (let k = rest.last_txid in let sum = length-append own others in omega (arith, k, sum));
    })

pub ends_with_the_log : EndsWithTheLog
unfolding end_of_log
ends_with_the_log last n [] end is = ends_here last n end (cc)
ends_with_the_log last n (s ∷ segments) end is =
    let own = counted last s.txs in
    let later : List Tx = flat_map (λ segment. segment) (map (λ (x : Segment). x.txs) segments) in
    let Goal : Type 0 = IsEndOf last n (counted last (s.txs ++ later)) end in
    let after : (r : Result LogEnd LogStop) → end_of_txs last n own ≡ r → and_then r (λ e. end_of_log e.last e.namespace segments) ≡ Ok end → Goal =
    λ r. elim r as (λ q. end_of_txs last n own ≡ q → and_then q (λ e. end_of_log e.last e.namespace segments) ≡ Ok end → Goal) [
      | Ok mid ↦ λ at e.
          let first = txs_end last n own mid (counts_up last s.txs) at in
          let rest = ends_with_the_log mid.last mid.namespace segments end e in
          glued last n s.txs later end first.log
          (subst (λ k. IsEndOf k (namespace_after n own) (counted k later) end) first.last_txid
          (subst (λ m. IsEndOf mid.last m (counted mid.last later) end) first.namespace rest))
      | Err stop ↦ λ at e. absurd (cc)
    ] in
    elim (nat_lt (last + 1) (first_txid s.txs)) as (λ t. cond t (Err (record { cause = disorder; txid = last + 1 }))
    (and_then (end_of_txs last n own) (λ e. end_of_log e.last e.namespace segments)) ≡ Ok end → Goal) [
      | true ↦ λ e. absurd (cc)
      | false ↦ λ e. after (end_of_txs last n own) refl e
    ] is
