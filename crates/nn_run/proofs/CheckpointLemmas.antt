-- A log that is cut, and gone on from where it was cut.
use Rattle.std.proofs.Common.{◌≡◌, ℕ, ◌+◌, List, [], ◌∷◌, ◌++◌, length, Ok, sym, ap, ◌∙◌, subst, arith, length-append}
use Rattle.std.specs.Prelude.{map, flat_map}
use Rattle.nn_types.specs.declared.tx.Tx.{Tx}
use Rattle.nn_model.specs.Apply.{effect}
use Rattle.nn_model.specs.Log.{counted, namespace_after, IsLog}
use Rattle.nn_model.specs.Namespace.{Namespace, root_alone}
use Rattle.nn_model.proofs.Logs.{counted_append, namespace_of_appended}
use Rattle.nn_image.proofs.Round.{reads_back}
use Rattle.nn_segment.specs.Segment.{Segment}
use Rattle.nn_segment.specs.LogEnd.{end_of_log, end_behind}
use Rattle.nn_segment.proofs.LogEnds.{ends_with_the_log}
use Rattle.nn_lane_standby.proofs.LogEnds.{behind_none, behind_segment, behind_applied}
use Rattle.nn_run.specs.Checkpoint.{HasNoGap, PrintsTheSame, StartsThere}
use Rattle.nn_run.specs.Output.{after_log}
use Rattle.nn_run.specs.Start.{from_image}

abbrev txs_of : List Segment → List Tx
txs_of segments = flat_map (λ segment. segment) (map (λ (s : Segment). s.txs) segments)

prefix_of : (n : Namespace) (last : ℕ) (prefix back : List Tx) → IsLog n last (prefix ++ back) → IsLog n last prefix
prefix_of n last [] back l = tt
prefix_of n last (t ∷ prefix) back l = (l.0, l.1, prefix_of (effect n t.edit) t.txid prefix back l.2)

back_of : (n : Namespace) (last : ℕ) (prefix back : List Tx) → IsLog n last (prefix ++ back) → IsLog (namespace_after n prefix) (last + length prefix) back
back_of n last [] back l = let same : last ≡ last + 0 = omega arith in subst (λ k. IsLog n k back) same l
back_of n last (t ∷ prefix) back l =
    let same : t.txid + length prefix ≡ last + length (t ∷ prefix) = omega (arith, l.0) in
    subst (λ k. IsLog (namespace_after (effect n t.edit) prefix) k back) same (back_of (effect n t.edit) t.txid prefix back l.2)

-- what is in hand is applied, and then come the segments
behind_log : (last : ℕ) (n : Namespace) (txs : List Tx) (later : List Segment) → IsLog n last txs → end_behind last n txs later ≡ end_of_log (last + length txs) (namespace_after n txs) later
behind_log last n [] later l = let same : last ≡ last + 0 = omega arith in behind_none last n later ∙ ap (λ k. end_of_log k n later) same
behind_log last n (t ∷ txs) later l =
    let same : t.txid + length txs ≡ last + length (t ∷ txs) = omega (arith, l.0) in
    behind_applied last n t txs later l.1 ∙ behind_log t.txid (effect n t.edit) txs later l.2 ∙ ap (λ k. end_of_log k (namespace_after (effect n t.edit) txs) later) same

-- where the transactions that segments hold are a log, they are followed to its end
followed : (last : ℕ) (n : Namespace) (segments : List Segment) → HasNoGap last segments → IsLog n last (counted last (txs_of segments))
    → end_of_log last n segments ≡ Ok (record { last = last + length (counted last (txs_of segments)); namespace = namespace_after n (counted last (txs_of segments)) })
unfolding end_of_log
followed last n [] gap l = let same : last ≡ last + 0 = omega arith in ap (λ k. Ok (record { last = k; namespace = n })) same
followed last n (s ∷ segments) gap l =
    let own = counted last s.txs in
    let more = counted (last + length own) (txs_of segments) in
    let split : counted last (s.txs ++ txs_of segments) ≡ own ++ more = counted_append last s.txs (txs_of segments) in
    let both : IsLog n last (own ++ more) = subst (IsLog n last) split l in
    let sum : (last + length own) + length more ≡ last + length (own ++ more) = let k = length-append own more in omega (arith, k) in
    behind_segment last n s segments gap.0
    ∙ behind_log last n own segments (prefix_of n last own more both)
    ∙ followed (last + length own) (namespace_after n own) segments gap.1 (back_of n last own more both)
    ∙ (λ j. Ok (record { last = sum j; namespace = sym (namespace_of_appended n own more) j }))
    ∙ ap (λ txs. Ok (record { last = last + length txs; namespace = namespace_after n txs })) (sym split)

pub prints_the_same : PrintsTheSame
prints_the_same options lanes segments rest prefix back end is whole behind gap =
    let at = ends_with_the_log 0 root_alone segments end is in
    let log : IsLog root_alone 0 (prefix ++ back) = subst (IsLog root_alone 0) whole at.log in
    let none : 0 + length prefix ≡ length prefix = omega arith in
    let left : IsLog (namespace_after root_alone prefix) (length prefix) back = subst (λ k. IsLog (namespace_after root_alone prefix) k back) none (back_of root_alone 0 prefix back log) in
    let sum : length prefix + length back ≡ 0 + length (prefix ++ back) = let k = length-append prefix back in omega (arith, k) in
    let last : length prefix + length back ≡ end.last = sum ∙ ap (λ txs. 0 + length txs) (sym whole) ∙ sym at.last_txid in
    let namespace : namespace_after (namespace_after root_alone prefix) back ≡ end.namespace =
    sym (namespace_of_appended root_alone prefix back) ∙ ap (namespace_after root_alone) (sym whole) ∙ sym at.namespace in
    let goes_on = followed (length prefix) (namespace_after root_alone prefix) rest gap (subst (IsLog (namespace_after root_alone prefix) (length prefix)) (sym behind) left) in
    ap (after_log options lanes)
    (goes_on
    ∙ ap (λ txs. Ok (record { last = length prefix + length txs; namespace = namespace_after (namespace_after root_alone prefix) txs })) behind
    ∙ (λ j. Ok (record { last = last j; namespace = namespace j }))
    ∙ sym is)

pub starts_there : StartsThere
starts_there txs well_formed utf8 paths few limit = ap from_image (reads_back (namespace_after root_alone txs) (length txs) well_formed utf8 paths few limit)
