use Rattle.std.proofs.Common.{◌≡◌, ◌≢◌, ◌≤◌, ◌<◌, ◌+◌, [], Err, refl, sym, ap, ◌∙◌, arith}
use Rattle.std.proofs.lemmas.Grind.{common_steps}
use Rattle.nn_model.specs.Log.{counted}
use Rattle.nn_segment.specs.Segment.{first_txid}
use Rattle.nn_segment.specs.Source.{given, end}
use Rattle.nn_segment.proofs.CursorLemmas.{high_counts_none, is_missing}
use Rattle.nn_segment.proofs.cursor.Cursor.take_up.Goals as goal

pub returns-in_err-segment-clause-takes : goal.returns-in_err-segment-clause-takes
returns-in_err-segment-clause-takes g c =
    let fault = c.in_err-segment.field-0.0 in
    let is : c.from_residual.result ≡ Err fault = grind arith in
    rw is (Err fault, c.in_err-segment.ensures.gives, (refl, refl))

pub returns-in_default-clause-takes : goal.returns-in_default-clause-takes
returns-in_default-clause-takes g c = (end, rw c.in_default.is at c.in_ok-segment.ensures.gives, (refl, refl))

pub returns-then-first_txid-last-clause-takes : goal.returns-then-first_txid-last-clause-takes
returns-then-first_txid-last-clause-takes g c =
    let s = c.in-Segment.segment in
    let high : c.args.last + 1 < first_txid s.txs = omega (arith, c.if-first_txid-last.true, c.first_txid.ensures, ap first_txid c.txs.ensures.txs) in
    (given s, rw c.in-Segment.is at c.in_ok-segment.ensures.gives, (s, refl, high, high_counts_none c.args.last s c.txs.ensures.whole high, refl))

pub returns-then-first_txid-last-clause-missing : goal.returns-then-first_txid-last-clause-missing
returns-then-first_txid-last-clause-missing g c =
    let s = c.in-Segment.segment in
    let high : c.args.last + 1 < first_txid s.txs = omega (arith, c.if-first_txid-last.true, c.first_txid.ensures, ap first_txid c.txs.ensures.txs) in
    λ _. is_missing c.args.last s c.txs.ensures.whole high

pub above-txs-requires-clause-low : goal.above-txs-requires-clause-low
above-txs-requires-clause-low g c = omega (arith, c.if-first_txid-last.false, c.first_txid.ensures, ap first_txid c.txs.ensures.txs)

pub returns-then-is_empty-clause-takes : goal.returns-then-is_empty-clause-takes
returns-then-is_empty-clause-takes g c =
    let s = c.in-Segment.segment in
    let low : first_txid s.txs ≤ c.args.last + 1 = omega (arith, c.if-first_txid-last.false, c.first_txid.ensures, ap first_txid c.txs.ensures.txs) in
    let empty : c.above-txs.result.items ≡ [] = grind (arith, common_steps) in
    let none : counted c.args.last s.txs ≡ [] = sym c.above-txs.ensures ∙ empty in
    (given s, rw c.in-Segment.is at c.in_ok-segment.ensures.gives, (s, refl, low, none, refl))

pub returns-clause-takes : goal.returns-clause-takes
returns-clause-takes g c =
    let s = c.in-Segment.segment in
    let low : first_txid s.txs ≤ c.args.last + 1 = omega (arith, c.if-first_txid-last.false, c.first_txid.ensures, ap first_txid c.txs.ensures.txs) in
    let some : c.above-txs.result.items ≢ [] = grind (arith, common_steps) in
    (given s, rw c.in-Segment.is at c.in_ok-segment.ensures.gives, (s, refl, low, λ none. some (c.above-txs.ensures ∙ none), c.above-txs.ensures))
