use Rattle.std.proofs.Common.{◌≤◌, sym, subst}
use Rattle.std.proofs.Math.Nat.{le-max_left}
use Rattle.nn_segment.proofs.ReadingLemmas.{last_of}
use Rattle.nn_scenario.proofs.SegmentLemmas.{named, first_from_one}
use Rattle.nn_scenario.proofs.segments.ends_of.Goals as goal

pub returns : goal.returns
returns c =
    let txs = c.args.txs.now in
    let first = c.in_ok-first.first.now in
    let last = c.in_ok-last.last.now in
    let high = c.no_lower.ensures in (
      sym (named txs first last c.no_lower.result c.in_ok-first.ensures.value (last_of txs last c.in_ok-last.ensures.value) high),
      first_from_one txs first c.requires c.in_ok-first.ensures.value,
      subst (λ n. first.txid ≤ n) (sym high) (le-max_left first.txid last.txid),
    )
