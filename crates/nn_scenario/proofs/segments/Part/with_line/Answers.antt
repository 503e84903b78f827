use Rattle.std.proofs.Common.{sym, subst}
use Rattle.nn_scenario.specs.Cut.{AreRead}
use Rattle.nn_scenario.proofs.SegmentLemmas.{one_more_read}
use Rattle.nn_scenario.proofs.segments.Part.with_line.Goals as goal

pub invariant_of-result : goal.invariant_of-result
invariant_of-result c =
    let more = one_more_read (record { bytes = c.self.inside.bytes.items; txs = c.self.inside.txs.items }) c.args.text.now c.args.tx c.self.invariant c.requires.unbroken c.requires.read c.requires.from_one in
    subst AreRead (λ j. record { bytes = sym c.in_ok-add_line.ensures j; txs = sym c.in_ok-push.ensures.items j }) more
