use Rattle.std.proofs.Common.{◌≡◌, ◌+◌, length, sym, ap, ◌∙◌, arith, Err}
use Rattle.nn_scenario.specs.Cut.{segments_from}
use Rattle.nn_scenario.proofs.SegmentLemmas.{prepend, no_parts, part_read, part_refused, fault_given}
use Rattle.nn_scenario.proofs.segments.read_segments.Goals as goal

pub returns-in-Err-clause-bad : goal.returns-in-Err-clause-bad
returns-in-Err-clause-bad c =
    let prefix = c.loop-part.segments.items in
    let fault = c.in-Err.fault in
    let before : length prefix ≡ c.len.result = omega (arith, c.len.ensures, c.loop-part.segments.ok.0) in
    λ other.
    sym c.loop-part.invariant
    ∙ ap (λ parts. prepend prefix (segments_from (length prefix + 1) parts)) c.in-Some.ensures.steps.0
    ∙ part_refused (length prefix + 1) c.in-Some.part _ prefix fault (fault_given fault _ c.in-Err.ensures other)
    ∙ ap (λ k. Err (record { fault = fault; segment = k + 1 })) before

pub loop-part-preserved : goal.loop-part-preserved
loop-part-preserved c =
    let prefix = c.loop-part.segments.items in
    part_read c.in-Some.part _ prefix c.push.new.self.items c.in-Ok.parsed c.in-Ok.ensures c.in_default.ensures.items
    ∙ sym (ap (λ parts. prepend prefix (segments_from (length prefix + 1) parts)) c.in-Some.ensures.steps.0)
    ∙ c.loop-part.invariant

pub returns-clause-ok : goal.returns-clause-ok
returns-clause-ok c =
    sym c.loop-part.invariant
    ∙ no_parts (length c.loop-part.segments.items + 1) c.loop-part.segments.items _ (omega (arith, c.loop-part.part-iterator.rest.ok.0, c.in-None.ensures.steps.0))
