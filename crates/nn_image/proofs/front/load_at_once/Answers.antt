use Rattle.std.proofs.Common.{subst, sym}
use Rattle.nn_image.specs.FrontReading.{HasWaited}
use Rattle.nn_image.proofs.AtOnce.{begin_waiting, ends_waiting, fails_waiting, judged_at_once, more_waited}
use Rattle.nn_image.proofs.front.load_at_once.Goals as goal

pub reads-init : goal.reads-init
reads-init g c = subst (HasWaited c.args.input.now c.args.input.now c.args.lines.now) (sym c.new-loading.ensures) (begin_waiting c.args.input.now c.args.lines.now c.requires.fresh c.requires.none)

pub returns-then-judged-clause-loaded : goal.returns-then-judged-clause-loaded
returns-then-judged-clause-loaded g c =
    judged_at_once c.args.input.now c.reads.input c.reads.lines c.push_lines.new.lines c.let_go.new.self c.reads.loading c.push_lines.new.loading c.end.result
    c.reads.invariant (c.in-Ok.ensures.judged c.if-judged.true) c.end.ensures.loaded c.let_go.ensures.fresh c.let_go.ensures.same

pub reads-preserved : goal.reads-preserved
reads-preserved g c =
    let k = c.in-Ok.ensures.none c.if-judged.false in
    more_waited c.args.input.now c.reads.input c.reads.lines c.push_lines.new.lines c.reads.loading c.push_lines.new.loading c.reads.invariant k.0 k.1
    c.refill_on.new.input c.refill_on.new.self c.in-Ok-refill_on.ensures.more c.in-Ok-refill_on.ensures.few

pub returns-in_default-refill_on-clause-why : goal.returns-in_default-refill_on-clause-why
returns-in_default-refill_on-clause-why g c =
    let k = c.in-Ok.ensures.none c.if-judged.false in
    let failed = c.in_default-refill_on.ensures.failed in
    fails_waiting c.args.input.now c.reads.input c.reads.lines c.push_lines.new.lines c.reads.loading c.push_lines.new.loading c.reads.invariant k.0 k.1 c.refill_on.new.input failed.0 failed.1

pub returns-then-not-more-clause-loaded : goal.returns-then-not-more-clause-loaded
returns-then-not-more-clause-loaded g c =
    let k = c.in-Ok.ensures.none c.if-judged.false in
    ends_waiting c.args.input.now c.reads.input c.reads.lines c.push_lines.new.lines c.reads.loading c.push_lines.new.loading c.reads.invariant k.0 k.1
    c.refill_on.new.input c.refill_on.new.self c.let_go-then-not-more.new.self c.in-Ok-refill_on.ensures.more c.in-Ok-refill_on.ensures.few
    (c.in-Ok-refill_on.ensures.none c.if-not-more.true) (c.in-Ok-refill_on.ensures.end c.if-not-more.true) c.let_go-then-not-more.ensures.fresh c.let_go-then-not-more.ensures.same
