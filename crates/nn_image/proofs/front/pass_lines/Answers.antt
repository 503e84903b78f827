use Rattle.std.proofs.Common.{ap, arith, length}
use Rattle.nn_image.proofs.Passing.{mark_passed, more_passed, none_passed, too_much}
use Rattle.nn_image.proofs.front.pass_lines.Goals as goal

pub returns-then-given-ahead-clause-why : goal.returns-then-given-ahead-clause-why
returns-then-given-ahead-clause-why g c =
    too_much c.args.input.now c.reads.input c.args.lines.now c.reads.lines c.cut_to_mark.new.lines c.requires.other c.reads.invariant.passed c.in-Ok.found c.in-Ok.ensures.mark c.in-Ok.ensures.none
    (omega (arith, c.if-given-ahead.true, c.given-given.ensures.given, c.left-ahead.ensures.left, c.given.ensures.given, c.left.ensures.left)) c.reads.invariant.soon

pub returns-then-found-clause-passed : goal.returns-then-found-clause-passed
returns-then-found-clause-passed g c =
    mark_passed c.args.input.now c.reads.input c.args.lines.now c.reads.lines c.cut_to_mark.new.lines c.requires.other c.reads.invariant.passed
    (λ much. omega (arith, much, c.if-given-ahead.false, c.given-given.ensures.given, c.left-ahead.ensures.left, c.given.ensures.given, c.left.ensures.left)) (c.in-Ok.ensures.mark c.if-found.true)

pub returns-then-not-more-clause-passed : goal.returns-then-not-more-clause-passed
returns-then-not-more-clause-passed g c =
    let k = c.in-Ok.ensures.none c.if-found.false in
    none_passed c.args.input.now c.reads.input c.args.lines.now c.reads.lines c.cut_to_mark.new.lines c.requires.other c.reads.invariant.passed
    (λ much. omega (arith, much, c.if-given-ahead.false, c.given-given.ensures.given, c.left-ahead.ensures.left, c.given.ensures.given, c.left.ensures.left))
    c.refill.new.input c.refill.new.self k.0 k.1 c.in-Ok-refill.ensures.more (c.in-Ok-refill.ensures.none c.if-not-more.true) (c.in-Ok-refill.ensures.end c.if-not-more.true)

pub reads-preserved : goal.reads-preserved
reads-preserved g c =
    let k = c.in-Ok.ensures.none c.if-found.false in
    record {
      passed = more_passed c.args.input.now c.reads.input c.refill.new.input c.args.lines.now c.reads.lines c.cut_to_mark.new.lines c.refill.new.self c.reads.invariant.passed k.0 k.1 c.in-Ok-refill.ensures.more;
      soon = omega (arith, c.if-given-ahead.false, c.given-given.ensures.given, c.left-ahead.ensures.left, c.given.ensures.given, c.left.ensures.left, ap length k.1, c.refill.ensures.soon);
    }
