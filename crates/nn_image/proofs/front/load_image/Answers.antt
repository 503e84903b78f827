use Rattle.std.proofs.Common.{sym, subst, ◌∙◌}
use Rattle.nn_image.specs.FrontReading.{HasImage}
use Rattle.nn_image.proofs.FrontImages.{begin_image, image_ended, image_torn, line_loaded}
use Rattle.nn_image.proofs.front.load_image.Goals as goal

pub lines-init : goal.lines-init
lines-init g c = subst (HasImage c.args.input.now c.args.input.now c.args.lines.now c.args.lines.now) (sym c.new-loading.ensures) (begin_image c.args.input.now c.args.lines.now c.requires.fresh)

pub returns-in_default-clause-image : goal.returns-in_default-clause-image
returns-in_default-clause-image g c =
    let whole = c.in-Ok.ensures.whole c.in_default.is in
    image_torn c.args.input.now c.lines.input c.next.new.input c.args.lines.now c.lines.lines c.next.new.self c.let_go.new.self c.lines.loading c.torn_fault.result
    c.lines.invariant (c.in-Ok.ensures.end c.in_default.is) whole.0 whole.1 c.let_go.ensures.fresh c.let_go.ensures.same c.torn_fault.ensures

pub returns-then-ends-clause-image : goal.returns-then-ends-clause-image
returns-then-ends-clause-image g c =
    image_ended c.args.input.now c.lines.input c.next.new.input c.args.lines.now c.lines.lines c.next.new.self c.in-Some.place c.lines.loading c.push.new.self c.text.result.now
    c.lines.invariant (rw c.in-Some.is at c.in-Ok.ensures.line) c.text.ensures.text c.text.ensures.fits c.in-Ok-push.ensures.taken
    c.let_go-then-ends.new.self c.end.result (sym c.in-Ok-push.ensures.ends ∙ c.if-ends.true) c.end.ensures.loaded c.let_go-then-ends.ensures.fresh c.let_go-then-ends.ensures.same

pub lines-preserved : goal.lines-preserved
lines-preserved g c =
    line_loaded c.args.input.now c.lines.input c.next.new.input c.args.lines.now c.lines.lines c.next.new.self c.in-Some.place c.lines.loading c.push.new.self c.text.result.now
    c.lines.invariant (rw c.in-Some.is at c.in-Ok.ensures.line) c.text.ensures.text c.text.ensures.fits c.in-Ok-push.ensures.taken c.in-Ok-push.ensures.later (sym c.in-Ok-push.ensures.ends ∙ c.if-ends.false)
