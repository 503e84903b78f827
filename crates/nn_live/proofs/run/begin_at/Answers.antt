use Rattle.std.proofs.Common.{refl, subst}
use Rattle.nn_image.specs.Front.{LoadedAtOnce, WhyNotLoaded}
use Rattle.nn_live.proofs.Begins.{begins_image, begins_root, image_output, stopped_output, unread_output}
use Rattle.nn_live.proofs.run.begin_at.Goals as goal

pub returns-then-not-options-clause-begins : goal.returns-then-not-options-clause-begins
returns-then-not-options-clause-begins g c = begins_root c.args.options.now c.args.input.now c.new.result 0 c.args.lines.now c.if-not-options.true c.new.ensures refl c.requires.fresh c.requires.none

pub returns-in-Ok-Ok-clause-begins : goal.returns-in-Ok-Ok-clause-begins
returns-in-Ok-Ok-clause-begins g c =
    begins_image c.args.options.now c.if-not-options.false c.args.input.now c.load_at_once.new.input c.in-Ok-Ok.image.0 c.in-Ok-Ok.image.1 c.load_at_once.new.lines
    (subst (λ r. LoadedAtOnce r c.args.input.now c.load_at_once.new.input c.load_at_once.new.lines) c.in-Ok-Ok.field-0-is c.in-Ok-Ok.ensures.loaded)

pub returns-in-Ok-Err-clause-output : goal.returns-in-Ok-Err-clause-output
returns-in-Ok-Err-clause-output g c =
    image_output c.args.options.now c.if-not-options.false c.args.input.now c.load_at_once.new.input c.in-Ok-Err.fault c.load_at_once.new.lines
    (subst (λ r. LoadedAtOnce r c.args.input.now c.load_at_once.new.input c.load_at_once.new.lines) c.in-Ok-Err.field-0-is c.in-Ok-Err.ensures.loaded)

pub returns-in-Err-ReadFailed-clause-output : goal.returns-in-Err-ReadFailed-clause-output
returns-in-Err-ReadFailed-clause-output g c =
    unread_output c.args.options.now c.if-not-options.false c.args.input.now c.load_at_once.new.input
    (subst (λ f. WhyNotLoaded f c.args.input.now c.load_at_once.new.input) c.in-Err-ReadFailed.field-0-is c.in-Err-ReadFailed.ensures.why)

pub returns-in-Err-OutOfMemory-clause-output : goal.returns-in-Err-OutOfMemory-clause-output
returns-in-Err-OutOfMemory-clause-output g c =
    stopped_output c.args.options.now c.if-not-options.false c.args.input.now c.load_at_once.new.input
    (subst (λ f. WhyNotLoaded f c.args.input.now c.load_at_once.new.input) c.in-Err-OutOfMemory.field-0-is c.in-Err-OutOfMemory.ensures.why)
