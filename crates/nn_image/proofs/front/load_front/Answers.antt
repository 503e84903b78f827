use Rattle.nn_image.proofs.FrontImages.{front_missing, front_read}
use Rattle.nn_image.proofs.front.load_front.Goals as goal

pub returns-then-not-found-clause-front : goal.returns-then-not-found-clause-front
returns-then-not-found-clause-front g c =
    front_missing c.args.input.now c.pass_over.new.input c.args.lines.now c.pass_over.new.lines c.let_go.new.self (rw c.if-not-found.true at c.in_ok-found.ensures.passed) c.let_go.ensures.fresh c.let_go.ensures.same

pub returns-clause-front : goal.returns-clause-front
returns-clause-front g c =
    front_read c.args.input.now c.pass_over.new.input c.load_image.new.input c.args.lines.now c.pass_over.new.lines c.load_image.new.lines (rw c.if-not-found.false at c.in_ok-found.ensures.passed) c.in_ok-image.image c.in_ok-image.ensures.image
