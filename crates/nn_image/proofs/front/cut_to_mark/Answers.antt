use Rattle.std.proofs.Common.{sym, ◌∙◌}
use Rattle.nn_image.proofs.Passing.{line_passed, mark_ends}
use Rattle.nn_image.proofs.front.cut_to_mark.Goals as goal

pub returns-then-is_mark-clause-mark : goal.returns-then-is_mark-clause-mark
returns-then-is_mark-clause-mark c = λ _.
    mark_ends c.args.lines.now c.lines.lines c.cut.new.self c.in-Some.place c.text.result.now c.lines.invariant (rw c.in-Some.is at c.in-Ok.ensures.line) c.text.ensures.text (sym c.is_mark.ensures ∙ c.if-is_mark.true)

pub lines-preserved : goal.lines-preserved
lines-preserved c =
    line_passed c.args.lines.now c.lines.lines c.cut.new.self c.in-Some.place c.text.result.now c.lines.invariant (rw c.in-Some.is at c.in-Ok.ensures.line) c.text.ensures.text (sym c.is_mark.ensures ∙ c.if-is_mark.false)
