use Rattle.std.proofs.Common.{sym, ◌∙◌}
use Rattle.nn_image.proofs.AtOnce.{line_ends, line_refused, line_waits, still_waits}
use Rattle.nn_image.proofs.front.push_lines.Goals as goal

pub returns-in_default-found-clause-none : goal.returns-in_default-found-clause-none
returns-in_default-found-clause-none c = λ _.
    let cut = c.in-Ok.ensures.none c.in_default-found.is in (
      λ bytes h. still_waits bytes c.lines.lines c.cut.new.self c.lines.loading cut.0 (c.lines.invariant bytes h),
      cut.1,
    )

pub returns-then-ends-clause-judged : goal.returns-then-ends-clause-judged
returns-then-ends-clause-judged c = λ _ bytes h.
    line_ends c.lines.lines c.cut.new.self c.in-Some.place c.lines.loading c.push.new.self c.text.result.now (rw c.in-Some.is at c.in-Ok.ensures.line) c.text.ensures.text c.text.ensures.fits
    c.in-Ok-push.ensures.taken bytes (c.lines.invariant bytes h) (sym c.in-Ok-push.ensures.ends ∙ c.if-ends.true)

pub returns-in-Some-fault-clause-judged : goal.returns-in-Some-fault-clause-judged
returns-in-Some-fault-clause-judged c = λ _ bytes h.
    line_refused c.lines.lines c.cut.new.self c.in-Some.place c.lines.loading c.push.new.self c.text.result.now (rw c.in-Some.is at c.in-Ok.ensures.line) c.text.ensures.text c.text.ensures.fits
    c.in-Ok-push.ensures.taken bytes (c.lines.invariant bytes h) c.in-Some-fault.field-0 (sym c.fault.ensures.fault ∙ c.in-Some-fault.is)

pub lines-preserved : goal.lines-preserved
lines-preserved c = λ bytes h.
    line_waits c.lines.lines c.cut.new.self c.in-Some.place c.lines.loading c.push.new.self c.text.result.now (rw c.in-Some.is at c.in-Ok.ensures.line) c.text.ensures.text c.text.ensures.fits
    c.in-Ok-push.ensures.taken bytes (c.lines.invariant bytes h) (sym c.in-Ok-push.ensures.ends ∙ c.if-ends.false) (sym c.fault.ensures.fault ∙ c.in_default-fault.is)
