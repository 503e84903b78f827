use Rattle.nn_image.proofs.Passing.{nothing_came, object_came, passed_on, soon_on, why_on}
use Rattle.nn_image.proofs.front.pass_over.Goals as goal

pub returns-in_default-first-clause-passed : goal.returns-in_default-first-clause-passed
returns-in_default-first-clause-passed g c =
    let none = c.in-Ok.ensures.none c.in_default-first.is in
    nothing_came c.args.input.now c.first.new.input c.args.lines.now c.first.new.self c.requires.fresh (c.in-Ok.ensures.read 6) c.in-Ok.ensures.torn none.1 none.0

pub returns-then-byte-eq123-clause-passed : goal.returns-then-byte-eq123-clause-passed
returns-then-byte-eq123-clause-passed g c =
    object_came c.args.input.now c.first.new.input c.args.lines.now c.first.new.self c.requires.fresh (c.in-Ok.ensures.read 6) c.in-Ok.ensures.torn c.in-Some.byte c.if-byte-eq123.true (rw c.in-Some.is at c.in-Ok.ensures.byte)

pub returns-in-Ok-pass_lines-clause-passed : goal.returns-in-Ok-pass_lines-clause-passed
returns-in-Ok-pass_lines-clause-passed g c =
    passed_on c.args.input.now c.first.new.input c.args.lines.now c.first.new.self c.requires.fresh (c.in-Ok.ensures.read 6) c.in-Ok.ensures.torn
    c.in-Ok-pass_lines.found c.pass_lines.new.input c.pass_lines.new.lines c.in-Ok-pass_lines.ensures.passed

pub returns-in-Ok-pass_lines-clause-soon : goal.returns-in-Ok-pass_lines-clause-soon
returns-in-Ok-pass_lines-clause-soon g c =
    soon_on c.args.input.now c.first.new.input c.args.lines.now c.first.new.self c.requires.fresh (c.in-Ok.ensures.read 6) c.in-Ok.ensures.torn c.pass_lines.new.input c.pass_lines.ensures.soon

pub returns-in-Err-clause-why : goal.returns-in-Err-clause-why
returns-in-Err-clause-why g c =
    why_on c.args.input.now c.first.new.input c.args.lines.now c.first.new.self c.requires.fresh (c.in-Ok.ensures.read 6) c.in-Ok.ensures.torn c.in-Err.fault c.pass_lines.new.input c.in-Err.ensures.why

pub returns-in-Err-clause-soon : goal.returns-in-Err-clause-soon
returns-in-Err-clause-soon g c =
    soon_on c.args.input.now c.first.new.input c.args.lines.now c.first.new.self c.requires.fresh (c.in-Ok.ensures.read 6) c.in-Ok.ensures.torn c.pass_lines.new.input c.pass_lines.ensures.soon
