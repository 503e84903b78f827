use Rattle.std.proofs.Common.{ap, sym, subst, ◌-◌}
use Rattle.nn_image.specs.InParts.{rest_text}
use Rattle.nn_image.specs.Saving.{WrotePrefix}
use Rattle.nn_image.proofs.InParts.{saved_ok, stops, told_with}
use Rattle.nn_image.proofs.saving.parts.Saving.write_some.Goals as goal

pub returns-in-Ok-clause-saved : goal.returns-in-Ok-clause-saved
returns-in-Ok-clause-saved g c =
    saved_ok c.args.namespace.now c.args.rows c.args.self c.args.writer.now c.write_on.new.writer c.in-Ok.next c.in-Ok.ensures.part c.in-Ok.ensures.rest

pub returns-in-Err-clause-prefix : goal.returns-in-Err-clause-prefix
returns-in-Err-clause-prefix g c =
    let w0 = c.args.writer.now in
    let w1 = c.write_on.new.writer in
    let text = rest_text c.args.self c.args.namespace.now in
    subst (λ e. WrotePrefix w0 w1 text e) (sym c.fault_of.ensures)
    (told_with w0 w1 text c.in-Err.cause _ (ap (λ b. w1.taken - b) c.taken-before.ensures) c.in-Err.ensures.prefix)

pub returns-in-Err-clause-saved : goal.returns-in-Err-clause-saved
returns-in-Err-clause-saved g c =
    let w0 = c.args.writer.now in
    let w1 = c.write_on.new.writer in
    let text = rest_text c.args.self c.args.namespace.now in
    λ txid start h. stops c.args.namespace.now txid start w0 w1 c.args.self _ h
    (subst (λ e. WrotePrefix w0 w1 text e) (sym c.fault_of.ensures)
    (told_with w0 w1 text c.in-Err.cause _ (ap (λ b. w1.taken - b) c.taken-before.ensures) c.in-Err.ensures.prefix))
