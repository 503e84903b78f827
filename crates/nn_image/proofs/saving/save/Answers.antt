use Rattle.std.proofs.Common.{arith}
use Rattle.nn_image.specs.Text.{image_text}
use Rattle.nn_image.proofs.Putting.{all_put, nothing_taken}
use Rattle.nn_image.proofs.saving.save.Goals as goal

pub returns-in_default-clause-prefix : goal.returns-in_default-clause-prefix
returns-in_default-clause-prefix g c = record { took = nothing_taken c.args.writer.now c.args.namespace.now c.args.txid; told = tt }

pub overflow_sub-written : goal.overflow_sub-written
overflow_sub-written g c =
    let start = c.args.writer.now in
    let text = image_text c.args.namespace.now c.args.txid in
    let took = c.in-Err.ensures.prefix start text (all_put start c.put.new.writer c.new-page.result c.put.new.page _ text c.in-Ok.ensures c.new-page.ensures c.put.ensures) in
    omega (arith, c.taken-before.ensures, c.taken.ensures, took.counted)

pub returns-in-Ok-end-clause-ok : goal.returns-in-Ok-end-clause-ok
returns-in-Ok-end-clause-ok g c =
    let start = c.args.writer.now in
    let text = image_text c.args.namespace.now c.args.txid in
    c.in-Ok-end.ensures.ok start text (all_put start c.put.new.writer c.new-page.result c.put.new.page _ text c.in-Ok.ensures c.new-page.ensures c.put.ensures)

pub returns-in-Err-clause-prefix : goal.returns-in-Err-clause-prefix
returns-in-Err-clause-prefix g c =
    let start = c.args.writer.now in
    let text = image_text c.args.namespace.now c.args.txid in
    let prefix = c.in-Err.ensures.prefix start text (all_put start c.put.new.writer c.new-page.result c.put.new.page _ text c.in-Ok.ensures c.new-page.ensures c.put.ensures) in
    let took = rw c.in-Err.ensures.cause at prefix in
    record { took = took; told = omega (arith, c.taken-before.ensures, c.taken.ensures, took.counted) }
