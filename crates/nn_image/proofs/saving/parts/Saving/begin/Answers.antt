use Rattle.std.proofs.Common.{◌∙◌, ap, sym, subst, ◌-◌}
use Rattle.nn_device.specs.Page.{HasPut}
use Rattle.nn_tree.specs.At.{names_of}
use Rattle.nn_image.specs.Saving.{WrotePrefix}
use Rattle.nn_image.specs.Text.{header_data, image_text, value_line}
use Rattle.nn_image.proofs.InParts.{begins, head_prefix, told_with}
use Rattle.nn_image.proofs.Putting.{all_put, nothing_taken}
use Rattle.nn_image.proofs.saving.parts.Saving.begin.Goals as goal

pub returns-in_default-clause-prefix : goal.returns-in_default-clause-prefix
returns-in_default-clause-prefix g c = record { took = nothing_taken c.args.writer.now c.args.namespace.now c.args.txid; told = tt }

pub returns-in-Ok-end-clause-ok : goal.returns-in-Ok-end-clause-ok
returns-in-Ok-end-clause-ok g c =
    let start = c.args.writer.now in
    let line = value_line (header_data c.args.namespace.now c.args.txid) in
    let put : HasPut start line c.put.new.self c.put.new.writer = all_put start c.put.new.writer c.new-page.result c.put.new.self _ line (c.as_bytes.ensures.value ∙ c.in-Ok.ensures) c.new-page.ensures c.put.ensures in
    record { took = c.in-Ok-end.ensures.ok start line put; place = ap (λ ns. record { path = names_of ns; count = 0 }) c.new-place.ensures.items }

pub returns-in-Ok-end-clause-saving : goal.returns-in-Ok-end-clause-saving
returns-in-Ok-end-clause-saving g c =
    let start = c.args.writer.now in
    let line = value_line (header_data c.args.namespace.now c.args.txid) in
    let put : HasPut start line c.put.new.self c.put.new.writer = all_put start c.put.new.writer c.new-page.result c.put.new.self _ line (c.as_bytes.ensures.value ∙ c.in-Ok.ensures) c.new-page.ensures c.put.ensures in
    begins c.args.namespace.now c.args.txid start c.end.new.writer _
    (record { took = c.in-Ok-end.ensures.ok start line put; place = ap (λ ns. record { path = names_of ns; count = 0 }) c.new-place.ensures.items })

pub returns-clause-prefix : goal.returns-clause-prefix
returns-clause-prefix g c =
    let start = c.args.writer.now in
    let now = c.end.new.writer in
    let line = value_line (header_data c.args.namespace.now c.args.txid) in
    let text = image_text c.args.namespace.now c.args.txid in
    let put : HasPut start line c.put.new.self c.put.new.writer = all_put start c.put.new.writer c.new-page.result c.put.new.self _ line (c.as_bytes.ensures.value ∙ c.in-Ok.ensures) c.new-page.ensures c.put.ensures in
    subst (λ e. WrotePrefix start now text e) (sym c.fault_of.ensures)
    (told_with start now text c.in-Err.cause _ (ap (λ b. now.taken - b) c.taken-before.ensures) (head_prefix c.args.namespace.now c.args.txid start now c.in-Err.cause (c.in-Err.ensures.prefix start line put)))
