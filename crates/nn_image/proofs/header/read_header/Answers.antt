use Rattle.std.proofs.Common.{sym, ap, ◌∙◌, arith, subst}
use Rattle.std.proofs.lemmas.Result.{IfOk-weaker, IfErr-weaker}
use Rattle.serde_json.specs.Read.{read}
use Rattle.nn_plain.specs.Ahead.{LacksObject}
use Rattle.nn_image.specs.Outcome.{ImageFails}
use Rattle.nn_image.proofs.HeaderReads.{header_says, none_says}
use Rattle.nn_image.proofs.RowReads.{no_object_there, no_text_there}
use Rattle.nn_image.proofs.header.read_header.Goals as goal

pub returns-in_default-clause-fault : goal.returns-in_default-clause-fault
returns-in_default-clause-fault c = none_says c.args.line.now (no_text_there c.args.line.now c.in_default.ensures)

pub returns-in-Ok-read_line-clause-ok : goal.returns-in-Ok-read_line-clause-ok
returns-in-Ok-read_line-clause-ok c =
    let text = c.in-Ok.ensures in
    let found = c.in-Ok-read_line.ensures.ok in
    let says = header_says c.args.line.now found.0 _ text.1 (ap read (sym text.0) ∙ found.1) found.2 in
    IfOk-weaker c.header.result _ _ (λ h is. sym says ∙ is) c.header.ensures.ok

pub returns-in-Ok-read_line-clause-fault : goal.returns-in-Ok-read_line-clause-fault
returns-in-Ok-read_line-clause-fault c =
    let text = c.in-Ok.ensures in
    let found = c.in-Ok-read_line.ensures.ok in
    let says = header_says c.args.line.now found.0 _ text.1 (ap read (sym text.0) ∙ found.1) found.2 in
    IfErr-weaker c.header.result _ _ (λ e fails. subst (ImageFails e) says fails) c.header.ensures.fault

pub returns-in-Err-Invalid-clause-fault : goal.returns-in-Err-Invalid-clause-fault
returns-in-Err-Invalid-clause-fault c =
    let text = c.in-Ok.ensures in
    let line = c.args.line.now in
    none_says line (no_object_there line text.1 (subst (λ t. LacksObject t) text.0 (c.in-Err-Invalid.ensures.err (grind arith))))
