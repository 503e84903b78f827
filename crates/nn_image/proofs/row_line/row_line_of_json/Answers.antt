use Rattle.std.proofs.Common.{arith, sym, ap, ◌∙◌, subst}
use Rattle.std.proofs.lemmas.Result.{IfOk-weaker}
use Rattle.nn_image.specs.Loading.{is_end_row, IsReadAs}
use Rattle.nn_image.proofs.RowReads.{line_read, ends_as, no_line_read, no_object_there, none_ends}
use Rattle.nn_image.proofs.row_line.row_line_of_json.Goals as goal

pub returns-in-Ok-clause-read : goal.returns-in-Ok-clause-read
returns-in-Ok-clause-read c =
    let found = c.in-Ok.ensures.ok in
    IfOk-weaker c.line.result _ _ (λ r is. subst (IsReadAs c.args.text.now) (sym is) (line_read c.args.text.now found.0 _ c.requires found.1 found.2)) c.line.ensures

pub returns-in-Ok-clause-end : goal.returns-in-Ok-clause-end
returns-in-Ok-clause-end c =
    let found = c.in-Ok.ensures.ok in
    IfOk-weaker c.line.result _ _ (λ r is. ap is_end_row is ∙ ends_as c.args.text.now found.0 _ c.requires found.1 found.2) c.line.ensures

pub returns-in-Err-Invalid-clause-read : goal.returns-in-Err-Invalid-clause-read
returns-in-Err-Invalid-clause-read c = no_line_read c.args.text.now (no_object_there c.args.text.now c.requires (c.in-Err-Invalid.ensures.err (grind arith)))

pub returns-in-Err-Invalid-clause-end : goal.returns-in-Err-Invalid-clause-end
returns-in-Err-Invalid-clause-end c = none_ends c.args.text.now (no_object_there c.args.text.now c.requires (c.in-Err-Invalid.ensures.err (grind arith)))
