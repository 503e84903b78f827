use Rattle.std.proofs.Common.{refl, sym, ap, ◌∙◌, subst}
use Rattle.std.proofs.lemmas.Result.{IfOk-weaker}
use Rattle.serde_json.specs.Read.{read}
use Rattle.nn_image.specs.Loading.{is_end_row, IsReadAs}
use Rattle.nn_image.specs.Reading.{is_end_line}
use Rattle.nn_image.proofs.RowReads.{line_read, ends_as, no_line_read, no_text_there, none_ends}
use Rattle.nn_image.proofs.row_line.row_line.Goals as goal

pub returns-in_default-text_of-clause-read : goal.returns-in_default-text_of-clause-read
returns-in_default-text_of-clause-read c = no_line_read c.args.line.now (no_text_there c.args.line.now (c.in_default-text_of.ensures.none refl))

pub returns-in_default-text_of-clause-end : goal.returns-in_default-text_of-clause-end
returns-in_default-text_of-clause-end c = none_ends c.args.line.now (no_text_there c.args.line.now (c.in_default-text_of.ensures.none refl))

pub returns-then-read_plain-clause-read : goal.returns-then-read_plain-clause-read
returns-then-read_plain-clause-read c =
    let line = c.args.line.now in
    let text = c.in-Unescaped.ensures in
    let found = c.if-read_plain.ensures refl in
    let there = ap read (sym text.0) ∙ found.1 in
    IfOk-weaker c.line.result _ _ (λ r is. subst (IsReadAs line) (sym is) (line_read line found.0 _ text.2 there found.2)) c.line.ensures

pub returns-then-read_plain-clause-end : goal.returns-then-read_plain-clause-end
returns-then-read_plain-clause-end c =
    let line = c.args.line.now in
    let text = c.in-Unescaped.ensures in
    let found = c.if-read_plain.ensures refl in
    let there = ap read (sym text.0) ∙ found.1 in
    IfOk-weaker c.line.result _ _ (λ r is. ap is_end_row is ∙ ends_as line found.0 _ text.2 there found.2) c.line.ensures

pub returns-clause-read : goal.returns-clause-read
returns-clause-read c = IfOk-weaker c.row_line_of_json.result _ _ (λ r h. subst (λ t. IsReadAs t r) c.in-Some.ensures.some.0 h) c.row_line_of_json.ensures.read

pub returns-clause-end : goal.returns-clause-end
returns-clause-end c = IfOk-weaker c.row_line_of_json.result _ _ (λ r h. h ∙ ap is_end_line c.in-Some.ensures.some.0) c.row_line_of_json.ensures.end
