use Rattle.std.proofs.Common.{[], codes, sym, subst, ◌∙◌}
use Rattle.std.proofs.lemmas.Result.{IfOk-weaker, IfErr-weaker}
use Rattle.nn_types.specs.declared.fault.TheConstants.{NOT_JSON}
use Rattle.nn_device.specs.Page.{PutsPiece}
use Rattle.nn_device.proofs.Pages.{puts_nothing}
use Rattle.nn_live.specs.Serving.{Service, fault_text}
use Rattle.nn_live.specs.Live.{takes_torn}
use Rattle.nn_live.proofs.Breaking.{none_told}
use Rattle.nn_live.proofs.BrokenLines.{torn_breaks}
use Rattle.nn_live.proofs.Growing.{torn_grows}
use Rattle.nn_live.proofs.Places.{on_err}
use Rattle.nn_live.proofs.Options.{some_if, none_unless}
use Rattle.nn_live.proofs.Reading.{nothing_torn, blank_torn, word_torn, data_torn}
use Rattle.nn_live.proofs.service.Service.torn_line.Goals as goal

pub returns-then-is_empty-clause-ok : goal.returns-then-is_empty-clause-ok
returns-then-is_empty-clause-ok g c = ([], puts_nothing c.args.page.now c.args.writer.now, nothing_torn c.args.text.now c.args.self.now (sym c.if-is_empty.ensures))

pub returns-then-is_blank-clause-ok : goal.returns-then-is_blank-clause-ok
returns-then-is_blank-clause-ok g c =
    ([], puts_nothing c.args.page.now c.args.writer.now, blank_torn c.args.text.now (sym c.if-is_empty.ensures) c.args.self.now c.next_line.new.self (sym c.if-is_blank.ensures) c.in_ok-next_line.ensures.ok)

pub returns-then-is_some-clause-ok : goal.returns-then-is_some-clause-ok
returns-then-is_some-clause-ok g c =
    let y = c.next_line.new.self in
    let text = fault_text NOT_JSON (codes " line ") y.lines in
    let some = some_if c.in-Ok.word c.if-is_some.ensures in
    let put = subst (λ (v : Service). PutsPiece (fault_text NOT_JSON (codes " line ") v.lines) c.args.page.now c.args.writer.now c.put_fault.new.page c.put_fault.new.writer) c.self.view_is c.put_fault.ensures in
    (text, put, word_torn c.args.text.now (sym c.if-is_empty.ensures) c.args.self.now y some.0 (sym c.if-is_blank.ensures) (sym c.in-Ok.ensures ∙ some.1) c.in_ok-next_line.ensures.ok)

pub returns-clause-ok : goal.returns-clause-ok
returns-clause-ok g c = IfOk-weaker c.data.result _ _ (λ _ step. (
  step.0,
  step.1,
  data_torn c.args.text.now (sym c.if-is_empty.ensures) c.args.self.now c.next_line.new.self c.data.new.self step.0 (sym c.if-is_blank.ensures) (sym c.in-Ok.ensures ∙ none_unless c.in-Ok.word c.if-is_some.ensures) c.in_ok-next_line.ensures.ok step.2,
)) c.data.ensures.ok

pub returns-clause-prefix : goal.returns-clause-prefix
returns-clause-prefix g c = IfErr-weaker c.data.result _ _ (λ _ prefix. (
  prefix.0,
  prefix.1,
  torn_breaks c.args.text.now c.args.self.now c.next_line.new.self prefix.0 (sym c.if-is_blank.ensures) c.in_ok-next_line.ensures.ok (sym c.if-is_empty.ensures) (sym c.in-Ok.ensures ∙ none_unless c.in-Ok.word c.if-is_some.ensures) prefix.2,
)) c.data.ensures.prefix

pub returns-in_err-next_line-clause-prefix : goal.returns-in_err-next_line-clause-prefix
returns-in_err-next_line-clause-prefix g c =
    let text = c.args.text.now in
    on_err _ c.from_residual.result ([], puts_nothing c.args.page.now c.args.writer.now, none_told (λ asked s. takes_torn asked text s) c.args.self.now (λ asked s. torn_grows asked text s))

pub returns-in_default-clause-prefix : goal.returns-in_default-clause-prefix
returns-in_default-clause-prefix g c =
    let text = c.args.text.now in
    ([], puts_nothing c.args.page.now c.args.writer.now, none_told (λ asked s. takes_torn asked text s) c.args.self.now (λ asked s. torn_grows asked text s))
