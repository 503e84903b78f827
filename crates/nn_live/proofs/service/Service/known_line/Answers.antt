use Rattle.std.proofs.Common.{[], sym, ◌∙◌}
use Rattle.std.proofs.lemmas.Result.{IfOk-weaker, IfErr-weaker}
use Rattle.nn_device.proofs.Pages.{puts_nothing}
use Rattle.nn_live.specs.Live.{takes}
use Rattle.nn_live.proofs.Breaking.{none_told}
use Rattle.nn_live.proofs.BrokenLines.{word_breaks, data_breaks}
use Rattle.nn_live.proofs.Growing.{line_grows}
use Rattle.nn_live.proofs.Places.{on_err}
use Rattle.nn_live.proofs.Reading.{blank_line, word_line, data_line}
use Rattle.nn_live.proofs.service.Service.known_line.Goals as goal

pub returns-then-is_blank-clause-ok : goal.returns-then-is_blank-clause-ok
returns-then-is_blank-clause-ok g c =
    ([], puts_nothing c.args.page.now c.args.writer.now, blank_line c.args.text.now c.args.self.now c.next_line.new.self (sym c.if-is_blank.ensures) c.in_ok-next_line.ensures.ok)

pub returns-in-Some-clause-ok : goal.returns-in-Some-clause-ok
returns-in-Some-clause-ok g c = IfOk-weaker c.answer.result _ _ (λ _ step. (
  step.0,
  step.1,
  word_line c.args.text.now c.args.self.now c.next_line.new.self c.answer.new.self c.in-Some.word step.0 (sym c.if-is_blank.ensures) (sym c.in-Ok.ensures ∙ c.in-Some.is) c.in_ok-next_line.ensures.ok step.2,
)) c.answer.ensures.ok

pub returns-in-None-clause-ok : goal.returns-in-None-clause-ok
returns-in-None-clause-ok g c = IfOk-weaker c.data.result _ _ (λ _ step. (
  step.0,
  step.1,
  data_line c.args.text.now c.args.self.now c.next_line.new.self c.data.new.self step.0 (sym c.if-is_blank.ensures) (sym c.in-Ok.ensures ∙ c.in-None.is) c.in_ok-next_line.ensures.ok step.2,
)) c.data.ensures.ok

pub returns-in_err-next_line-clause-prefix : goal.returns-in_err-next_line-clause-prefix
returns-in_err-next_line-clause-prefix g c =
    let text = c.args.text.now in
    on_err _ c.from_residual.result ([], puts_nothing c.args.page.now c.args.writer.now, none_told (λ asked s. takes asked text s) c.args.self.now (λ asked s. line_grows asked text s))

pub returns-in_default-clause-prefix : goal.returns-in_default-clause-prefix
returns-in_default-clause-prefix g c =
    let text = c.args.text.now in
    ([], puts_nothing c.args.page.now c.args.writer.now, none_told (λ asked s. takes asked text s) c.args.self.now (λ asked s. line_grows asked text s))

pub returns-in-Some-clause-prefix : goal.returns-in-Some-clause-prefix
returns-in-Some-clause-prefix g c = IfErr-weaker c.answer.result _ _ (λ _ prefix. (
  prefix.0,
  prefix.1,
  word_breaks c.args.text.now c.args.self.now c.next_line.new.self prefix.0 (sym c.if-is_blank.ensures) c.in_ok-next_line.ensures.ok c.in-Some.word (sym c.in-Ok.ensures ∙ c.in-Some.is) prefix.2,
)) c.answer.ensures.prefix

pub returns-in-None-clause-prefix : goal.returns-in-None-clause-prefix
returns-in-None-clause-prefix g c = IfErr-weaker c.data.result _ _ (λ _ prefix. (
  prefix.0,
  prefix.1,
  data_breaks c.args.text.now c.args.self.now c.next_line.new.self prefix.0 (sym c.if-is_blank.ensures) c.in_ok-next_line.ensures.ok (sym c.in-Ok.ensures ∙ c.in-None.is) prefix.2,
)) c.data.ensures.prefix
