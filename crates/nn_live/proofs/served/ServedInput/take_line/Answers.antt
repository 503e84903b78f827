use Rattle.std.proofs.Common.{◌≡◌, [], true, length, subst, sym, ap, ◌∙◌, arith}
use Rattle.std.proofs.lemmas.Result.{IfOk-weaker, IfErr-weaker}
use Rattle.nn_bytes.specs.Pieces.{is_unbroken}
use Rattle.nn_bytes.specs.Runs.{IsPrintableTo}
use Rattle.nn_input.specs.Cut.{line_blank, line_text}
use Rattle.nn_scenario.specs.Follow.{IsLineText}
use Rattle.nn_scenario.proofs.FollowLemmas.{same_text, text_unbroken}
use Rattle.nn_live.specs.Live.{takes}
use Rattle.nn_live.specs.Served.{ServedInput}
use Rattle.nn_live.specs.Serving.{Breaks, FollowsStep}
use Rattle.nn_live.proofs.Breaking.{none_told}
use Rattle.nn_live.proofs.Growing.{line_grows}
use Rattle.nn_live.proofs.ServedLines.{text_long, text_whole}
use Rattle.nn_live.proofs.served.ServedInput.take_line.Goals as goal

pub returns-then-text-gt-MAX_LINE_LEN-clause-ok : goal.returns-then-text-gt-MAX_LINE_LEN-clause-ok
returns-then-text-gt-MAX_LINE_LEN-clause-ok g c = IfOk-weaker c.long_line.result _ _ (λ _ step. (
  step.0,
  step.1,
  λ line is.
      let there = subst (λ (x : ServedInput). IsLineText line (line_text x.lines c.args.place) (line_blank x.lines c.args.place)) (sym c.self.view_is) is in
      subst (λ (x : ServedInput). FollowsStep (λ asked s. takes asked line s) x.service c.long_line.new.self step.0) c.self.view_is
      (step.2 line (text_long line c.text-text.result.now c.is_blank.result (same_text c.text-text.ensures.text c.is_blank.ensures there) (omega (arith, c.if-text-gt-MAX_LINE_LEN.true)))),
)) c.long_line.ensures.ok

pub returns-then-text-gt-MAX_LINE_LEN-clause-prefix : goal.returns-then-text-gt-MAX_LINE_LEN-clause-prefix
returns-then-text-gt-MAX_LINE_LEN-clause-prefix g c =
    IfErr-weaker c.long_line.result _ _ (λ _ put. ([], put, λ line is. none_told (λ asked s. takes asked line s) c.args.self.now.service (λ asked s. line_grows asked line s))) c.long_line.ensures.put

pub known_line-requires-clause-whole : goal.known_line-requires-clause-whole
known_line-requires-clause-whole g c =
    let line = c.requires.line.0 in
    let there = subst (λ (x : ServedInput). IsLineText line (line_text x.lines c.args.place) (line_blank x.lines c.args.place)) (sym c.self.view_is) c.requires.line.2 in
    subst (λ t. is_unbroken t ≡ true) (sym c.text-text.ensures.text) (text_unbroken line _ _ there c.requires.line.1)

pub known_line-requires-clause-printable : goal.known_line-requires-clause-printable
known_line-requires-clause-printable g c = subst (IsPrintableTo c.printable-printable.result) (sym c.text-text.ensures.text) c.printable-printable.ensures

pub returns-clause-ok : goal.returns-clause-ok
returns-clause-ok g c = IfOk-weaker c.known_line.result _ _ (λ _ step. (
  step.0,
  step.1,
  λ line is.
      let there = subst (λ (x : ServedInput). IsLineText line (line_text x.lines c.args.place) (line_blank x.lines c.args.place)) (sym c.self.view_is) is in
      let whole = c.text-text.ensures.text ∙ text_whole line _ _ there (omega (arith, ap length c.text-text.ensures.text, c.if-text-gt-MAX_LINE_LEN.false)) in
      subst (λ (x : ServedInput). FollowsStep (λ asked s. takes asked line s) x.service c.known_line.new.self step.0) c.self.view_is
      (subst (λ t. FollowsStep (λ asked s. takes asked t s) c.self.inside.service c.known_line.new.self step.0) whole step.2),
)) c.known_line.ensures.ok

pub returns-clause-prefix : goal.returns-clause-prefix
returns-clause-prefix g c = IfErr-weaker c.known_line.result _ _ (λ _ prefix. (
  prefix.0,
  prefix.1,
  λ line is.
      let there = subst (λ (x : ServedInput). IsLineText line (line_text x.lines c.args.place) (line_blank x.lines c.args.place)) (sym c.self.view_is) is in
      let whole = c.text-text.ensures.text ∙ text_whole line _ _ there (omega (arith, ap length c.text-text.ensures.text, c.if-text-gt-MAX_LINE_LEN.false)) in
      subst (λ (x : ServedInput). Breaks (λ asked s. takes asked line s) x.service prefix.0) c.self.view_is
      (subst (λ t. Breaks (λ asked s. takes asked t s) c.self.inside.service prefix.0) whole prefix.2),
)) c.known_line.ensures.prefix
