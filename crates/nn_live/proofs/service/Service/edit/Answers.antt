use Rattle.std.proofs.Common.{[], max, sym, subst, arith}
use Rattle.std.proofs.lemmas.Result.{IfOk-weaker, IfErr-weaker}
use Rattle.nn_device.proofs.Pages.{puts_nothing}
use Rattle.nn_scenario.specs.Cut.{EditLine, with_line, no_lines}
use Rattle.nn_live.specs.Live.{LiveSetup, ServiceState, takes_edit}
use Rattle.nn_live.specs.Serving.{FollowsStep, Service}
use Rattle.nn_live.proofs.Breaking.{none_told}
use Rattle.nn_live.proofs.BrokenEdits.{going_on_breaks}
use Rattle.nn_live.proofs.Growing.{edit_grows}
use Rattle.nn_live.proofs.Places.{on_err}
use Rattle.nn_live.proofs.Editing.{goes_on, begins, taken_up}
use Rattle.nn_live.proofs.service.Service.edit.Goals as goal

pub take_up-requires : goal.take_up-requires
take_up-requires g c =
    let line : EditLine = record { text = c.args.text.now; tx = c.args.tx } in
    (with_line no_lines line, taken_up line c.none-begun.result c.push.new.self (sym c.if-not-is_start.ensures) c.none-begun.ensures c.in_ok-push.ensures.ok)

pub returns-then-not-is_start-clause-ok : goal.returns-then-not-is_start-clause-ok
returns-then-not-is_start-clause-ok g c = IfOk-weaker c.keep_edit.result _ _ (λ _ step.
    (let line : EditLine = record { text = c.args.text.now; tx = c.args.tx } in
    (step.0, step.1, goes_on line c.args.self.now c.keep_edit.new.self step.0 (sym c.if-not-is_start.ensures) step.2))) c.keep_edit.ensures.ok

pub returns-clause-ok : goal.returns-clause-ok
returns-clause-ok g c =
    let line : EditLine = record { text = c.args.text.now; tx = c.args.tx } in
    let first = c.in_ok-end_edits.ensures.ok in
    let x = c.args.self.now in
    let y = c.end_edits.new.self in
    let step : LiveSetup → ServiceState → ServiceState = λ asked s. takes_edit asked line s in
    let made = begins line x y c.none-begun.result c.push.new.self first.0 (sym c.if-not-is_start.ensures) first.2 c.in_ok-end_edits.ensures.none c.none-begun.ensures c.in_ok-push.ensures.ok in
    let here = subst (λ k. FollowsStep step x (record y { in_hand = c.push.new.self; known = max y.known k }) first.0) (sym c.get-txid.ensures.value) made in
    (first.0, first.1, subst (λ (v : Service). FollowsStep step x v first.0) (sym c.take_up.ensures) here)

pub returns-then-not-is_start-clause-prefix : goal.returns-then-not-is_start-clause-prefix
returns-then-not-is_start-clause-prefix g c = IfErr-weaker c.keep_edit.result _ _ (λ _ prefix.
    (let line : EditLine = record { text = c.args.text.now; tx = c.args.tx } in
    (prefix.0, prefix.1, going_on_breaks line c.args.self.now prefix.0 (sym c.if-not-is_start.ensures) prefix.2))) c.keep_edit.ensures.prefix

pub returns-in_err-push-clause-exhausted : goal.returns-in_err-push-clause-exhausted
returns-in_err-push-clause-exhausted g c = λ is. absurd (
    let many = c.in_err-push.ensures.exhausted (grind (arith, is, c.from_residual.ensures)) in
    omega (arith, many, c.none-begun.ensures.edits))

pub returns-in_err-push-clause-prefix : goal.returns-in_err-push-clause-prefix
returns-in_err-push-clause-prefix g c =
    let line : EditLine = record { text = c.args.text.now; tx = c.args.tx } in
    on_err _ c.from_residual.result ([], puts_nothing c.args.page.now c.args.writer.now, none_told (λ asked s. takes_edit asked line s) c.args.self.now (λ asked s. edit_grows asked line s))

pub returns-in_err-end_edits-clause-prefix : goal.returns-in_err-end_edits-clause-prefix
returns-in_err-end_edits-clause-prefix g c =
    let line : EditLine = record { text = c.args.text.now; tx = c.args.tx } in
    on_err _ c.from_residual-in_err-end_edits.result ([], c.in_err-end_edits.ensures.put, none_told (λ asked s. takes_edit asked line s) c.args.self.now (λ asked s. edit_grows asked line s))
