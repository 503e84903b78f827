use Rattle.std.proofs.Common.{◌≡◌, ◌∙◌, sym, arith, Err, [], ◌++◌, inl, inr}
use Rattle.std.proofs.lemmas.Result.{IfOk-weaker, IfErr-weaker}
use Rattle.nn_device.proofs.Pages.{puts_both}
use Rattle.nn_live.specs.Live.{ends, takes_torn}
use Rattle.nn_live.specs.declared.service.ServiceFault.TheVariants.{Exhausted}
use Rattle.nn_live.proofs.Breaking.{edits_at_end, line_at_end}
use Rattle.nn_live.proofs.Places.{both_err, of_err, on_err, then_makes}
use Rattle.nn_live.proofs.service.Service.end.Goals as goal

pub returns-clause-ok : goal.returns-clause-ok
returns-clause-ok g c =
    let one = c.in_ok-torn_line.ensures.ok in
    IfOk-weaker c.end_edits.result _ _ (λ _ step. (
      one.0 ++ step.0,
      puts_both one.0 step.0 _ _ _ _ _ _ one.1 step.1,
      then_makes (λ asked s. takes_torn asked c.args.torn.now s) (λ asked s. ends asked s) c.args.self.now c.torn_line.new.self c.end_edits.new.self one.0 step.0 one.2 step.2,
    )) c.end_edits.ensures.ok

pub returns-clause-exhausted : goal.returns-clause-exhausted
returns-clause-exhausted g c is =
    let one = c.in_ok-torn_line.ensures.ok in
    inr (c.torn_line.new.self, one.0, one.2, (of_err c.end_edits.result _ Exhausted is c.end_edits.ensures.exhausted).1)

pub returns-clause-prefix : goal.returns-clause-prefix
returns-clause-prefix g c =
    let one = c.in_ok-torn_line.ensures.ok in
    let put = both_err c.end_edits.result _ _ c.end_edits.ensures.put c.end_edits.ensures.says in
    IfErr-weaker c.end_edits.result _ _ (λ _ end. (
      one.0 ++ [],
      puts_both one.0 [] _ _ _ _ _ _ one.1 end.0,
      edits_at_end c.args.torn.now c.args.self.now c.torn_line.new.self one.0 one.2 end.1,
    )) put

pub returns-in_err-torn_line-clause-exhausted : goal.returns-in_err-torn_line-clause-exhausted
returns-in_err-torn_line-clause-exhausted g c is =
    let told : c.from_residual.result ≡ Err c.in_err-torn_line.field-0.0 = grind arith in
    inl (c.torn_line.ensures.exhausted (c.in_err-torn_line.was ∙ sym told ∙ is))

pub returns-in_err-torn_line-clause-prefix : goal.returns-in_err-torn_line-clause-prefix
returns-in_err-torn_line-clause-prefix g c =
    let prefix = c.in_err-torn_line.ensures.prefix in
    on_err _ c.from_residual.result (prefix.0, prefix.1, line_at_end c.args.torn.now c.args.self.now prefix.0 c.in_err-torn_line.ensures.some prefix.2)
