use Rattle.std.proofs.Common.{◌≡◌, ◌∙◌, sym, arith, Err, [], ◌++◌, inl, inr}
use Rattle.std.proofs.lemmas.Result.{IfOk-weaker, IfErr-weaker}
use Rattle.nn_device.proofs.Pages.{puts_both}
use Rattle.nn_live.specs.Live.{ends, takes, takes_torn}
use Rattle.nn_live.specs.declared.service.ServiceFault.TheVariants.{Exhausted}
use Rattle.nn_live.proofs.Breaking.{edits_at_end, none_at_end}
use Rattle.nn_live.proofs.Places.{both_err, of_err, on_err, same_makes, then_makes}
use Rattle.nn_live.proofs.Cutting.{some_long}
use Rattle.nn_live.proofs.Reading.{torn_as_line}
use Rattle.nn_live.proofs.service.Service.end_long.Goals as goal

pub returns-clause-ok : goal.returns-clause-ok
returns-clause-ok g c =
    let one = c.in_ok-long_line.ensures.ok in
    let x = c.args.self.now in
    let y = c.long_line.new.self in
    IfOk-weaker c.end_edits.result _ _ (λ _ step. (
      one.0 ++ step.0,
      puts_both one.0 step.0 _ _ _ _ _ _ one.1 step.1,
      λ torn is. then_makes (λ asked s. takes_torn asked torn s) (λ asked s. ends asked s) x y c.end_edits.new.self one.0 step.0
          (same_makes (λ asked s. takes_torn asked torn s) (λ asked s. takes asked torn s) x y one.0 (λ asked s i. torn_as_line torn is.long asked s) (one.2 torn is)) step.2,
    )) c.end_edits.ensures.ok

pub returns-clause-exhausted : goal.returns-clause-exhausted
returns-clause-exhausted g c fault torn is =
    let one = c.in_ok-long_line.ensures.ok in
    let x = c.args.self.now in
    let y = c.long_line.new.self in
    let made = same_makes (λ asked s. takes_torn asked torn s) (λ asked s. takes asked torn s) x y one.0 (λ asked s i. torn_as_line torn is.long asked s) (one.2 torn is) in
    inr (y, one.0, made, (of_err c.end_edits.result _ Exhausted fault c.end_edits.ensures.exhausted).1)

pub returns-clause-prefix : goal.returns-clause-prefix
returns-clause-prefix g c =
    let one = c.in_ok-long_line.ensures.ok in
    let x = c.args.self.now in
    let y = c.long_line.new.self in
    IfErr-weaker c.end_edits.result _ _ (λ _ end. (
      one.0 ++ [],
      puts_both one.0 [] _ _ _ _ _ _ one.1 end.0,
      λ torn is. edits_at_end torn x y one.0 (same_makes (λ asked s. takes_torn asked torn s) (λ asked s. takes asked torn s) x y one.0 (λ asked s i. torn_as_line torn is.long asked s) (one.2 torn is)) end.1,
    )) (both_err c.end_edits.result _ _ c.end_edits.ensures.put c.end_edits.ensures.says)

pub returns-in_err-long_line-clause-exhausted : goal.returns-in_err-long_line-clause-exhausted
returns-in_err-long_line-clause-exhausted g c fault torn is =
    let told : c.from_residual.result ≡ Err c.in_err-long_line.field-0.0 = grind arith in
    inl (c.long_line.ensures.exhausted (c.in_err-long_line.was ∙ sym told ∙ fault))

pub returns-in_err-long_line-clause-prefix : goal.returns-in_err-long_line-clause-prefix
returns-in_err-long_line-clause-prefix g c =
    on_err _ c.from_residual.result ([], c.in_err-long_line.ensures.put, λ torn is. none_at_end torn c.args.self.now (some_long torn is.long))
