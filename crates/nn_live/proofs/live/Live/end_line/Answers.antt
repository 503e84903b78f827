use Rattle.std.proofs.Common.{◌≡◌, ◌∙◌, arith, rules, Err, ◌++◌, ◌∷◌, [], List, ℕ, length, subst, sym}
use Rattle.std.proofs.lemmas.Result.{IfOk-weaker, IfErr-weaker}
use Rattle.nn_bytes.specs.Lines.{line_feed}
use Rattle.nn_live.specs.Live.{takes}
use Rattle.nn_device.proofs.Pages.{puts_nothing}
use Rattle.nn_live.specs.Serving.{Breaks, HasRunOut, FollowsStep, Service}
use Rattle.nn_live.specs.Taking.{BreaksPush, Live, HasTorn, Pushes}
use Rattle.nn_live.proofs.BrokenPushes.{alone_broke, line_broke, nothing_pushed, some_line}
use Rattle.nn_live.proofs.Cutting.{line_alone, line_ended, none_torn}
use Rattle.nn_live.proofs.Places.{not_memory, on_err}
use Rattle.nn_live.proofs.live.Live.end_line.Goals as goal

pub returns-then-is_empty-clause-ok : goal.returns-then-is_empty-clause-ok
returns-then-is_empty-clause-ok g c =
    let none : length c.self.inside.torn.kept ≡ 0 = search rules in
    IfOk-weaker c.line.result _ _ (λ _ step. (
      step.0,
      step.1,
      subst (λ (x : Live). Pushes (c.args.text.now ++ line_feed ∷ []) x (record { service = c.line.new.self; torn = c.self.inside.torn }) step.0) c.self.view_is
          (line_alone c.args.text.now step.0 c.self.inside.service c.line.new.self c.self.inside.torn c.requires none step.2),
    )) c.line.ensures.ok

pub returns-then-is_empty-clause-exhausted : goal.returns-then-is_empty-clause-exhausted
returns-then-is_empty-clause-exhausted g c is = subst (λ (x : Live). HasRunOut x.service) c.self.view_is (c.line.ensures.exhausted is)

pub returns-then-is_empty-clause-prefix : goal.returns-then-is_empty-clause-prefix
returns-then-is_empty-clause-prefix g c =
    let none : length c.self.inside.torn.kept ≡ 0 = search rules in
    IfErr-weaker c.line.result _ _ (λ _ prefix. (
      prefix.0,
      prefix.1,
      subst (λ (x : Live). BreaksPush (c.args.text.now ++ line_feed ∷ []) x prefix.0) c.self.view_is
          (alone_broke c.args.text.now prefix.0 c.self.inside.service c.self.inside.torn c.requires (λ torn there. none_torn torn c.self.inside.torn there none) prefix.2),
    )) c.line.ensures.prefix

pub returns-clause-ok : goal.returns-clause-ok
returns-clause-ok g c =
    let one = c.in_ok-kept_line.ensures.ok in
    let old = c.args.self.now in
    let text = c.args.text.now in
    let made : (torn : List ℕ) → HasTorn torn old.torn → FollowsStep (λ asked s. takes asked (torn ++ text) s) old.service c.forget_line.new.self.service one.0 = λ torn there.
    subst (λ (x : Service). FollowsStep (λ asked s. takes asked (torn ++ text) s) old.service x one.0) (sym c.forget_line.ensures.service)
    (subst (λ (x : Service). FollowsStep (λ asked s. takes asked (torn ++ text) s) x c.kept_line.new.self.service one.0) c.keep.ensures.service (one.2 (torn ++ text) (c.in_ok-keep.ensures.ok torn there))) in (
      one.0,
      one.1,
      line_ended text one.0 old c.forget_line.new.self c.requires (λ torn there. c.forget_line.ensures.torn) made,
    )

pub returns-in_err-keep-clause-exhausted : goal.returns-in_err-keep-clause-exhausted
returns-in_err-keep-clause-exhausted g c is =
    let told : c.from_residual.result ≡ Err c.in_err-keep.field-0.0 = grind arith in
    absurd (not_memory _ (c.in_err-keep.was ∙ sym told ∙ is) c.keep.ensures.left)

pub returns-in_err-kept_line-clause-exhausted : goal.returns-in_err-kept_line-clause-exhausted
returns-in_err-kept_line-clause-exhausted g c is =
    let told : c.from_residual-in_err-kept_line.result ≡ Err c.in_err-kept_line.field-0.0 = grind arith in
    subst (λ (x : Service). HasRunOut x) c.keep.ensures.service (c.kept_line.ensures.exhausted (c.in_err-kept_line.was ∙ sym told ∙ is))

pub returns-in_err-keep-clause-prefix : goal.returns-in_err-keep-clause-prefix
returns-in_err-keep-clause-prefix g c =
    on_err _ c.from_residual.result ([], puts_nothing c.args.page.now c.args.writer.now, nothing_pushed (c.args.text.now ++ line_feed ∷ []) c.args.self.now (some_line c.args.text.now))

pub returns-in_err-kept_line-clause-prefix : goal.returns-in_err-kept_line-clause-prefix
returns-in_err-kept_line-clause-prefix g c =
    let prefix = c.in_err-kept_line.ensures.prefix in
    let old = c.args.self.now in
    let text = c.args.text.now in
    let broke : (torn : List ℕ) → HasTorn torn old.torn → Breaks (λ asked s. takes asked (torn ++ text) s) old.service prefix.0 = λ torn there.
    subst (λ (x : Service). Breaks (λ asked s. takes asked (torn ++ text) s) x prefix.0) c.keep.ensures.service (prefix.2 (torn ++ text) (c.in_ok-keep.ensures.ok torn there)) in
    on_err _ c.from_residual-in_err-kept_line.result (prefix.0, prefix.1, line_broke text prefix.0 old c.requires broke)
