use Rattle.std.proofs.Common.{[], refl, subst, sym, arith}
use Rattle.std.proofs.lemmas.Result.{IfOk-weaker, IfErr-weaker}
use Rattle.nn_scenario.proofs.FollowLemmas.{text_unbroken}
use Rattle.nn_live.specs.Live.{takes}
use Rattle.nn_live.specs.Serving.{Breaks, FollowsStep, HasRunOut}
use Rattle.nn_live.specs.Taking.{Live, HasTorn}
use Rattle.nn_live.proofs.Breaking.{none_told}
use Rattle.nn_live.proofs.Growing.{line_grows}
use Rattle.nn_live.proofs.ServedLines.{text_long, text_whole, torn_text}
use Rattle.nn_live.proofs.live.Live.kept_line.Goals as goal

pub returns-then-text-gt-MAX_LINE_LEN-clause-ok : goal.returns-then-text-gt-MAX_LINE_LEN-clause-ok
returns-then-text-gt-MAX_LINE_LEN-clause-ok g c = IfOk-weaker c.long_line.result _ _ (λ _ step. (
  step.0,
  step.1,
  λ torn there.
      let has = subst (λ (x : Live). HasTorn torn x.torn) (sym c.self.view_is) there in
      let text = torn_text torn _ c.is_blank.result c.self.inside.torn c.as_slice-text.ensures.kept c.is_blank.ensures has.keeps in
      subst (λ (x : Live). FollowsStep (λ asked s. takes asked torn s) x.service c.long_line.new.self step.0) c.self.view_is
      (step.2 torn (text_long torn _ _ text (omega (arith, c.if-text-gt-MAX_LINE_LEN.true)))),
)) c.long_line.ensures.ok

pub returns-then-text-gt-MAX_LINE_LEN-clause-exhausted : goal.returns-then-text-gt-MAX_LINE_LEN-clause-exhausted
returns-then-text-gt-MAX_LINE_LEN-clause-exhausted g c is = subst (λ (x : Live). HasRunOut x.service) c.self.view_is (c.long_line.ensures.exhausted is)

pub returns-then-text-gt-MAX_LINE_LEN-clause-prefix : goal.returns-then-text-gt-MAX_LINE_LEN-clause-prefix
returns-then-text-gt-MAX_LINE_LEN-clause-prefix g c =
    IfErr-weaker c.long_line.result _ _ (λ _ put. ([], put, λ torn there. none_told (λ asked s. takes asked torn s) c.args.self.now.service (λ asked s. line_grows asked torn s))) c.long_line.ensures.put

pub line-requires : goal.line-requires
line-requires g c =
    let torn = c.self.invariant.0 in
    let has = c.self.invariant.1 in
    text_unbroken torn c.as_slice-text.result.now c.self.inside.torn.blank (torn_text torn _ _ c.self.inside.torn c.as_slice-text.ensures.kept refl has.keeps) has.unbroken

pub returns-clause-ok : goal.returns-clause-ok
returns-clause-ok g c = IfOk-weaker c.line.result _ _ (λ _ step. (
  step.0,
  step.1,
  λ torn there.
      let has = subst (λ (x : Live). HasTorn torn x.torn) (sym c.self.view_is) there in
      let whole = text_whole torn _ _ (torn_text torn c.as_slice-text.result.now c.self.inside.torn.blank c.self.inside.torn c.as_slice-text.ensures.kept refl has.keeps) (omega (arith, c.if-text-gt-MAX_LINE_LEN.false)) in
      subst (λ (x : Live). FollowsStep (λ asked s. takes asked torn s) x.service c.line.new.self step.0) c.self.view_is
      (subst (λ t. FollowsStep (λ asked s. takes asked t s) c.self.inside.service c.line.new.self step.0) whole step.2),
)) c.line.ensures.ok

pub returns-clause-prefix : goal.returns-clause-prefix
returns-clause-prefix g c = IfErr-weaker c.line.result _ _ (λ _ prefix. (
  prefix.0,
  prefix.1,
  λ torn there.
      let has = subst (λ (x : Live). HasTorn torn x.torn) (sym c.self.view_is) there in
      let whole = text_whole torn _ _ (torn_text torn c.as_slice-text.result.now c.self.inside.torn.blank c.self.inside.torn c.as_slice-text.ensures.kept refl has.keeps) (omega (arith, c.if-text-gt-MAX_LINE_LEN.false)) in
      subst (λ (x : Live). Breaks (λ asked s. takes asked torn s) x.service prefix.0) c.self.view_is
      (subst (λ t. Breaks (λ asked s. takes asked t s) c.self.inside.service prefix.0) whole prefix.2),
)) c.line.ensures.prefix
