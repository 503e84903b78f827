use Rattle.std.proofs.Common.{refl, subst, arith}
use Rattle.std.proofs.lemmas.Result.{IfOk-weaker, IfErr-weaker}
use Rattle.nn_scenario.proofs.FollowLemmas.{text_unbroken}
use Rattle.nn_live.specs.Live.{ends, takes_torn}
use Rattle.nn_live.specs.Serving.{BreaksAtEnd, FollowsStep, RunsOutBehind}
use Rattle.nn_live.specs.Taking.{BreaksEnd, Live, EndsInput, RunsOutAtEnd}
use Rattle.nn_live.proofs.Cutting.{finishes}
use Rattle.nn_live.proofs.ServedLines.{text_long, text_whole, torn_text}
use Rattle.nn_live.proofs.live.Live.end.Goals as goal

pub returns-then-torn-gt-MAX_LINE_LEN-clause-ok : goal.returns-then-torn-gt-MAX_LINE_LEN-clause-ok
returns-then-torn-gt-MAX_LINE_LEN-clause-ok g c =
    let old = c.self.inside in
    IfOk-weaker c.end_long.result _ _ (λ _ step. (
      step.0,
      step.1,
      subst (λ (x : Live). EndsInput x (record { service = c.end_long.new.self; torn = old.torn }) step.0) c.self.view_is
          (finishes old.service c.end_long.new.self old.torn old.torn step.0 (λ torn there. step.2 torn (text_long torn _ _ (torn_text torn _ c.is_blank.result old.torn c.as_slice-torn.ensures.kept c.is_blank.ensures there.keeps) (omega (arith, c.if-torn-gt-MAX_LINE_LEN.true))))),
    )) c.end_long.ensures.ok

pub returns-then-torn-gt-MAX_LINE_LEN-clause-exhausted : goal.returns-then-torn-gt-MAX_LINE_LEN-clause-exhausted
returns-then-torn-gt-MAX_LINE_LEN-clause-exhausted g c is =
    let old = c.self.inside in
    subst (λ (x : Live). RunsOutAtEnd x) c.self.view_is (λ torn there. c.end_long.ensures.exhausted is torn (text_long torn _ _ (torn_text torn _ c.is_blank.result old.torn c.as_slice-torn.ensures.kept c.is_blank.ensures there.keeps) (omega (arith, c.if-torn-gt-MAX_LINE_LEN.true))))

pub returns-then-torn-gt-MAX_LINE_LEN-clause-prefix : goal.returns-then-torn-gt-MAX_LINE_LEN-clause-prefix
returns-then-torn-gt-MAX_LINE_LEN-clause-prefix g c =
    let old = c.self.inside in
    IfErr-weaker c.end_long.result _ _ (λ _ prefix. (
      prefix.0,
      prefix.1,
      subst (λ (x : Live). BreaksEnd x prefix.0) c.self.view_is
          (λ torn there. prefix.2 torn (text_long torn _ _ (torn_text torn _ c.is_blank.result old.torn c.as_slice-torn.ensures.kept c.is_blank.ensures there.keeps) (omega (arith, c.if-torn-gt-MAX_LINE_LEN.true)))),
    )) c.end_long.ensures.prefix

pub end-requires : goal.end-requires
end-requires g c =
    let torn = c.self.invariant.0 in
    let has = c.self.invariant.1 in
    text_unbroken torn c.as_slice-torn.result.now c.self.inside.torn.blank (torn_text torn _ _ c.self.inside.torn c.as_slice-torn.ensures.kept refl has.keeps) has.unbroken

pub returns-clause-ok : goal.returns-clause-ok
returns-clause-ok g c =
    let old = c.self.inside in
    IfOk-weaker c.end.result _ _ (λ _ step. (
      step.0,
      step.1,
      subst (λ (x : Live). EndsInput x (record { service = c.end.new.self; torn = old.torn }) step.0) c.self.view_is
          (finishes old.service c.end.new.self old.torn old.torn step.0 (λ torn there.
          subst (λ t. FollowsStep (λ asked s. ends asked (takes_torn asked t s)) old.service c.end.new.self step.0) (text_whole torn _ _ (torn_text torn c.as_slice-torn.result.now old.torn.blank old.torn c.as_slice-torn.ensures.kept refl there.keeps) (omega (arith, c.if-torn-gt-MAX_LINE_LEN.false))) step.2)),
    )) c.end.ensures.ok

pub returns-clause-exhausted : goal.returns-clause-exhausted
returns-clause-exhausted g c is =
    let old = c.self.inside in
    subst (λ (x : Live). RunsOutAtEnd x) c.self.view_is
    (λ torn there. subst (λ t. RunsOutBehind t old.service) (text_whole torn _ _ (torn_text torn c.as_slice-torn.result.now old.torn.blank old.torn c.as_slice-torn.ensures.kept refl there.keeps) (omega (arith, c.if-torn-gt-MAX_LINE_LEN.false))) (c.end.ensures.exhausted is))

pub returns-clause-prefix : goal.returns-clause-prefix
returns-clause-prefix g c =
    let old = c.self.inside in
    IfErr-weaker c.end.result _ _ (λ _ prefix. (
      prefix.0,
      prefix.1,
      subst (λ (x : Live). BreaksEnd x prefix.0) c.self.view_is
          (λ torn there. subst (λ t. BreaksAtEnd t old.service prefix.0) (text_whole torn _ _ (torn_text torn c.as_slice-torn.result.now old.torn.blank old.torn c.as_slice-torn.ensures.kept refl there.keeps) (omega (arith, c.if-torn-gt-MAX_LINE_LEN.false))) prefix.2),
    )) c.end.ensures.prefix
