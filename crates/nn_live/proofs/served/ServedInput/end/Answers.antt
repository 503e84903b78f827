use Rattle.std.proofs.Common.{◌+◌, refl, subst, sym, arith}
use Rattle.std.proofs.lemmas.Result.{IfOk-weaker, IfErr-weaker}
use Rattle.nn_input.specs.Cut.{KeepsFirst}
use Rattle.nn_scenario.proofs.FollowLemmas.{text_unbroken}
use Rattle.nn_types.specs.Limits.{max_line}
use Rattle.nn_live.specs.Live.{ends, takes_torn}
use Rattle.nn_live.specs.Served.{ServedInput}
use Rattle.nn_live.specs.Serving.{BreaksAtEnd, FollowsStep}
use Rattle.nn_live.proofs.ServedLines.{text_long, text_whole, torn_text}
use Rattle.nn_live.proofs.served.ServedInput.end.Goals as goal

pub returns-then-torn-gt-MAX_LINE_LEN-clause-ok : goal.returns-then-torn-gt-MAX_LINE_LEN-clause-ok
returns-then-torn-gt-MAX_LINE_LEN-clause-ok g c = IfOk-weaker c.end_long.result _ _ (λ _ step. (
  step.0,
  step.1,
  λ torn keeps.
      let there = subst (λ (x : ServedInput). KeepsFirst (max_line + 1) torn x.lines.torn) (sym c.self.view_is) keeps in
      let text = torn_text torn c.torn-torn.result.now c.is_torn_blank.result c.self.inside.lines.torn c.torn-torn.ensures c.is_torn_blank.ensures there in
      subst (λ (x : ServedInput). FollowsStep (λ asked s. ends asked (takes_torn asked torn s)) x.service c.end_long.new.self step.0) c.self.view_is
      (step.2 torn (text_long torn _ _ text (omega (arith, c.if-torn-gt-MAX_LINE_LEN.true)))),
)) c.end_long.ensures.ok

pub returns-then-torn-gt-MAX_LINE_LEN-clause-prefix : goal.returns-then-torn-gt-MAX_LINE_LEN-clause-prefix
returns-then-torn-gt-MAX_LINE_LEN-clause-prefix g c = IfErr-weaker c.end_long.result _ _ (λ _ prefix. (
  prefix.0,
  prefix.1,
  λ torn keeps.
      let there = subst (λ (x : ServedInput). KeepsFirst (max_line + 1) torn x.lines.torn) (sym c.self.view_is) keeps in
      let text = torn_text torn c.torn-torn.result.now c.is_torn_blank.result c.self.inside.lines.torn c.torn-torn.ensures c.is_torn_blank.ensures there in
      subst (λ (x : ServedInput). BreaksAtEnd torn x.service prefix.0) c.self.view_is
      (prefix.2 torn (text_long torn _ _ text (omega (arith, c.if-torn-gt-MAX_LINE_LEN.true)))),
)) c.end_long.ensures.prefix

pub end-requires : goal.end-requires
end-requires g c =
    let torn = c.requires.line.0 in
    let there = subst (λ (x : ServedInput). KeepsFirst (max_line + 1) torn x.lines.torn) (sym c.self.view_is) c.requires.line.2 in
    text_unbroken torn c.torn-torn.result.now c.self.inside.lines.torn.blank (torn_text torn _ _ c.self.inside.lines.torn c.torn-torn.ensures refl there) c.requires.line.1

pub returns-clause-ok : goal.returns-clause-ok
returns-clause-ok g c = IfOk-weaker c.end.result _ _ (λ _ step. (
  step.0,
  step.1,
  λ torn keeps.
      let there = subst (λ (x : ServedInput). KeepsFirst (max_line + 1) torn x.lines.torn) (sym c.self.view_is) keeps in
      let text = torn_text torn c.torn-torn.result.now c.self.inside.lines.torn.blank c.self.inside.lines.torn c.torn-torn.ensures refl there in
      let whole = text_whole torn _ _ text (omega (arith, c.if-torn-gt-MAX_LINE_LEN.false)) in
      subst (λ (x : ServedInput). FollowsStep (λ asked s. ends asked (takes_torn asked torn s)) x.service c.end.new.self step.0) c.self.view_is
      (subst (λ t. FollowsStep (λ asked s. ends asked (takes_torn asked t s)) c.self.inside.service c.end.new.self step.0) whole step.2),
)) c.end.ensures.ok

pub returns-clause-prefix : goal.returns-clause-prefix
returns-clause-prefix g c = IfErr-weaker c.end.result _ _ (λ _ prefix. (
  prefix.0,
  prefix.1,
  λ torn keeps.
      let there = subst (λ (x : ServedInput). KeepsFirst (max_line + 1) torn x.lines.torn) (sym c.self.view_is) keeps in
      let text = torn_text torn c.torn-torn.result.now c.self.inside.lines.torn.blank c.self.inside.lines.torn c.torn-torn.ensures refl there in
      let whole = text_whole torn _ _ text (omega (arith, c.if-torn-gt-MAX_LINE_LEN.false)) in
      subst (λ (x : ServedInput). BreaksAtEnd torn x.service prefix.0) c.self.view_is (subst (λ t. BreaksAtEnd t c.self.inside.service prefix.0) whole prefix.2),
)) c.end.ensures.prefix
