use Rattle.std.proofs.Common.{◌≡◌, Some, None, ap, subst, sym, ◌∙◌, ◌+◌}
use Rattle.std.specs.Prelude.{◌==◌}
use Rattle.std.proofs.lemmas.Bool.{eq-eqb, ne_eqb}
use Rattle.nn_shadow.specs.contracts.shadow.Shadow.{the_view}
use Rattle.nn_shadow.specs.declared.fault.ApplyFault.TheVariants.{Stopped, AlreadyActive, Disorder}
use Rattle.nn_shadow.specs.Contents.{Shadow, standby_of}
use Rattle.nn_shadow.specs.Refusals.{turn_refusal}
use Rattle.nn_shadow.proofs.Refusing.{says_stopped, says_active, says_disorder, says_nothing}
use Rattle.nn_shadow.proofs.shadow.Shadow.out_of_turn.Goals as goal

pub returns-in-Some : goal.returns-in-Some
returns-in-Some c =
    let x = the_view c.self.inside in
    subst (λ (y : Shadow). Some (Stopped c.in-Some.stop) ≡ turn_refusal y.phase (standby_of y) c.args.tx.now) c.self.view_is
    (says_stopped x.phase (standby_of x) c.args.tx.now c.in-Some.stop c.in-Some.is)

pub returns-then-self : goal.returns-then-self
returns-then-self c =
    let x = the_view c.self.inside in
    subst (λ (y : Shadow). Some AlreadyActive ≡ turn_refusal y.phase (standby_of y) c.args.tx.now) c.self.view_is
    (says_active x.phase (standby_of x) c.args.tx.now c.in_default.is c.if-self.true)

pub returns-then-get-expected : goal.returns-then-get-expected
returns-then-get-expected c =
    let x = the_view c.self.inside in
    let next : c.get-expected.result + 1 ≡ x.last + 1 = ap (λ n. n + 1) c.get-expected.ensures.value in
    ap (λ n. Some (Disorder n)) next
    ∙ subst (λ (y : Shadow). Some (Disorder (x.last + 1)) ≡ turn_refusal y.phase (standby_of y) c.args.tx.now) c.self.view_is
    (says_disorder x.phase (standby_of x) c.args.tx.now c.in_default.is c.if-self.false
    (ap (λ k. k == x.last + 1) (sym c.get.ensures.value) ∙ ne_eqb c.get.result (x.last + 1) (λ is. c.if-get-expected.true (is ∙ sym next))))

pub returns : goal.returns
returns c =
    let x = the_view c.self.inside in
    subst (λ (y : Shadow). None ≡ turn_refusal y.phase (standby_of y) c.args.tx.now) c.self.view_is
    (says_nothing x.phase (standby_of x) c.args.tx.now c.in_default.is c.if-self.false
    (ap (λ k. k == x.last + 1) (sym c.get.ensures.value) ∙ eq-eqb c.get.result (x.last + 1) (c.if-get-expected.false ∙ ap (λ n. n + 1) c.get-expected.ensures.value)))
