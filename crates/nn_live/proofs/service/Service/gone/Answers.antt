use Rattle.std.proofs.Common.{false, [], ◌∷◌, ◌++◌, inr, sym, subst, ap₂, ◌∙◌, List}
use Rattle.nn_types.specs.declared.report.Kind.TheVariants.{Finish}
use Rattle.nn_types.specs.declared.report.Report.{Report}
use Rattle.nn_device.proofs.Pages.{puts_both}
use Rattle.nn_live.specs.Live.{hands, mark_of}
use Rattle.nn_live.specs.Serving.{FollowsStep}
use Rattle.nn_live.proofs.Handing.{both_handed, first_refused}
use Rattle.nn_live.proofs.Places.{on_err, then_makes}
use Rattle.nn_live.proofs.service.Service.gone.Goals as goal

pub returns-in_ok-hand-2-clause-ok : goal.returns-in_ok-hand-2-clause-ok
returns-in_ok-hand-2-clause-ok g c =
    let x = c.args.self.now in
    let r = c.mark_of.result in
    let q = c.mark_of-then-branch.result in
    let one = c.in_ok-hand.ensures.ok in
    let two = c.in_ok-hand-2.ensures.ok in
    let made = both_handed false x c.hand.new.self r q one.0 one.2 c.hand-then-branch.new.self two.0 (sym c.if-branch.true ∙ c.in_ok-hand.ensures.taken) two.2 in
    let spelled = subst (λ (rs : List Report). FollowsStep (λ asked s. hands asked false rs s) x c.hand-then-branch.new.self (one.0 ++ two.0)) (ap₂ (λ (a b : Report). a ∷ b ∷ []) c.mark_of.ensures c.mark_of-then-branch.ensures) made in
    (one.0 ++ two.0, puts_both one.0 two.0 _ _ _ _ _ _ one.1 two.1, spelled)

pub returns-else-branch-clause-ok : goal.returns-else-branch-clause-ok
returns-else-branch-clause-ok g c =
    let x = c.args.self.now in
    let one = c.in_ok-hand.ensures.ok in
    let q = mark_of c.args.dn Finish in
    let refuses = sym c.if-branch.false ∙ c.in_ok-hand.ensures.taken in
    let made = first_refused false x c.hand.new.self c.mark_of.result q one.0 one.2 refuses in
    (one.0, one.1, subst (λ (a : Report). FollowsStep (λ asked s. hands asked false (a ∷ q ∷ []) s) x c.hand.new.self one.0) c.mark_of.ensures made)

pub returns-in_err-hand-2-clause-cut : goal.returns-in_err-hand-2-clause-cut
returns-in_err-hand-2-clause-cut g c =
    let x = c.args.self.now in
    let one = c.in_ok-hand.ensures.ok in
    let two = c.in_err-hand-2.ensures.left in
    let made = then_makes (λ asked s. hands asked false (c.mark_of.result ∷ []) s) (λ _ s. s) x c.hand.new.self c.hand-then-branch.new.self one.0 two.0 one.2 two.2 in
    let spelled = subst (λ (r : Report). FollowsStep (λ asked s. hands asked false (r ∷ []) s) x c.hand-then-branch.new.self (one.0 ++ two.0)) c.mark_of.ensures made in
    on_err _ c.from_residual-in_err-hand-2.result (inr (one.0 ++ two.0, puts_both one.0 two.0 _ _ _ _ _ _ one.1 two.1, spelled))
