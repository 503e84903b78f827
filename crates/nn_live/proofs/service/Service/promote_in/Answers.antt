use Rattle.std.proofs.Common.{◌≡◌, ◌<◌, ◌≤◌, ltb, true, false, codes, sym, subst, ap, ◌∙◌, arith}
use Rattle.std.proofs.lemmas.Bool.{lt-ltb, le-ltb}
use Rattle.std.proofs.lemmas.Result.{IfOk-weaker}
use Rattle.nn_types.specs.declared.fault.TheConstants.{STALE_EPOCH}
use Rattle.nn_live.specs.contracts.service.Service.{the_view as seen_of}
use Rattle.nn_live.specs.Serving.{Service, FollowsStep, fault_text, takes_promotion_in}
use Rattle.nn_live.proofs.Promoting.{in_time, too_late}
use Rattle.nn_live.proofs.service.Service.promote_in.Goals as goal

pub returns-then-epoch-self-clause-ok : goal.returns-then-epoch-self-clause-ok
returns-then-epoch-self-clause-ok g c =
    let x = seen_of c.self.inside in
    let here : x ≡ c.args.self.now = c.self.view_is in
    let late : ltb c.args.epoch x.epoch ≡ true = lt-ltb c.args.epoch x.epoch c.if-epoch-self.true in
    let text = fault_text STALE_EPOCH (codes " epoch ") x.epoch in
    (text, c.put_fault.ensures, subst (λ (v : Service). FollowsStep (takes_promotion_in c.args.txid c.args.epoch c.args.losing) v v text) here (too_late x c.args.txid c.args.epoch c.args.losing late))

pub returns-clause-ok : goal.returns-clause-ok
returns-clause-ok g c = IfOk-weaker c.promote.result _ _ (λ _ step.
    (let x = c.args.self.now in
    let not_late : ltb c.args.epoch x.epoch ≡ false =
    ap (λ (v : Service). ltb c.args.epoch v.epoch) (sym c.self.view_is) ∙ le-ltb c.args.epoch (seen_of c.self.inside).epoch (omega (arith, c.if-epoch-self.false)) in
    (step.0, step.1, in_time x c.args.txid c.args.epoch c.args.losing c.name_epoch.new.self c.promote.new.self step.0 not_late c.name_epoch.ensures.step step.2))) c.promote.ensures.ok
