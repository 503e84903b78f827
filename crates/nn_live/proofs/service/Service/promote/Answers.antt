use Rattle.std.proofs.Common.{◌≡◌, ◌+◌, ◌==◌, ◌||◌, codes, true, false, sym, subst, ap, ◌∙◌}
use Rattle.std.specs.Prelude.{is_some}
use Rattle.std.proofs.lemmas.Bool.{not-false, not-true}
use Rattle.nn_types.specs.declared.fault.TheConstants.{DISORDER, NO_END, STOPPED}
use Rattle.nn_live.specs.contracts.service.Service.{the_view as seen_of}
use Rattle.nn_live.specs.Serving.{Service, FollowsStep, fault_text, log_ends, takes_promotion}
use Rattle.nn_live.proofs.Handing.{told}
use Rattle.nn_live.proofs.Options.{some_if, none_unless}
use Rattle.nn_live.proofs.Promoting.{stopped, inside, not_there, promoted}
use Rattle.nn_live.proofs.service.Service.promote.Goals as goal

pub returns-then-is_some-clause-ok : goal.returns-then-is_some-clause-ok
returns-then-is_some-clause-ok g c =
    let x = seen_of c.self.inside in
    let here : x ≡ c.args.self.now = c.self.view_is in
    let step = takes_promotion c.args.txid c.args.losing in
    let stop = some_if x.shadow.phase.stopped (c.if-is_some.ensures ∙ ap is_some c.stop.ensures) in
    let text = fault_text STOPPED (codes " line ") x.lines in
    (text, c.put_fault.ensures, subst (λ (v : Service). FollowsStep step v v text) here (stopped x c.args.txid c.args.losing stop.0 stop.1))

pub returns-then-is_inside-clause-ok : goal.returns-then-is_inside-clause-ok
returns-then-is_inside-clause-ok g c =
    let x = seen_of c.self.inside in
    let here : x ≡ c.args.self.now = c.self.view_is in
    let step = takes_promotion c.args.txid c.args.losing in
    let none = none_unless x.shadow.phase.stopped (c.if-is_some.ensures ∙ ap is_some c.stop.ensures) in
    let is : (c.args.losing || (x.in_hand.edits == 0)) ≡ false = ap (λ (v : Service). c.args.losing || (v.in_hand.edits == 0)) here ∙ not-true _ (sym c.if-is_inside.ensures) in
    let text = fault_text NO_END (codes " segment ") c.in-Some.segment in
    let made = subst (λ k. FollowsStep step x x (fault_text NO_END (codes " segment ") k)) (sym c.in-Some.ensures.1) (inside x c.args.txid c.args.losing none is) in
    (text, c.put_fault-then-is_inside.ensures, subst (λ (v : Service). FollowsStep step v v text) here made)

pub returns-then-not-ends_at-clause-ok : goal.returns-then-not-ends_at-clause-ok
returns-then-not-ends_at-clause-ok g c =
    let x = seen_of c.self.inside in
    let here : x ≡ c.args.self.now = c.self.view_is in
    let step = takes_promotion c.args.txid c.args.losing in
    let none = none_unless x.shadow.phase.stopped (c.if-is_some.ensures ∙ ap is_some c.stop.ensures) in
    let is : (c.args.losing || (x.in_hand.edits == 0)) ≡ true = ap (λ (v : Service). c.args.losing || (v.in_hand.edits == 0)) here ∙ not-false _ (sym c.if-is_inside.ensures) in
    let isnt : log_ends x.shadow.last x.known c.args.txid c.args.losing ≡ false = ap (λ (v : Service). log_ends v.shadow.last v.known c.args.txid c.args.losing) here ∙ sym c.if-not-ends_at.ensures in
    let text = fault_text DISORDER (codes " txid ") (c.get-next.result + 1) in
    let made = subst (λ l. FollowsStep step x x (fault_text DISORDER (codes " txid ") (l + 1))) (sym (c.get-next.ensures.value ∙ c.last_txid.ensures.last)) (not_there x c.args.txid c.args.losing none is isnt) in
    (text, c.put_fault-then-not-ends_at.ensures, subst (λ (v : Service). FollowsStep step v v text) here made)

pub returns-clause-ok : goal.returns-clause-ok
returns-clause-ok g c =
    let x = seen_of c.self.inside in
    let here : x ≡ c.args.self.now = c.self.view_is in
    let step = takes_promotion c.args.txid c.args.losing in
    let none = none_unless x.shadow.phase.stopped (c.if-is_some.ensures ∙ ap is_some c.stop.ensures) in
    let is : (c.args.losing || (x.in_hand.edits == 0)) ≡ true = ap (λ (v : Service). c.args.losing || (v.in_hand.edits == 0)) here ∙ not-false _ (sym c.if-is_inside.ensures) in
    let ends : log_ends x.shadow.last x.known c.args.txid c.args.losing ≡ true = ap (λ (v : Service). log_ends v.shadow.last v.known c.args.txid c.args.losing) here ∙ sym c.if-not-ends_at.ensures in
    let z = c.flush.new.self in
    let y = c.tell_events.new.self in
    let made = subst (λ (v : Service). FollowsStep step x v (told x.history z)) (sym c.tell_events.ensures.left)
    (promoted x c.args.txid c.args.losing none is z c.none.result ends c.in-Ok.ensures.ok c.in-Ok.ensures.phase c.flush.ensures.numbers c.flush.ensures.settings c.none.ensures) in
    (told x.history z, c.tell_events.ensures.put, subst (λ (v : Service). FollowsStep step v y (told x.history z)) here made)
