use Rattle.std.proofs.Common.{◌≡◌, codes, Some, inl, inr, sym, subst, ap, ap₂, ◌∙◌}
use Rattle.std.specs.Prelude.{is_none}
use Rattle.nn_shadow.specs.Contents.{Shadow, standby_of}
use Rattle.nn_shadow.specs.Refusals.{apply_refusal}
use Rattle.nn_shadow.specs.Numbers.{number_of_apply}
use Rattle.nn_live.specs.contracts.service.Service.{the_view as seen_of}
use Rattle.nn_live.specs.Serving.{Service, FollowsStep, fault_text, takes_tx}
use Rattle.nn_live.proofs.Handing.{told}
use Rattle.nn_live.proofs.Applying.{applied, refused, stopped_at}
use Rattle.nn_live.proofs.service.Service.apply.Goals as goal

pub returns-in-Ok-clause-ok : goal.returns-in-Ok-clause-ok
returns-in-Ok-clause-ok g c =
    let x = seen_of c.self.inside in
    let here : x ≡ c.args.self.now = c.self.view_is in
    let tx = c.args.tx.now in
    let z = c.apply.new.self in
    let y = c.tell_events.new.self in
    let made = subst (λ (v : Service). FollowsStep (takes_tx tx) x v (told x.history z)) (sym c.tell_events.ensures.left)
    (applied x z tx c.in-Ok.ensures.ok c.in-Ok.ensures.phase c.apply.ensures.numbers c.apply.ensures.settings c.in-Ok.ensures.fits) in
    (told x.history z, c.tell_events.ensures.put, subst (λ (v : Service). FollowsStep (takes_tx tx) v y (told x.history z)) here made)

pub returns-in_default : goal.returns-in_default
returns-in_default g c =
    let x = seen_of c.self.inside in
    let here : x ≡ c.args.self.now = c.self.view_is in
    let tx = c.args.tx.now in
    let fault = c.in-Err.fault in
    let y : Service = record x { shadow = c.apply.new.self } in
    let is : apply_refusal x.shadow.phase (standby_of x.shadow) tx ≡ Some fault = elim c.in-Err.ensures.fault [
      | inl answered ↦ answered
      | inr memory ↦ absurd (c.in_default.not-OutOfMemory memory.1)
    ] in
    let same : y ≡ stopped_at x tx fault is = ap (λ (z : Shadow). record x { shadow = z }) (c.in-Err.ensures.same c.in_default.not-OutOfMemory) in
    let text = fault_text c.number.result (codes " txid ") c.get.result in
    let spelled : fault_text (number_of_apply fault) (codes " txid ") tx.txid ≡ text = ap₂ (λ n k. fault_text n (codes " txid ") k) (sym c.number.ensures) (sym c.get.ensures.value) in
    let made = subst (λ (v : Service). FollowsStep (takes_tx tx) x v (fault_text (number_of_apply fault) (codes " txid ") tx.txid)) (sym same) (refused x tx fault is) in
    let told_it = subst (λ t. FollowsStep (takes_tx tx) x y t) spelled made in
    record {
      ok = (text, c.put_fault.ensures, subst (λ (v : Service). FollowsStep (takes_tx tx) v y text) here told_it);
      memory = tt;
      put = tt;
      applied = sym (ap (λ (v : Service). is_none (apply_refusal v.shadow.phase (standby_of v.shadow) tx)) (sym here) ∙ ap is_none is);
    }
