use Rattle.std.proofs.Common.{◌≡◌, List, drop, refl, sym, ap, ◌∙◌, subst}
use Rattle.nn_types.specs.declared.tx.Tx.{Tx}
use Rattle.nn_shadow.specs.Contents.{Shadow, standby_of}
use Rattle.nn_shadow.specs.declared.fault.StopCause.TheVariants.{Refused}
use Rattle.nn_lane_standby.specs.Shadows.{IsApplied}
use Rattle.nn_lane_standby.specs.Tailing.{Keeps, with_rest, with_shadow}
use Rattle.nn_lane_standby.specs.Parts.{IsLive}
use Rattle.nn_lane_standby.specs.contracts.standby.Standby.{the_view}
use Rattle.nn_lane_standby.proofs.Moves.{is_serving}
use Rattle.nn_lane_standby.proofs.Shadowing.{is_in_turn}
use Rattle.nn_lane_standby.proofs.Applied.{is_next_tx, keeps_applied, keeps_unchanged, keeps_stopped}
use Rattle.nn_lane_standby.proofs.standby.Standby.apply_next.Goals as goal

pub apply_next-requires : goal.apply_next-requires
apply_next-requires c =
    let x = the_view c.self.inside in
    let l = subst IsLive (sym c.self.view_is) c.requires.live in
    let d = c.in-Some.ensures in
    is_in_turn x.shadow c.in-Some.tx.now (is_serving x c.self.invariant l) (is_next_tx x c.in-Some.tx.now d.0 c.self.invariant d.1)

pub invariant_of-self : goal.invariant_of-self
invariant_of-self c =
    let x = the_view c.self.inside in
    let l = subst IsLive (sym c.self.view_is) c.requires.live in
    let d = c.in-Some.ensures in
    let e = c.in-Ok-Ok.ensures in
    let is = c.in-Ok-Ok.field-0-is in
    let a : IsApplied x.shadow c.in-Some.tx.now c.apply_next.new.self = record { next = is_next_tx x c.in-Some.tx.now d.0 c.self.invariant d.1; standby = rw is at e.ok; phase = rw is at e.phase; settings = c.apply_next.ensures.settings; stands = rw is at e.stands } in
    let P : List Tx → Type 0 = λ r. Keeps (with_shadow (with_rest x r) c.apply_next.new.self) in
    subst P (sym (c.advance.ensures ∙ ap (drop 1) d.1)) (keeps_applied x c.in-Some.tx.now d.0 c.apply_next.new.self c.self.invariant l d.1 a)

pub returns-in-Ok-Ok-clause-ok : goal.returns-in-Ok-Ok-clause-ok
returns-in-Ok-Ok-clause-ok c =
    let x = the_view c.self.inside in
    let d = c.in-Some.ensures in
    let e = c.in-Ok-Ok.ensures in
    let is = c.in-Ok-Ok.field-0-is in
    let a : IsApplied x.shadow c.in-Some.tx.now c.apply_next.new.self = record { next = is_next_tx x c.in-Some.tx.now d.0 c.self.invariant d.1; standby = rw is at e.ok; phase = rw is at e.phase; settings = c.apply_next.ensures.settings; stands = rw is at e.stands } in
    let r : c.advance.new.self ≡ d.0 = c.advance.ensures ∙ ap (drop 1) d.1 in
    rw (← c.self.view_is) (record { tx = c.in-Some.tx.now; rest = d.0; shown = c.apply_next.new.self; was = d.1; applied = a; is_txid = refl; now = ap (λ z. with_shadow (with_rest x z) c.apply_next.new.self) r })

pub invariant_of-self-in-Err : goal.invariant_of-self-in-Err
invariant_of-self-in-Err c =
    let left = c.in-Err.ensures.left in
    keeps_unchanged (the_view c.self.inside) c.apply_next.new.self c.self.invariant
    (record { standby = ap standby_of left; settings = c.apply_next.ensures.settings }) (ap (λ (s : Shadow). s.phase) left)

pub returns-in-Err-clause-err : goal.returns-in-Err-clause-err
returns-in-Err-clause-err c =
    let left = c.in-Err.ensures.left in
    rw (← c.self.view_is) (record {
      shown = c.apply_next.new.self;
      same = record { standby = ap standby_of left; settings = c.apply_next.ensures.settings };
      phase = ap (λ (s : Shadow). s.phase) left;
      now = refl;
    })

pub invariant_of-self-in-Ok-Err : goal.invariant_of-self-in-Ok-Err
invariant_of-self-in-Ok-Err c =
    let x = the_view c.self.inside in
    let l = subst IsLive (sym c.self.view_is) c.requires.live in
    let d = c.in-Some.ensures in
    let stopped = rw c.in-Ok-Err.field-0-is at c.in-Ok-Err.ensures.stopped in
    keeps_stopped x c.apply_next.new.self (record { txid = c.in-Some.tx.now.txid; cause = Refused c.in-Ok-Err.refused }) c.self.invariant l
    (record { standby = ap standby_of stopped; settings = c.apply_next.ensures.settings })
    (ap (λ (s : Shadow). s.phase.active) stopped) (is_next_tx x c.in-Some.tx.now d.0 c.self.invariant d.1)

pub returns-in-Ok-Err-clause-err : goal.returns-in-Ok-Err-clause-err
returns-in-Ok-Err-clause-err c =
    let x = the_view c.self.inside in
    let d = c.in-Some.ensures in
    let stopped = rw c.in-Ok-Err.field-0-is at c.in-Ok-Err.ensures.stopped in
    rw (← c.self.view_is) (record {
      tx = c.in-Some.tx.now;
      rest = d.0;
      fault = c.in-Ok-Err.refused;
      shown = c.apply_next.new.self;
      was = d.1;
      refused = sym (rw c.in-Ok-Err.field-0-is at c.in-Ok-Err.ensures.refused);
      next = is_next_tx x c.in-Some.tx.now d.0 c.self.invariant d.1;
      is_txid = refl;
      cause = refl;
      same = record { standby = ap standby_of stopped; settings = c.apply_next.ensures.settings };
      active = ap (λ (s : Shadow). s.phase.active) stopped;
      now = refl;
    })
