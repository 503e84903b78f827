use Rattle.std.proofs.Common.{◌≡◌, None, false, refl, subst, sym, ap, ◌∙◌}
use Rattle.nn_lane_standby.specs.Tailing.{Standby}
use Rattle.nn_lane_standby.specs.contracts.standby.Standby.{the_view}
use Rattle.nn_lane_standby.proofs.Finished.{promotes, stands_flushing}
use Rattle.nn_shadow.specs.Refusals.{phase_after_flush}
use Rattle.nn_lane_standby.proofs.Unflushed.{flushed_count}
use Rattle.nn_lane_standby.proofs.Applied.{keeps_flushing, keeps_active}
use Rattle.nn_lane_standby.proofs.standby.Standby.finish.Goals as goal

pub invariant_of-self : goal.invariant_of-self
invariant_of-self c =
    let x = the_view c.self.inside in
    let f = c.in-Ok.ensures in
    let n = subst (λ (z : Standby). z.stop ≡ None) (sym c.self.view_is) c.requires.stop in
    keeps_active x c.flush.new.self c.self.invariant n (record { standby = f.ok; phase = f.phase; settings = f.settings; stands = f.stands })

pub invariant_of-self-in-Err-OutOfMemory : goal.invariant_of-self-in-Err-OutOfMemory
invariant_of-self-in-Err-OutOfMemory c =
    let x = the_view c.self.inside in
    let f = c.in-Err-OutOfMemory.ensures in
    let n = subst (λ (z : Standby). z.stop ≡ None) (sym c.self.view_is) c.requires.stop in
    keeps_flushing x c.flush.new.self c.self.invariant n (record { standby = f.left.0; settings = f.settings }) (f.left.1 ∙ ap (phase_after_flush x.shadow.phase) c.in-Err-OutOfMemory.field-0-is)

pub returns-in-Ok : goal.returns-in-Ok
returns-in-Ok c =
    let f = c.in-Ok.ensures in
    let a = subst (λ (z : Standby). z.active ≡ false) (sym c.self.view_is) c.requires.active in
    let n = subst (λ (z : Standby). z.stop ≡ None) (sym c.self.view_is) c.requires.stop in
    rw (← c.self.view_is) (
      refl,
      c.get.ensures.value ∙ c.last_txid.ensures.last,
      f.count ∙ flushed_count (the_view c.self.inside).shadow c.flush.new.self (record { standby = f.ok; phase = f.phase; settings = f.settings; stands = f.stands }) (c.self.invariant.before_flush a),
      refl,
      promotes (the_view c.self.inside) c.flush.new.self a n (record { standby = f.ok; phase = f.phase; settings = f.settings; stands = f.stands }),
      f.settings,
    )

pub returns-in-Err-OutOfMemory : goal.returns-in-Err-OutOfMemory
returns-in-Err-OutOfMemory c =
    let f = c.in-Err-OutOfMemory.ensures in
    let n = subst (λ (z : Standby). z.stop ≡ None) (sym c.self.view_is) c.requires.stop in
    rw (← c.self.view_is) (refl, n, refl, stands_flushing (the_view c.self.inside) c.flush.new.self (record { standby = f.left.0; settings = f.settings }), f.settings)
