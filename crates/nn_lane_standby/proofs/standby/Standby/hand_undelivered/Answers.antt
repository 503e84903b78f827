use Rattle.std.proofs.Common.{◌≡◌, ℕ, ◌<◌, length, Some, refl, sym, subst}
use Rattle.nn_types.specs.declared.report.Message.{Message}
use Rattle.nn_lane_standby.specs.Shadows.{IsHanded}
use Rattle.nn_lane_standby.specs.Tailing.{Standby, undelivered_at}
use Rattle.nn_lane_standby.specs.Parts.{IsLive}
use Rattle.nn_lane_standby.specs.contracts.standby.Standby.{the_view}
use Rattle.nn_lane_standby.proofs.Moves.{some_end, keeps_handed, welcome}
use Rattle.nn_lane_standby.proofs.Applied.{keeps_unchanged}
use Rattle.nn_lane_standby.proofs.standby.Standby.hand_undelivered.Goals as goal

abbrev Given : ℕ → Message → Standby → Type 0
Given i m x = IsLive x × (i < length x.ends) × (undelivered_at x i ≡ Some m)

pub hand_next-requires : goal.hand_next-requires
hand_next-requires c =
    let x = the_view c.self.inside in
    let r = subst (Given c.args.i c.args.m) (sym c.self.view_is) (c.requires.live, c.requires.place, c.requires.undelivered) in
    welcome x c.args.i c.args.m (some_end x.ends c.args.i r.1) c.self.invariant r.0 r.1 r.2

pub invariant_of-self : goal.invariant_of-self
invariant_of-self c =
    let e = c.hand_next.ensures in
    keeps_unchanged (the_view c.self.inside) c.hand_next.new.self c.self.invariant
    (record { standby = c.in_default.ensures.left; settings = e.settings }) e.phase

pub returns-in_default-clause-err : goal.returns-in_default-clause-err
returns-in_default-clause-err c =
    let e = c.hand_next.ensures in
    rw (← c.self.view_is) (record { shown = c.hand_next.new.self; same = record { standby = c.in_default.ensures.left; settings = e.settings }; phase = e.phase; now = refl })

pub invariant_of-self-2 : goal.invariant_of-self-2
invariant_of-self-2 c =
    let x = the_view c.self.inside in
    let r = subst (Given c.args.i c.args.m) (sym c.self.view_is) (c.requires.live, c.requires.place, c.requires.undelivered) in
    let e = c.in-Ok.ensures in
    let h : IsHanded x.shadow c.args.m c.hand_next.new.self = record { standby = e.ok; phase = c.hand_next.ensures.phase; settings = c.hand_next.ensures.settings; stands = λ past start base txs lanes s. (e.stands past start base txs lanes s).0; held = λ past start base txs lanes s. (e.stands past start base txs lanes s).1 } in
    keeps_handed x c.args.i c.args.m (some_end x.ends c.args.i r.1) c.hand_next.new.self c.self.invariant r.1 r.2 h

pub returns-clause-ok : goal.returns-clause-ok
returns-clause-ok c =
    let x = the_view c.self.inside in
    let e = c.in-Ok.ensures in
    let h : IsHanded x.shadow c.args.m c.hand_next.new.self = record { standby = e.ok; phase = c.hand_next.ensures.phase; settings = c.hand_next.ensures.settings; stands = λ past start base txs lanes s. (e.stands past start base txs lanes s).0; held = λ past start base txs lanes s. (e.stands past start base txs lanes s).1 } in
    rw (← c.self.view_is) (record { shown = c.hand_next.new.self; handed = h; now = refl })
