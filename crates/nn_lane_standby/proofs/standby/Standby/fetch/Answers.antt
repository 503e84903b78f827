use Rattle.std.proofs.Common.{◌≡◌, ℕ, ◌+◌, ◌<◌, length, get_or, Option, Some, None, refl, sym, ◌∙◌, subst, arith}
use Rattle.nn_types.specs.declared.report.Message.{Message}
use Rattle.nn_lane.specs.Ends.{GivesMessage, loads_of}
use Rattle.nn_lane.specs.declared.message.Taken.TheVariants as taken
use Rattle.nn_lane_standby.specs.Tailing.{Standby, Keeps, undelivered_at}
use Rattle.nn_lane_standby.specs.contracts.standby.Standby.{the_view}
use Rattle.nn_lane_standby.proofs.Lanes.{same_many}
use Rattle.nn_lane_standby.proofs.Moves.{some_end}
use Rattle.nn_lane_standby.proofs.Fetched.{SameLane, any_default, fetches_undelivered, keeps_new, fetches_new, keeps_none, finds_none}
use Rattle.nn_lane_standby.proofs.standby.Standby.fetch.Goals as goal

in_undelivered : (x y : Standby) (i : ℕ) → x ≡ y → Keeps x → i < length y.ends → i < length x.undelivered
in_undelivered x y i e k l = let h : i < length x.ends = subst (λ (z : Standby). i < length z.ends) (sym e) l in omega (arith, same_many 1 x.ends x.undelivered k.lanes, h)

at_none : (x : Standby) (i : ℕ) (o : Option Message) → i < length x.undelivered → o ≡ get_or x.undelivered i o → ((m : Message) → o ≡ Some m → ⊥) → undelivered_at x i ≡ None
at_none x i None l e h = any_default x.undelivered i None None l ∙ sym e
at_none x i (Some m) l e h = absurd (h m refl)

pub index-requires : goal.index-requires
index-requires c = omega (arith, in_undelivered _ _ c.args.i c.self.view_is c.self.invariant c.requires, c.self.inside.undelivered.ok.0)

pub returns-in-Some-clause-ok : goal.returns-in-Some-clause-ok
returns-in-Some-clause-ok c =
    let l = subst (λ (z : Standby). c.args.i < length z.ends) (sym c.self.view_is) c.requires in
    let in_range = in_undelivered _ _ c.args.i c.self.view_is c.self.invariant c.requires in
    let e = any_default _ c.args.i None c.index.result.now in_range ∙ sym c.index.ensures ∙ c.in-Some.is in
    rw (← c.self.view_is) (fetches_undelivered _ c.args.i c.in-Some.m (some_end _ _ l) l e)

pub index_mut-requires-in-Message : goal.index_mut-requires-in-Message
index_mut-requires-in-Message c = omega (arith, in_undelivered _ _ c.args.i c.self.view_is c.self.invariant c.requires, c.self.inside.undelivered.ok.0)

pub invariant_of-self : goal.invariant_of-self
invariant_of-self c =
    let l = subst (λ (z : Standby). c.args.i < length z.ends) (sym c.self.view_is) c.requires in
    let none = at_none (the_view c.self.inside) c.args.i c.index.result.now (in_undelivered _ _ c.args.i c.self.view_is c.self.invariant c.requires) c.index.ensures c.in_default.not-Some in
    let d = c.index_mut.result.now in let v = c.index_mut.ensures.value in let t = c.in-Message.ensures in
    keeps_new (the_view c.self.inside) c.args.i d c.take.new.self c.self.invariant l none (subst (λ z. SameLane z c.take.new.self) v (t.lane.0, t.lane.1, t.closed)) c.in-Message.m (subst (λ z. GivesMessage z c.take.new.self (taken.Message c.in-Message.m)) v t.gives)

pub returns-in-Message-clause-ok : goal.returns-in-Message-clause-ok
returns-in-Message-clause-ok c =
    let l = subst (λ (z : Standby). c.args.i < length z.ends) (sym c.self.view_is) c.requires in
    let none = at_none (the_view c.self.inside) c.args.i c.index.result.now (in_undelivered _ _ c.args.i c.self.view_is c.self.invariant c.requires) c.index.ensures c.in_default.not-Some in
    let d = c.index_mut.result.now in let v = c.index_mut.ensures.value in let t = c.in-Message.ensures in
    rw (← c.self.view_is) (fetches_new (the_view c.self.inside) c.args.i d c.take.new.self c.self.invariant l none (subst (λ z. SameLane z c.take.new.self) v (t.lane.0, t.lane.1, t.closed)) c.in-Message.m (subst (λ z. GivesMessage z c.take.new.self (taken.Message c.in-Message.m)) v t.gives))

pub invariant_of-self-in-Empty : goal.invariant_of-self-in-Empty
invariant_of-self-in-Empty c =
    let l = subst (λ (z : Standby). c.args.i < length z.ends) (sym c.self.view_is) c.requires in
    let none = at_none (the_view c.self.inside) c.args.i c.index.result.now (in_undelivered _ _ c.args.i c.self.view_is c.self.invariant c.requires) c.index.ensures c.in_default.not-Some in
    let d = c.index_mut.result.now in let v = c.index_mut.ensures.value in let t = c.in-Empty.ensures in
    keeps_none (the_view c.self.inside) c.args.i d c.take.new.self c.self.invariant l none (subst (λ z. SameLane z c.take.new.self) v (t.lane.0, t.lane.1, t.closed)) c.in-Empty.accepted (subst (λ z. GivesMessage z c.take.new.self (taken.Empty c.in-Empty.accepted)) v t.gives)

pub returns-in-Empty-clause-err : goal.returns-in-Empty-clause-err
returns-in-Empty-clause-err c =
    let l = subst (λ (z : Standby). c.args.i < length z.ends) (sym c.self.view_is) c.requires in
    let none = at_none (the_view c.self.inside) c.args.i c.index.result.now (in_undelivered _ _ c.args.i c.self.view_is c.self.invariant c.requires) c.index.ensures c.in_default.not-Some in
    let d = c.index_mut.result.now in let v = c.index_mut.ensures.value in let t = c.in-Empty.ensures in
    rw (← c.self.view_is) (finds_none (the_view c.self.inside) c.args.i d c.take.new.self c.self.invariant l none (subst (λ z. SameLane z c.take.new.self) v (t.lane.0, t.lane.1, t.closed)) c.in-Empty.accepted (subst (λ z. loads_of c.take.new.self ≡ loads_of z + 1) v t.looked.0) (subst (λ z. GivesMessage z c.take.new.self (taken.Empty c.in-Empty.accepted)) v t.gives))
