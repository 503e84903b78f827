use Rattle.std.proofs.Common.{arith, rules, ◌≢◌, ◌<◌, ◌∙◌, sym, refl, length, set, get_or, Some, None, nat_cmp}
use Rattle.std.specs.BTreeMap.{is_at}
use Rattle.std.specs.Map.{set_value}
use Rattle.std.proofs.lemmas.List.{length-set, get_or-set_same, get_or-set_other}
use Rattle.nn_postponed.proofs.many.unlink_first.Goals as goal
use Rattle.nn_postponed.proofs.Links.{only_gone, first_gone, next_in, in_places, slot_is, put_over}

pub returns-then-following-eq0 : goal.returns-then-following-eq0
returns-then-following-eq0 c b old =
    let xs = c.args.messages.now in
    let p = c.args.place in
    let m = c.args.message.now in
    let lt = in_places xs p m c.requires.head.there in
    only_gone b xs (set xs p None) c.args.next.now c.args.next.now c.args.ends.now c.remove.new.self c.args.stamps.now c.put.new.self p m old c.requires.head.there
    (get_or-set_same xs p None None lt) (λ q apart. get_or-set_other xs p q None None apart) (old.as_many ∙ sym (length-set xs p None)) (omega (arith, length-set xs p None))
    c.requires.head.first ((old.has_next p m c.requires.head.there).none c.if-following-eq0.true) (λ q x here. refl) c.remove.ensures.updates
    c.put.ensures.there c.put.ensures.others c.put.ensures.places

pub bounds : goal.bounds
bounds c = next_in c.requires.linked.0 c.args.messages.now c.args.next.now c.args.ends.now c.args.stamps.now c.requires.linked.1 c.args.place c.args.message.now c.requires.head.there c.if-following-eq0.false

pub bounds-messages-following : goal.bounds-messages-following
bounds-messages-following c = next_in c.requires.linked.0 c.args.messages.now c.args.next.now c.args.ends.now c.args.stamps.now c.requires.linked.1 c.args.place c.args.message.now c.requires.head.there c.if-following-eq0.false

pub bounds-messages-following-in-Some-messages-following : goal.bounds-messages-following-in-Some-messages-following
bounds-messages-following-in-Some-messages-following c = next_in c.requires.linked.0 c.args.messages.now c.args.next.now c.args.ends.now c.args.stamps.now c.requires.linked.1 c.args.place c.args.message.now c.requires.head.there c.if-following-eq0.false

pub offset_bounds-messages-following : goal.offset_bounds-messages-following
offset_bounds-messages-following c = let lt = next_in c.requires.linked.0 c.args.messages.now c.args.next.now c.args.ends.now c.args.stamps.now c.requires.linked.1 c.args.place c.args.message.now c.requires.head.there c.if-following-eq0.false in search rules

pub put-requires-2 : goal.put-requires-2
put-requires-2 c = let old = c.requires.linked.1 in
    omega (arith, old.room, next_in c.requires.linked.0 c.args.messages.now c.args.next.now c.args.ends.now c.args.stamps.now old c.args.place c.args.message.now c.requires.head.there c.if-following-eq0.false)

pub returns : goal.returns
returns c b old =
    let xs = c.args.messages.now in
    let p = c.args.place in
    let m = c.args.message.now in
    let n = get_or c.args.next.now p 0 in
    let lt = in_places xs p m c.requires.head.there in
    let y = c.in-Some-messages.m in
    let e = c.in-Some.found.now in
    let n_in : n < length xs = next_in b xs c.args.next.now c.args.ends.now c.args.stamps.now old p m c.requires.head.there c.if-following-eq0.false in
    let later = (old.has_next p m c.requires.head.there).later (let ne = c.if-following-eq0.false in omega (arith, ne)) in
    let apart : n ≢ p = λ same. omega (arith, same, later) in
    first_gone b xs (set xs p None) c.args.next.now c.args.next.now c.args.ends.now (set_value (is_at (nat_cmp m.dn)) c.args.ends.now (record { first = n; last = e.last })) c.args.stamps.now c.put-3.new.self p m old c.requires.head.there
    (get_or-set_same xs p None None lt) (λ q other. get_or-set_other xs p q None None other) (old.as_many ∙ sym (length-set xs p None)) (omega (arith, length-set xs p None))
    c.requires.head.first n y e (record { first = n; last = e.last }) refl (let ne = c.if-following-eq0.false in omega (arith, ne))
    (slot_is xs n (Some y) _ n_in (sym c.in-Some-messages.is)) (omega (arith, c.get.ensures.limit)) (λ q x here. refl) (sym c.in-Some.ensures.value) refl refl (put_over c.args.ends.now m.dn e (record { first = n; last = e.last }) c.in-Some.ensures.value)
    c.put-3.ensures.there (c.put-3.ensures.others n apart ∙ c.put-2.ensures.there ∙ c.get.ensures.value)
    (λ q not_p not_n. c.put-3.ensures.others q not_p ∙ c.put-2.ensures.others q not_n) (c.put-3.ensures.places ∙ c.put-2.ensures.places)
