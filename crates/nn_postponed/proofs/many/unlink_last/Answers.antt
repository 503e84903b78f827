use Rattle.std.proofs.Common.{arith, ◌<◌, ◌∙◌, sym, ap, refl, subst, length, take, set, get_or}
use Rattle.std.proofs.lemmas.List.{get_or-take, get_or-set_same, get_or-set_other, length-set, length-take-le}
use Rattle.nn_postponed.specs.Links.{HasEnds, AreEnds, NoneBefore}
use Rattle.nn_postponed.proofs.many.unlink_last.Goals as goal
use Rattle.nn_postponed.proofs.Links.{only_gone, last_gone, cut_gone, cut_kept, cut_before, in_places, none_of}

pub returns-then-first-place : goal.returns-then-first-place
returns-then-first-place c b old =
    let xs = c.args.messages.now in
    let p = c.args.place in
    let m = c.args.message.now in
    let last = c.requires.last in
    let next = c.args.next.now.items in
    let lt = in_places xs p m last.there in
    let cut = c.truncate.ensures.items in
    let e = c.in-Some.old.now in
    let has : AreEnds m.dn xs e = subst (HasEnds m.dn xs) (sym c.in-Some.ensures.value) (old.has_ends m.dn) in
    let long = length-take-le p xs (omega (arith, lt)) in
    let links = length-take-le p next (omega (arith, lt, old.as_many)) in
    only_gone b xs (take p xs) next c.truncate.new.self.items c.args.ends.now c.remove.new.self c.args.stamps.now c.put.new.self p m old last.there
    (cut_gone xs p) (cut_kept xs p m last) (ap length cut ∙ links ∙ sym long) (omega (arith, long, lt))
    (subst (NoneBefore m.dn xs) c.if-first-place.true has.before) (λ q below. none_of m.dn _ (last.behind q below))
    (λ q x here. ap (λ l. get_or l q 0) cut ∙ get_or-take p next q 0 (cut_before xs p q x here)) c.remove.ensures.updates
    c.put.ensures.there c.put.ensures.others c.put.ensures.places

pub returns : goal.returns
returns c b old =
    let xs = c.args.messages.now in
    let p = c.args.place in
    let m = c.args.message.now in
    let last = c.requires.last in
    let next = c.args.next.now.items in
    let lt = in_places xs p m last.there in
    let cut = c.truncate.ensures.items in
    let e = c.in-Some.old.now in
    let r = c.in-Some-place_before.before in
    let found = c.in-Some-place_before.ensures.some in
    let long = length-take-le p xs (omega (arith, lt)) in
    let links = length-take-le p next (omega (arith, lt, old.as_many)) in
    let r_in : r < length c.truncate.new.self.items = (let below = found.0 in omega (arith, below, links, ap length cut)) in
    last_gone b xs (take p xs) next (set c.truncate.new.self.items r 0) c.args.ends.now c.insert.new.self c.args.stamps.now c.args.stamps.now p m old last.there
    (cut_gone xs p) (cut_kept xs p m last) (length-set c.truncate.new.self.items r 0 ∙ ap length cut ∙ links ∙ sym long) (omega (arith, long, lt))
    last.behind r e (record { first = e.first; last = r }) found.0 found.1 found.2
    (λ q x here apart. get_or-set_other c.truncate.new.self.items r q 0 0 apart ∙ ap (λ l. get_or l q 0) cut ∙ get_or-take p next q 0 (cut_before xs p q x here))
    (get_or-set_same c.truncate.new.self.items r 0 0 r_in) (sym c.in-Some.ensures.value) c.if-first-place.false refl refl c.in-Ok.ensures.updates
