use Rattle.std.proofs.Common.{arith, ◌∙◌, sym, ap, refl, length, set, nat_cmp}
use Rattle.std.specs.BTreeMap.{is_at}
use Rattle.std.specs.Map.{set_value}
use Rattle.std.specs.Option.{option_copied_mut}
use Rattle.std.proofs.lemmas.List.{length-set, get_or-set_same, get_or-set_other}
use Rattle.nn_postponed.proofs.many.link.Goals as goal
use Rattle.nn_postponed.proofs.Links.{first_came, next_came, last_in, put_over}
use Rattle.nn_postponed.proofs.Linking.{appended_long, at_the_end, before_end}

pub returns-in_default-clause-ok : goal.returns-in_default-clause-ok
returns-in_default-clause-ok c b about old =
    let xs = c.args.messages.now in
    let next = c.args.next.now.items in
    first_came b xs next c.push_reserved.new.self.items c.args.ends.now c.insert.new.self c.args.stamps.now c.put.new.self c.args.message.now old about
    (appended_long next c.push_reserved.new.self.items 0 c.push_reserved.ensures.items) (omega (arith, c.requires.room, c.put.ensures.places)) (sym c.get_mut.ensures.value ∙ ap option_copied_mut c.in_default.is)
    (record { first = length xs; last = length xs }) refl refl c.in-Ok.ensures.updates
    (λ q lt. before_end next c.push_reserved.new.self.items q 0 c.push_reserved.ensures.items (omega (arith, lt, old.as_many)))
    (at_the_end next c.push_reserved.new.self.items (length xs) c.push_reserved.ensures.items (old.as_many))
    (c.put.ensures.there ∙ c.get.ensures.value) (omega (arith, c.get.ensures.limit)) c.put.ensures.others

pub index_mut-requires : goal.index_mut-requires
index_mut-requires c = omega (
  arith,
  c.args.next.now.ok,
  last_in c.requires.linked.0 c.args.messages.now c.args.next.now.items c.args.ends.now c.args.stamps.now c.requires.linked.1 c.args.message.now.dn c.in-Some.found.now c.in-Some.ensures.value,
)

pub returns-clause-ok : goal.returns-clause-ok
returns-clause-ok c b about old =
    let xs = c.args.messages.now in
    let next = c.args.next.now.items in
    let e = c.in-Some.found.now in
    let lt = last_in b xs next c.args.ends.now c.args.stamps.now old c.args.message.now.dn e c.in-Some.ensures.value in
    let more = c.push_reserved-2.ensures.items in
    next_came b xs next c.push_reserved-2.new.self.items c.args.ends.now (set_value (is_at (nat_cmp c.args.message.now.dn)) c.args.ends.now (record { first = e.first; last = length xs })) c.args.stamps.now c.args.stamps.now c.args.message.now old about
    (appended_long (set next e.last (length xs)) c.push_reserved-2.new.self.items 0 more ∙ (let l = length-set next e.last (length xs) in omega (arith, l))) c.requires.room
    e (record { first = e.first; last = length xs }) (sym c.in-Some.ensures.value) refl refl (put_over c.args.ends.now c.args.message.now.dn e (record { first = e.first; last = length xs }) c.in-Some.ensures.value)
    (λ q below apart. before_end (set next e.last (length xs)) c.push_reserved-2.new.self.items q 0 more (omega (arith, below, old.as_many, length-set next e.last (length xs)))
    ∙ get_or-set_other next e.last q (length xs) 0 apart)
    (before_end (set next e.last (length xs)) c.push_reserved-2.new.self.items e.last 0 more (omega (arith, lt, length-set next e.last (length xs))) ∙ get_or-set_same next e.last (length xs) 0 lt)
    (at_the_end (set next e.last (length xs)) c.push_reserved-2.new.self.items (length xs) more (length-set next e.last (length xs) ∙ old.as_many)) refl
