use Rattle.std.proofs.Common.{◌≡◌, ℕ, suc, ◌+◌, ◌<◌, List, ◌∷◌, Bool, true, false, length, get_or, drop, nat_lt, is_ge, nat_cmp, add-one, sym, ap, ◌∙◌, rules, tests}
use Rattle.std.proofs.lemmas.List.{at_drop_all}
use Rattle.std.proofs.Math.Seq.{drop-cons}
use Rattle.nn_tree.specs.Restore.{rises}
use Rattle.nn_image.proofs.header.rises.Goals as goal

next_is : (ids : List ℕ) (i id : ℕ) → i < length ids → id ≡ get_or ids i id → drop i ids ≡ id ∷ drop (i + 1) ids
next_is ids i id here is = rw (add-one, drop-cons ids i id) (ap (λ n. n ∷ drop (suc i) ids) (sym is))

is_below : (last id : ℕ) (b : Bool) → b ≡ is_ge (nat_cmp last id) → b ≡ false → nat_lt last id ≡ true
is_below last id b is e = search (rules, tests)

is_above : (last id : ℕ) (b : Bool) → b ≡ is_ge (nat_cmp last id) → b ≡ true → nat_lt last id ≡ false
is_above last id b is e = search (rules, tests)

pub loop-id-init : goal.loop-id-init
loop-id-init c = ap rises (sym c.in-Some.ensures.cases.0)

pub returns-then-ge : goal.returns-then-ge
returns-then-ge c =
    let here = next_is c.in-Some.rest.now c.loop-id.id-index c.id-item.result c.loop-id-test.true c.id-item.is in
    sym (rw (is_above c.loop-id.last c.id-item.result c.ge.result c.ge.ensures c.if-ge.true) at (ap (λ ids. rises (c.loop-id.last ∷ ids)) here)) ∙ c.loop-id.invariant

pub loop-id-preserved : goal.loop-id-preserved
loop-id-preserved c =
    let here = next_is c.in-Some.rest.now c.loop-id.id-index c.id-item.result c.loop-id-test.true c.id-item.is in
    sym (rw (is_below c.loop-id.last c.id-item.result c.ge.result c.ge.ensures c.if-ge.false) at (ap (λ ids. rises (c.loop-id.last ∷ ids)) here)) ∙ c.loop-id.invariant

pub returns : goal.returns
returns c = sym (at_drop_all (λ ids. rises (c.loop-id.last ∷ ids)) c.in-Some.rest.now c.loop-id.id-index c.loop-id-test.false) ∙ c.loop-id.invariant
