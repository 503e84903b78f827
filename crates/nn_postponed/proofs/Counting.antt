-- How many messages are from each DataNode, where one message more is held, and the numbers that tell it.
use Rattle.std.proofs.Common.{◌≡◌, ℕ, ◌+◌, ◌<◌, ◌≤◌, Bool, true, false, cond, List, [], ◌∷◌, ◌++◌, length, Some, refl, sym, ap, ◌∙◌, arith, nat_le, eq-eqb}
use Rattle.std.specs.Prelude.{◌==◌}
use Rattle.std.proofs.lemmas.List.Sums.{sum_by-cons}
use Rattle.nn_types.specs.declared.report.Message.{Message}
use Rattle.nn_postponed.specs.Queues.{held_from, queue, queued}
use Rattle.nn_postponed.specs.Release.{must_wait, first_free, without_free}
use Rattle.nn_postponed.specs.Counts.{count_of, AreCounted, SameCounts, OneMore}

-- the second list has one message more, which is from this DataNode
abbrev pub OneJoined : ℕ → List Message → List Message → Type 0
OneJoined from few many = (dn : ℕ) → held_from dn many ≡ held_from dn few + cond (from == dn) 1 0

-- ---- The lists.

pub joined_first : (m : Message) (ms : List Message) → OneJoined m.dn ms (m ∷ ms)
joined_first m ms dn = omega (arith, sum_by-cons (λ (x : Message). cond (x.dn == dn) 1 0) m ms)

pub joined_last : (m : Message) (ms : List Message) → OneJoined m.dn ms (ms ++ m ∷ [])
joined_last m [] dn = joined_first m [] dn
joined_last m (x ∷ ms) dn = omega (arith, joined_first x (ms ++ m ∷ []) dn, joined_first x ms dn, joined_last m ms dn)

pub joined_queue : (m : Message) (ms : List Message) → OneJoined m.dn ms (queued m ms)
joined_queue m [] dn = joined_first m [] dn
joined_queue m (x ∷ ms) dn =
    elim (nat_le x.block m.block) as (λ t. held_from dn (cond t (x ∷ queued m ms) (m ∷ x ∷ ms)) ≡ held_from dn (x ∷ ms) + cond (m.dn == dn) 1 0) [
      | true ↦ omega (arith, joined_first x (queued m ms) dn, joined_first x ms dn, joined_queue m ms dn)
      | false ↦ joined_first m (x ∷ ms) dn
    ]

pub joined_before : (due : Message → Bool) (before ms : List Message) (m : Message) → Some m ≡ first_free due before ms → OneJoined m.dn (without_free due before ms) ms
joined_before due before [] m is dn = absurd (cc)
joined_before due before (x ∷ ms) m is dn =
    elim (must_wait due before x) as (λ t. Some m ≡ cond t (first_free due (x ∷ before) ms) (Some x) →
    held_from dn (x ∷ ms) ≡ held_from dn (cond t (x ∷ without_free due (x ∷ before) ms) ms) + cond (m.dn == dn) 1 0) [
      | true ↦ λ i. omega (arith, joined_first x ms dn, joined_first x (without_free due (x ∷ before) ms) dn, joined_before due (x ∷ before) ms m i dn)
      | false ↦ λ i. let e : m ≡ x = cc in joined_first x ms dn ∙ ap (λ (y : Message). held_from dn ms + cond (y.dn == dn) 1 0) (sym e)
    ] is

pub joined_as : (from : ℕ) (few many now was : List Message) → now ≡ few → was ≡ many → OneJoined from few many → OneJoined from now was
joined_as from few many now was is came joined dn = ap (held_from dn) came ∙ joined dn ∙ ap (λ ms. held_from dn ms + cond (from == dn) 1 0) (sym is)

-- the list has at least as many from a DataNode as a block's queue
from_queue : (dn b : ℕ) (ms : List Message) → held_from dn (queue b ms) ≤ held_from dn ms
from_queue dn b [] = omega arith
from_queue dn b (m ∷ ms) =
    elim (m.block == b) as (λ t. held_from dn (cond t (m ∷ queue b ms) (queue b ms)) ≤ held_from dn (m ∷ ms)) [
      | true ↦ omega (arith, joined_first m (queue b ms) dn, joined_first m ms dn, from_queue dn b ms)
      | false ↦ omega (arith, joined_first m ms dn, from_queue dn b ms)
    ]

from_all : (dn : ℕ) (ms : List Message) → held_from dn ms ≤ length ms
from_all dn [] = omega arith
from_all dn (m ∷ ms) =
    elim (m.dn == dn) as (λ t. held_from dn (m ∷ ms) ≡ held_from dn ms + cond t 1 0 → held_from dn (m ∷ ms) ≤ length (m ∷ ms)) [
      | true ↦ λ e. omega (arith, e, from_all dn ms)
      | false ↦ λ e. omega (arith, e, from_all dn ms)
    ] (joined_first m ms dn)

-- ---- The numbers.

pub counted_same : (counts room : List ℕ) (ms now : List Message) → AreCounted counts ms → SameCounts counts room → now ≡ ms → AreCounted room now
counted_same counts room ms now counted same is dn = same dn ∙ counted dn ∙ ap (held_from dn) (sym is)

pub counted_more : (from : ℕ) (counts room new : List ℕ) (few many now : List Message) → AreCounted counts few → SameCounts counts room → OneMore from room new →
    OneJoined from few many → now ≡ many → AreCounted new now
counted_more from counts room new few many now counted same more joined is dn =
    more dn ∙ ap (λ n. n + cond (from == dn) 1 0) (same dn ∙ counted dn) ∙ sym (joined dn) ∙ ap (held_from dn) (sym is)

pub counted_fewer : (from : ℕ) (old new : List ℕ) (few many : List Message) → AreCounted old many → OneMore from new old → OneJoined from few many → AreCounted new few
counted_fewer from old new few many counted fewer joined dn = omega (arith, fewer dn, counted dn, joined dn)

-- a block's queue has one message more than a list, which is from this DataNode; so neither number is 0
pub some_there : (dn b n : ℕ) (v few ms : List Message) (counts : List ℕ) → v ≡ queue b ms → OneJoined dn few v → n ≡ length ms → AreCounted counts ms → (0 < n) × (0 < count_of dn counts)
some_there dn b n v few ms counts is joined count counted =
    let here : held_from dn v ≡ held_from dn (queue b ms) = ap (held_from dn) is in
    let one : held_from dn v ≡ held_from dn few + 1 = joined dn ∙ ap (λ t. held_from dn few + cond t 1 0) (eq-eqb dn dn refl) in
    (omega (arith, one, here, from_queue dn b ms, from_all dn ms, count), omega (arith, one, here, from_queue dn b ms, counted dn))
