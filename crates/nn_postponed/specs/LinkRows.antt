-- The links of many messages on a small example, computed.
use Rattle.std.specs.Prelude.{◌≡◌, ℕ, zero, suc, ◌<◌, false, [], ◌∷◌, Some, None, refl}
use Rattle.std.proofs.Common.{arith, ap}
use Rattle.std.proofs.lemmas.Bool.{both_ways}
use Rattle.std.proofs.lemmas.List.{get_or_past}
use Rattle.nn_types.specs.declared.status.Status.TheVariants.{Named}
use Rattle.nn_model.specs.MessageRows.{b}
use Rattle.nn_postponed.specs.QueueRows.{first_report, other_report, second_report}
use Rattle.nn_postponed.specs.Release.{due_at}
use Rattle.nn_postponed.specs.Scans.{due_run}
use Rattle.nn_postponed.specs.Links.{Slots, slot, is_of, IsHead, AreEnds, IsNext}

-- a hole stands before a message of another DataNode, and the first DataNode's second message is the last one
abbrev linked : Slots
linked = Some first_report ∷ None ∷ Some other_report ∷ Some second_report ∷ []

ends_of_it : AreEnds 1 linked (record { first = 0; last = 3 })
ends_of_it = record {
  first = refl;
  before = λ q lt. absurd (omega (arith, lt));
  last = refl;
  behind = λ q lt. ap (is_of 1) (get_or_past linked q None (omega (arith, lt)));
}

next_of_the_first : IsNext 1 linked 0 3
next_of_the_first = record { none = λ at_0. absurd (omega (arith, at_0)); later = λ some. omega arith; there = λ some. refl; between = two }
  where
    two : (q : ℕ) → 0 < q → q < 3 → is_of 1 (slot linked q) ≡ false
    two zero low high = absurd (omega (arith, low))
    two (suc zero) low high = refl
    two (suc (suc zero)) low high = refl
    two (suc (suc (suc q))) low high = absurd (omega (arith, high))

not_of_another : IsNext 1 linked 0 2 → ⊥
not_of_another next = both_ways _ refl (next.there (omega arith))

head_behind_a_hole : IsHead linked 2 other_report
head_behind_a_hole = record { there = refl; first = two }
  where
    two : (q : ℕ) → q < 2 → is_of 2 (slot linked q) ≡ false
    two zero low = refl
    two (suc zero) low = refl
    two (suc (suc q)) low = absurd (omega (arith, low))

second_is_no_head : IsHead linked 3 second_report → ⊥
second_is_no_head head = both_ways _ (head.first 0 (omega arith)) refl

-- ---- How many are due before one is not.

two_due : due_run 1 (due_at b (Named 1001)) (first_report ∷ other_report ∷ second_report ∷ []) ≡ 2
two_due = refl

none_due : due_run 2 (due_at b (Named 1001)) (first_report ∷ other_report ∷ second_report ∷ []) ≡ 0
none_due = refl

behind_one_that_is_not : due_run 1 (due_at b (Named 1000)) (first_report ∷ other_report ∷ second_report ∷ []) ≡ 0
behind_one_that_is_not = refl
