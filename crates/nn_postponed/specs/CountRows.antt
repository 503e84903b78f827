-- How many messages are from each DataNode, on small examples, computed.
use Rattle.std.specs.Prelude.{◌≡◌, ℕ, suc, zero, List, [], ◌∷◌, map, refl}
use Rattle.std.proofs.Common.{◌+◌, arith, ap, sym, cond}
use Rattle.std.proofs.lemmas.Bool.{ne_eqb}
use Rattle.nn_types.specs.declared.report.Message.{Message}
use Rattle.nn_postponed.specs.Queues.{held_from, queued}
use Rattle.nn_postponed.specs.QueueRows.{first_report, other_report, second_report}
use Rattle.nn_postponed.specs.Counts.{count_of, AreCounted, SameCounts, OneMore}

-- two are from DataNode 1, and one is from DataNode 2
abbrev three : List Message
three = first_report ∷ other_report ∷ second_report ∷ []

from_each : map (λ dn. held_from dn three) (0 ∷ 1 ∷ 2 ∷ 3 ∷ []) ≡ 0 ∷ 2 ∷ 1 ∷ 0 ∷ []
from_each = refl

from_none : map (λ dn. held_from dn []) (0 ∷ 1 ∷ 2 ∷ []) ≡ 0 ∷ 0 ∷ 0 ∷ []
from_none = refl

one_more_held : map (λ dn. held_from dn (queued second_report three)) (1 ∷ 2 ∷ []) ≡ 3 ∷ 1 ∷ []
one_more_held = refl

-- ---- The numbers.

none_beyond_the_end : map (λ dn. count_of dn (0 ∷ 2 ∷ 1 ∷ [])) (0 ∷ 1 ∷ 2 ∷ 3 ∷ []) ≡ 0 ∷ 2 ∷ 1 ∷ 0 ∷ []
none_beyond_the_end = refl

three_counted : AreCounted (0 ∷ 2 ∷ 1 ∷ []) three
three_counted zero = refl
three_counted (suc zero) = refl
three_counted (suc (suc zero)) = refl
three_counted (suc (suc (suc dn))) =
    let one = ne_eqb 1 (suc (suc (suc dn))) (λ e. omega (arith, e)) in
    let two = ne_eqb 2 (suc (suc (suc dn))) (λ e. omega (arith, e)) in
    sym (λ j. 0 + cond (one j) 1 0 + cond (two j) 1 0 + cond (one j) 1 0)

one_forgotten : AreCounted (0 ∷ 1 ∷ 1 ∷ []) three → ⊥
one_forgotten counted = (let e = counted 1 in omega (arith, e))

room_for_two_more : SameCounts (0 ∷ 2 ∷ 1 ∷ []) (0 ∷ 2 ∷ 1 ∷ 0 ∷ 0 ∷ [])
room_for_two_more zero = refl
room_for_two_more (suc zero) = refl
room_for_two_more (suc (suc zero)) = refl
room_for_two_more (suc (suc (suc zero))) = refl
room_for_two_more (suc (suc (suc (suc zero)))) = refl
room_for_two_more (suc (suc (suc (suc (suc dn))))) = refl

more_from_one : OneMore 1 (0 ∷ 2 ∷ 1 ∷ []) (0 ∷ 3 ∷ 1 ∷ [])
more_from_one zero = refl
more_from_one (suc zero) = refl
more_from_one (suc (suc zero)) = refl
more_from_one (suc (suc (suc dn))) = sym (ap {B = ℕ} (λ t. 0 + cond t 1 0) (ne_eqb 1 (suc (suc (suc dn))) (λ e. omega (arith, e))))

not_more_from_two : OneMore 2 (0 ∷ 2 ∷ 1 ∷ []) (0 ∷ 3 ∷ 1 ∷ []) → ⊥
not_more_from_two more = (let e = more 1 in omega (arith, e))
