use Rattle.std.proofs.Common.{◌≡◌, ℕ, ◌+◌, ◌-◌, List, ◌++◌, length, take, drop, true, bytes_eq, sym, ap, ◌∙◌, arith}
use Rattle.std.proofs.lemmas.List.{take_all, length-drop, take-append-drop, drop-drop}
use Rattle.std.proofs.lemmas.Slice.Eq.{bytes_eq-Decides}
use Rattle.nn_plain.proofs.truth.begins_with.Goals as goal

word_first : (d w : List ℕ) (from : ℕ) → bytes_eq w (take (length w) (take (length d - from) (drop from d))) ≡ true → drop from d ≡ w ++ drop (from + length w) d
word_first d w from same =
    let all : take (length d - from) (drop from d) ≡ drop from d = take_all (length d - from) (drop from d) (omega (arith, length-drop from d)) in
    let first : w ≡ take (length w) (drop from d) = (bytes_eq-Decides w _).0 same ∙ ap (take (length w)) all in
    sym (take-append-drop (length w) (drop from d))
    ∙ ap (λ t. t ++ drop (length w) (drop from d)) (sym first)
    ∙ ap (λ t. w ++ t) (drop-drop (length w) from d)

pub returns-clause-here : goal.returns-clause-here
returns-clause-here c = λ yes. rw (← c.as_bytes.ensures.value) (word_first c.as_bytes.result.now c.args.word.now c.args.from (sym c.starts_with.ensures.value ∙ yes))
