-- What is put of one more answer of the source.
use Rattle.std.proofs.Common.{◌≡◌, ℕ, List, [], ◌∷◌, ◌++◌, map, Ok, Err, OnErr, arith, sym, subst}
use Rattle.std.proofs.lemmas.Grind.{common_steps}
use Rattle.nn_segment.specs.Segment.{Segment}
use Rattle.nn_segment.specs.Source.{Answer, given}
use Rattle.nn_feed.specs.declared.fault.Refusal.{Refusal}
use Rattle.nn_feed.specs.declared.fault.Refusal.TheVariants.{Ended, Gone}
use Rattle.nn_feed.specs.declared.rule.Placed.{Placed}
use Rattle.nn_feed.specs.Ends.{RefusesAnswer}
use Rattle.nn_feed.specs.Feeds.{placed, answers_of}
use Rattle.nn_feed.specs.declared.fault.FeedFault.TheVariants.{Refused}
use Rattle.nn_feed.specs.Running.{refused_answer, then_last, WasRefused}

pub one_more : (now after : List Placed) (before : List Answer) (xs : List Segment) (x : Segment) (n : ℕ)
    → answers_of now ≡ before ++ map given xs → after ≡ now ++ placed (given x) n ∷ [] → answers_of after ≡ before ++ map given (xs ++ x ∷ [])
one_more now after before xs x n e h = grind (arith, common_steps)

pub one_last_more : (now after : List Placed) (before : List Answer) (xs : List Segment) (last : Answer) (n : ℕ)
    → answers_of now ≡ before ++ map given xs → after ≡ now ++ placed last n ∷ [] → answers_of after ≡ before ++ then_last xs last
one_last_more now after before xs last n e h = grind (arith, common_steps)

-- the answer that comes back is the one that was to be put
pub came_back : (put : List Placed) (answer : Answer) (refusal : Refusal) → RefusesAnswer put answer refusal → refused_answer refusal ≡ answer
came_back put answer (Ended back) h = h.0
came_back put answer (Gone back place) h = h.0

-- what does not come of an item
pub on_no_fault : (P : Type 0) (answer : Answer) → OnErr answer ⊥ → OnErr answer P
on_no_fault P (Ok item) h = tt
on_no_fault P (Err fault) h = absurd h

-- what a feeder refused, it refused with what is put now
pub was_refused : (old new : List Placed) (answer : Answer) (refusal : Refusal) → new ≡ old → refused_answer refusal ≡ answer → RefusesAnswer old answer refusal → WasRefused new (Refused refusal)
was_refused old new answer refusal p q r = subst (λ l. RefusesAnswer l (refused_answer refusal) refusal) (sym p) (subst (λ a. RefusesAnswer old a refusal) (sym q) r)
