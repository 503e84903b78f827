-- Calls of a source, one after another.
use Rattle.std.proofs.Common.{◌≡◌, List, [], ◌∷◌, ◌++◌, map, Ok, Err, refl, subst, sym, ap, ◌∙◌, append_assoc}
use Rattle.std.proofs.lemmas.List.{append-nil, map-append}
use Rattle.nn_segment.specs.Segment.{Segment}
use Rattle.nn_segment.specs.Source.{Answer, given, end, Asked, AreAnswersOf, GivesInOrder}
use Rattle.nn_segment.specs.LogEnd.{given_in}
use Rattle.nn_segment.specs.Walk.{segments_in}
use Rattle.nn_segment.specs.declared.fault.SourceFault.{SourceFault}
use Rattle.nn_segment.specs.declared.source.Item.TheVariants as item

pub asked_append : {S : Type 0} (gives : S → Answer → S → Type 0) (old between new : S) (answers more : List Answer)
    → Asked gives old answers between → Asked gives between more new → Asked gives old (answers ++ more) new
asked_append {S} gives old between new [] more first later = let P : S → Type 0 = λ x. Asked gives x more new in subst P (sym first) later
asked_append gives old between new (answer ∷ answers) more first later =
    (first.0, first.1, asked_append gives first.0 between new answers more first.2 later)

-- one more answer
pub asked_again : {S : Type 0} (gives : S → Answer → S → Type 0) (old between new : S) (answers : List Answer) (answer : Answer)
    → Asked gives old answers between → gives between answer new → Asked gives old (answers ++ answer ∷ []) new
asked_again gives old between new answers answer first h = asked_append gives old between new answers (answer ∷ []) first (new, h, refl)

pub in_order : GivesInOrder
in_order old new [] asked = tt
in_order [] new (answer ∷ answers) asked =
    (asked.1.0, let P : List Segment → Type 0 = λ x. AreAnswersOf x answers in subst P asked.1.1 (in_order asked.0 new answers asked.2))
in_order (s ∷ segments) new (answer ∷ answers) asked =
    (asked.1.0, let P : List Segment → Type 0 = λ x. AreAnswersOf x answers in subst P asked.1.1 (in_order asked.0 new answers asked.2))

-- one more segment
pub asked_more : {S : Type 0} (gives : S → Answer → S → Type 0) (old between new : S) (segments : List Segment) (s : Segment)
    → Asked gives old (map given segments) between → gives between (given s) new → Asked gives old (map given (segments ++ s ∷ [])) new
asked_more gives old between new segments s first h =
    subst (λ answers. Asked gives old answers new) (sym (map-append given segments (s ∷ []))) (asked_again gives old between new (map given segments) (given s) first h)

-- ---- the segments among the answers

-- their transactions are those of the answers
pub segments_given : (answers : List Answer) → segments_in answers ≡ map (λ (s : Segment). s.txs) (given_in answers)
segments_given [] = refl
segments_given (Ok (item.Segment s) ∷ answers) = ap (λ all. s.txs ∷ all) (segments_given answers)
segments_given (Ok item.End ∷ answers) = segments_given answers
segments_given (Err fault ∷ answers) = segments_given answers

pub given-append : (answers more : List Answer) → given_in (answers ++ more) ≡ given_in answers ++ given_in more
given-append [] more = refl
given-append (Ok (item.Segment s) ∷ answers) more = ap (λ ss. s ∷ ss) (given-append answers more)
given-append (Ok item.End ∷ answers) more = given-append answers more
given-append (Err fault ∷ answers) more = given-append answers more

pub end_gives_none : (answers : List Answer) → given_in (answers ++ end ∷ []) ≡ given_in answers
end_gives_none answers = given-append answers (end ∷ []) ∙ append-nil (given_in answers)

pub fault_gives_none : (fault : SourceFault) (answers : List Answer) → given_in (answers ++ Err fault ∷ []) ≡ given_in answers
fault_gives_none fault answers = given-append answers (Err fault ∷ []) ∙ append-nil (given_in answers)

pub one_given : (answers : List Answer) (s : Segment) (later : List Segment) → given_in (answers ++ given s ∷ []) ++ later ≡ given_in answers ++ (s ∷ later)
one_given answers s later = ap (λ g. g ++ later) (given-append answers (given s ∷ [])) ∙ append_assoc (given_in answers) (s ∷ []) later
