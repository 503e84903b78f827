-- What sources give.
use Rattle.std.specs.Prelude.{◌≡◌, List, [], ◌∷◌, Bool, true, false, Result, Ok}
use Rattle.nn_segment.specs.Segment.{Segment}
use Rattle.nn_segment.specs.declared.fault.SourceFault.{SourceFault}
use Rattle.nn_segment.specs.declared.source.Item.{Item}
use Rattle.nn_segment.specs.declared.source.Item.TheVariants as item

abbrev pub is_end_item : Item → Bool
is_end_item (item.Segment s) = false
is_end_item item.End = true

-- what a `next` answers
abbrev pub Answer : Type 0
Answer = Result Item SourceFault

abbrev pub given : Segment → Answer
given s = Ok (item.Segment s)

abbrev pub end : Answer
end = Ok item.End

module _ {S : Type 0} (gives : S → Answer → S → Type 0) where
  -- a source was asked again and again, from one state to another, and these were its answers
  abbrev pub Asked : S → List Answer → S → Type 0
  Asked old [] new = old ≡ new
  Asked old (answer ∷ answers) new = (between : S) × gives old answer between × Asked between answers new

-- ---- A source in memory.

abbrev pub GivesNext : List Segment → Answer → List Segment → Type 0
GivesNext [] answer new = (answer ≡ end) × (new ≡ [])
GivesNext (s ∷ segments) answer new = (answer ≡ given s) × (new ≡ segments)

-- the answers are these segments, and then End
abbrev pub AreAnswersOf : List Segment → List Answer → Type 0
AreAnswersOf segments [] = Unit {0}
AreAnswersOf [] (answer ∷ answers) = (answer ≡ end) × AreAnswersOf [] answers
AreAnswersOf (s ∷ segments) (answer ∷ answers) = (answer ≡ given s) × AreAnswersOf segments answers

-- however often it is asked, it gives its segments in order, and then End
abbrev pub GivesInOrder : Type 0
GivesInOrder = (old new : List Segment) (answers : List Answer) → Asked GivesNext old answers new → AreAnswersOf old answers
