-- What a feed, which came to its end, says of its source.
use Rattle.std.specs.Prelude.{◌≡◌, true, List, [], ◌∷◌, ◌++◌}
use Rattle.nn_segment.specs.Segment.{Segment}
use Rattle.nn_segment.specs.LogEnd.{given_in}
use Rattle.nn_segment.specs.Source.{Answer, Asked}
use Rattle.nn_feed.specs.declared.rule.Placed.{Placed}
use Rattle.nn_feed.specs.Ends.{Gets, IsMet}
use Rattle.nn_feed.specs.Feeds.{answers_of, has_last, EndsIn}
use Rattle.nn_feed.specs.Running.{GaveThen, then_last}

-- Where a source was asked up to its End or a fault, all its answers were put in a new feed, and the other end got the last
-- of them too: the segments that the other end gave are those that the source itself gave, in the same order, and its last answer is the source's
abbrev pub GivesWhatItsSourceGave : {S : Type 0} → (S → Answer → S → Type 0) → Type 0
GivesWhatItsSourceGave {S} gives =
    (source after : S) (put got : List Placed) (segments : List Segment) (last : Answer) (answers : List Answer)
    → GaveThen gives source segments last after → answers_of put ≡ then_last segments last
    → Asked Gets [] answers got → has_last got ≡ true → IsMet put got
    → (theirs : List Answer) × Asked gives source (theirs ++ last ∷ []) after × (given_in theirs ≡ given_in answers) × EndsIn answers last
