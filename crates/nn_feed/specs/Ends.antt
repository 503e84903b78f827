-- What callers see of the two ends of a feed, and what their calls do.
use Rattle.std.specs.Prelude.{◌≡◌, ◌≤◌, ◌<◌, ◌^◌, ◌⊎◌, true, false, List, [], ◌∷◌, ◌++◌, length, Err}
use Rattle.crossbeam_channel.specs.Ends.{sends_on, receives_on}
use Rattle.nn_segment.specs.Source.{Answer}
use Rattle.nn_segment.specs.declared.fault.SourceFault.TheVariants as source
use Rattle.nn_feed.specs.declared.ends.Feeder.{Feeder}
use Rattle.nn_feed.specs.declared.ends.FeedEnd.{FeedEnd}
use Rattle.nn_feed.specs.declared.fault.Refusal.{Refusal}
use Rattle.nn_feed.specs.declared.fault.Refusal.TheVariants.{Ended, Gone}
use Rattle.nn_feed.specs.declared.rule.Placed.{Placed}
use Rattle.nn_feed.specs.Feeds.{placed, answers_of, is_last, has_last, EndsIn, IsFeed}
use Rattle.nn_feed.specs.Passes.{put_in, got_in}

-- all that was put, with its places, oldest first
abbrev pub put_by : Feeder → List Placed
put_by f = put_in f.pass

-- all that was got
abbrev pub got_by : {R : Type 0} → FeedEnd R → List Placed
got_by e = got_in e.pass

-- the two ends are of one feed
abbrev pub AreOfOneFeed : {R : Type 0} → Feeder → FeedEnd R → Type 0
AreOfOneFeed f e = receives_on e.receiver ≡ sends_on f.sender

-- a call left the feeder at its feed
abbrev pub IsSameFeeder : Feeder → Feeder → Type 0
IsSameFeeder old new = sends_on new.sender ≡ sends_on old.sender

abbrev pub IsSameEnd : {R : Type 0} → FeedEnd R → FeedEnd R → Type 0
IsSameEnd old new = receives_on new.receiver ≡ receives_on old.receiver

-- ---- What the calls do.

-- End or a fault was put, or the answer is a segment too many
abbrev pub MayNotFollow : List Placed → Answer → Type 0
MayNotFollow put answer = (has_last put ≡ true) ⊎ ((is_last answer ≡ false) × (2 ^ 60 ≤ length put))

-- neither End nor a fault was put, and the answer is no segment too many
abbrev pub MayFollow : List Placed → Answer → Type 0
MayFollow put answer = (has_last put ≡ false) × (is_last answer ≡ false → length put < 2 ^ 60)

-- one answer more was put, at its place, where it may follow
abbrev pub PutsAnswer : List Placed → Answer → List Placed → Type 0
PutsAnswer put answer new = MayFollow put answer × (new ≡ put ++ placed answer (length put) ∷ [])

-- an answer was refused so: it comes back, 45 comes where it may not follow; 46 where it may, and its send failed, of which only the place is seen
abbrev pub RefusesAnswer : List Placed → Answer → Refusal → Type 0
RefusesAnswer put answer (Ended back) = (back ≡ answer) × MayNotFollow put answer
RefusesAnswer put answer (Gone back place) = (back ≡ answer) × MayFollow put answer × (place ≡ length put)

-- the last answer was got before, and comes again
abbrev pub GetsAgain : List Placed → Answer → List Placed → Type 0
GetsAgain old answer new = (is_last answer ≡ true) × EndsIn (answers_of old) answer × (new ≡ old)

-- one more answer was got, at its place
abbrev pub GetsNext : List Placed → Answer → List Placed → Type 0
GetsNext old answer new = (has_last old ≡ false) × (new ≡ old ++ placed answer (length old) ∷ []) × IsFeed 0 new

-- nothing was got: the channel says that the other end is gone, and nothing is left
abbrev pub GetsNothing : List Placed → Answer → List Placed → Type 0
GetsNothing old answer new = (has_last old ≡ false) × (answer ≡ Err source.Gone) × (new ≡ old)

abbrev pub Gets : List Placed → Answer → List Placed → Type 0
Gets old answer new = GetsAgain old answer new ⊎ GetsNext old answer new ⊎ GetsNothing old answer new

-- what a `next` of a feed's end gives
abbrev pub GivesWhatIsFed : {R : Type 0} → FeedEnd R → Answer → FeedEnd R → Type 0
GivesWhatIsFed old answer new = IsSameEnd old new × Gets (got_by old) answer (got_by new)

-- what was put is a feed; what was got is a prefix of it, and all of it once its last answer was got
abbrev pub IsMet : List Placed → List Placed → Type 0
IsMet put got = (rest : List Placed) × (put ≡ got ++ rest) × (has_last got ≡ true → rest ≡ []) × IsFeed 0 put
