-- The lists of answers that a feed may carry.
use Rattle.std.specs.Prelude.{◌≡◌, ℕ, Bool, true, false, ◌||◌, ◌+◌, ◌^◌, ◌<◌, List, [], ◌∷◌, ◌++◌, map, Ok, Err}
use Rattle.nn_segment.specs.Source.{Answer, is_end_item}
use Rattle.nn_segment.specs.declared.source.Item.TheVariants.{Segment, End}
use Rattle.nn_feed.specs.declared.rule.Placed.{Placed}

abbrev pub placed : Answer → ℕ → Placed
placed answer place = record { answer = answer; place = place }

abbrev pub answer_of : Placed → Answer
answer_of p = p.answer

-- the answers without their places
abbrev pub answers_of : List Placed → List Answer
answers_of ps = map answer_of ps

-- nothing follows End, nor a fault
abbrev pub is_last : Answer → Bool
is_last (Ok item) = is_end_item item
is_last (Err fault) = true

-- whether End or a fault is among them
abbrev pub has_last : List Placed → Bool
has_last [] = false
has_last (p ∷ ps) = is_last p.answer || has_last ps

-- the last of them is this one
abbrev pub EndsIn : List Answer → Answer → Type 0
EndsIn answers last = (before : List Answer) × (answers ≡ before ++ last ∷ [])

-- what may be at a place, and before these: a segment, with less than 2^60 before it; End or a fault, with nothing after it
abbrev pub MayStand : Answer → ℕ → List Placed → Type 0
MayStand (Ok (Segment s)) place behind = place < 2 ^ 60
MayStand (Ok End) place behind = behind ≡ []
MayStand (Err fault) place behind = behind ≡ []

-- from this place on, each answer carries its place, and may be there
abbrev pub IsFeed : ℕ → List Placed → Type 0
IsFeed place [] = Unit {0}
IsFeed place (p ∷ ps) = (p.place ≡ place) × MayStand p.answer place ps × IsFeed (place + 1) ps
