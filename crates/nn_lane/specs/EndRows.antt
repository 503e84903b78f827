-- Lanes on small examples, computed.
use Rattle.std.specs.Prelude.{◌≡◌, ℕ, ◌+◌, ◌≤◌, ⊤, Option, Some, None, true, false, List, [], ◌∷◌, length, refl}
use Rattle.std.proofs.Common.{ap, sym, inl, inr, ⊎_elim, subst, get_or, true≢false, arith}
use Rattle.nn_types.specs.declared.report.Message.{Message}
use Rattle.nn_types.specs.declared.report.Kind.{Kind}
use Rattle.nn_types.specs.declared.report.Kind.TheVariants.{Receiving, Received}
use Rattle.nn_lane.specs.declared.fault.Refusal.TheVariants.{Closed, Exhausted, Full}
use Rattle.nn_lane.specs.declared.message.Taken.TheVariants as taken
use Rattle.nn_lane.specs.declared.message.Published.TheVariants as published
use Rattle.nn_lane.specs.Ends.{LaneId, Reporter, LaneEnd, node_of, got_of, loads_of, known_count, StaysCounted, next_message, Looks, Remembers, FindsPlace, HasPlace, RefusesMessage, LooksForClose, Publishes, GivesMessage, LooksOnce, Looked, StartsWith, capacity_of}
use Rattle.nn_lane.specs.Fault.{number_of}

abbrev message : ℕ → ℕ → ℕ → Kind → Message
message dn number block kind = record { dn = dn; number = number; block = block; stamp = 1001; len = 5; kind = kind }

-- two reports of DataNode 3 about one block
abbrev first : Message
first = message 3 1 1073741825 Receiving

abbrev second : Message
second = message 3 2 1073741825 Received

-- a lane of DataNode 3 with room for one message, whatever its table is
abbrev lane_of_three : LaneId → LaneId
lane_of_three l = record { table = record l.table { slots = 1 }; node = 3 }

has_one_place : (l : LaneId) → capacity_of (lane_of_three l) ≡ 1
has_one_place l = refl

-- a reporter that sent these, and looked so often, when so many were taken
abbrev reporting : LaneId → List Message → ℕ → ℕ → Reporter
reporting l sent loads seen = record { lane = lane_of_three l; sent = sent; prepared = None; seen = seen; loads = loads; checks = 0; told = false }

-- it looked once more whether the lane is closed
abbrev checked : Reporter → Reporter
checked r = record r { checks = r.checks + 1 }

abbrev told : Reporter → Reporter
told r = record r { told = true }

abbrev prepared : Reporter → Message → Reporter
prepared r x = record r { prepared = Some x }

-- an end that took these, and looked so often, when so many were accepted
abbrev taking : LaneId → List Message → ℕ → ℕ → LaneEnd
taking l got loads seen = record { lane = lane_of_three l; got = got; seen = seen; loads = loads; closed = false }

numbers_from_one : next_message 3 [] 1073741825 1001 5 Receiving ≡ first
numbers_from_one = refl

next_number : next_message 3 (first ∷ []) 1073741825 1001 5 Received ≡ second
next_number = refl

-- ---- A report, where the lane has one place.

first_has_a_place : (l : LaneId) → HasPlace (reporting l [] 0 0) (reporting l (first ∷ []) 1 0)
first_has_a_place l = ((inl (refl, refl, omega arith, omega arith), omega arith, omega arith), (refl, refl))

-- it was seen before that nothing was taken
first_has_a_place_unlooked : (l : LaneId) → HasPlace (reporting l [] 1 0) (reporting l (first ∷ []) 1 0)
first_has_a_place_unlooked l = ((inr (refl, refl), omega arith, omega arith), (refl, refl))

-- with no look it knows no more than it did
not_more_places_unlooked : (l : LaneId) → HasPlace (reporting l [] 1 0) (reporting l (first ∷ []) 1 1) → ⊥
not_more_places_unlooked l h =
    ⊎_elim (λ (k : Looks (reporting l [] 1 0) (reporting l (first ∷ []) 1 1) 1). let e : 1 ≡ 1 + 1 = k.0 in omega (arith, e)) (λ (k : (1 ≡ 1) × (1 ≡ 0)). let e : 1 ≡ 0 = k.1 in omega (arith, e)) h.0.0

second_has_none_yet : (l : LaneId) → HasPlace (reporting l (first ∷ []) 1 0) (reporting l (first ∷ second ∷ []) 2 0) → ⊥
second_has_none_yet l h = let e = h.0.1 in omega (arith, e)

second_has_one_then : (l : LaneId) → HasPlace (reporting l (first ∷ []) 1 0) (reporting l (first ∷ second ∷ []) 2 1)
second_has_one_then l = ((inl (refl, refl, omega arith, omega arith), omega arith, omega arith), (refl, refl))

none_once_told : (l : LaneId) (r : Reporter) → HasPlace (told (reporting l [] 0 0)) r → ⊥
none_once_told l r h = true≢false h.1.0

-- full: the message has the number that stays free, and in this call its one place was seen taken. Whether the lane is
-- closed was not looked at
full : (l : LaneId) → RefusesMessage (reporting l (first ∷ []) 1 0) (reporting l (first ∷ []) 2 0) second (Full second 0)
full l = (refl, omega arith, (refl, refl), (refl, refl, omega arith, omega arith), refl, refl)

not_with_another_number : (l : LaneId) (r : Reporter) → RefusesMessage (reporting l (first ∷ []) 1 0) r second (Full (message 3 3 1073741825 Received) 0) → ⊥
not_with_another_number l r same = let e : 3 ≡ 2 = ap (λ m. m.number) same.0 in omega (arith, e)

not_full_with_one_taken : (l : LaneId) (r : Reporter) → RefusesMessage (reporting l (first ∷ []) 1 0) r second (Full second 1) → ⊥
not_full_with_one_taken l r why = let e : 1 ≡ 1 + 1 = why.4 in omega (arith, e)

not_full_unless_seen_so : (l : LaneId) → RefusesMessage (reporting l (first ∷ []) 1 0) (reporting l (first ∷ []) 1 0) second (Full second 0) → ⊥
not_full_unless_seen_so l why = let e : 1 ≡ 1 + 1 = why.3.0 in omega (arith, e)

not_full_with_a_look_for_a_close : (l : LaneId) → RefusesMessage (reporting l (first ∷ []) 1 0) (checked (reporting l (first ∷ []) 2 0)) second (Full second 0) → ⊥
not_full_with_a_look_for_a_close l why = let e : 0 + 1 ≡ 0 = why.5 in omega (arith, e)

not_full_once_told : (l : LaneId) (r : Reporter) → RefusesMessage (told (reporting l (first ∷ []) 1 0)) r second (Full second 0) → ⊥
not_full_once_told l r why = true≢false why.2.0

not_exhausted : (l : LaneId) (r : Reporter) → RefusesMessage (reporting l (first ∷ []) 1 0) r second (Exhausted second) → ⊥
not_exhausted l r why = let e : 1 ≡ 4611686018427387904 = why.1 in omega (arith, e)

-- closed: one message was accepted and taken, so the second has a place, and the try finds the lane closed
closed : (l : LaneId) → RefusesMessage (reporting l (first ∷ []) 1 0) (told (reporting l (first ∷ []) 2 1)) second (Closed second 1)
closed l = (refl, refl, refl, inr (inl (refl, refl, omega arith, omega arith), omega arith, omega arith))

-- told before, at a full lane and with no look
closed_as_told : (l : LaneId) → RefusesMessage (told (reporting l (first ∷ []) 1 0)) (told (reporting l (first ∷ []) 1 0)) second (Closed second 1)
closed_as_told l = (refl, refl, refl, inl (refl, (refl, refl)))

not_closed_as_told_with_a_look : (l : LaneId) → RefusesMessage (told (reporting l (first ∷ []) 1 0)) (told (reporting l (first ∷ []) 2 0)) second (Closed second 1) → ⊥
not_closed_as_told_with_a_look l why = ⊎_elim (λ (h : (true ≡ true) × Remembers (reporting l (first ∷ []) 1 0) (reporting l (first ∷ []) 2 0)). let e : 2 ≡ 1 = h.1.0 in omega (arith, e))
    (λ (h : FindsPlace (told (reporting l (first ∷ []) 1 0)) (told (reporting l (first ∷ []) 2 0))). let e = h.1 in omega (arith, e)) why.3

-- told of no close before, a reporter finds a closed lane full
not_closed_where_full : (l : LaneId) → RefusesMessage (reporting l (first ∷ []) 1 0) (told (reporting l (first ∷ []) 2 0)) second (Closed second 1) → ⊥
not_closed_where_full l why = ⊎_elim (λ (e : (false ≡ true) × Remembers (reporting l (first ∷ []) 1 0) (told (reporting l (first ∷ []) 2 0))). true≢false (sym e.0)) (λ (h : FindsPlace (reporting l (first ∷ []) 1 0) (told (reporting l (first ∷ []) 2 0))). let e = h.1 in omega (arith, e)) why.3

not_closed_with_two : (l : LaneId) (r : Reporter) → RefusesMessage (reporting l (first ∷ []) 1 0) r second (Closed second 2) → ⊥
not_closed_with_two l r why = let e : 2 ≡ 1 = why.1 in omega (arith, e)

not_closed_untold : (l : LaneId) → RefusesMessage (reporting l (first ∷ []) 1 0) (reporting l (first ∷ []) 2 0) second (Closed second 1) → ⊥
not_closed_untold l why = true≢false (sym why.2)

-- ---- A look for a close.

sees_it_closed : (l : LaneId) → LooksForClose (reporting l [] 1 0) (told (checked (reporting l [] 1 0))) true
sees_it_closed l = refl

sees_it_open : (l : LaneId) → LooksForClose (prepared (reporting l [] 1 0) first) (checked (prepared (reporting l [] 1 0) first)) false
sees_it_open l = refl

-- told before, it does not look again
told_before : (l : LaneId) → LooksForClose (told (reporting l [] 1 0)) (told (reporting l [] 1 0)) true
told_before l = (refl, refl)

not_open_once_told : (l : LaneId) (r : Reporter) → LooksForClose (told (reporting l [] 1 0)) r false → ⊥
not_open_once_told l r h = true≢false (sym h.0)

not_open_unlooked : (l : LaneId) → LooksForClose (reporting l [] 1 0) (reporting l [] 1 0) false → ⊥
not_open_unlooked l h = let e : 0 ≡ 0 + 1 = ap (λ (r : Reporter). r.checks) h in omega (arith, e)

not_closed_and_untold : (l : LaneId) → LooksForClose (reporting l [] 1 0) (checked (reporting l [] 1 0)) true → ⊥
not_closed_and_untold l h = true≢false (sym (ap (λ (r : Reporter). r.told) h))

-- ---- A message that is prepared, and then published.

sends_it : (l : LaneId) → Publishes (prepared (reporting l [] 1 0) first) (reporting l (first ∷ []) 1 0) (published.Sent 1)
sends_it l = (first, refl, refl, refl, refl, refl, omega arith, (refl, refl))

finds_it_closed : (l : LaneId) → Publishes (prepared (reporting l [] 1 0) first) (told (reporting l [] 1 0)) (published.Refused (Closed first 0))
finds_it_closed l = (first, refl, refl, refl, refl, refl, refl)

not_sent_once_told : (l : LaneId) (r : Reporter) (n : ℕ) → Publishes (told (prepared (reporting l [] 1 0) first)) r (published.Sent n) → ⊥
not_sent_once_told l r n h = true≢false h.7.0

none_prepared : (l : LaneId) → Publishes (reporting l [] 1 0) (reporting l [] 1 0) published.Nothing
none_prepared l = (refl, refl)

not_none_where_one_is : (l : LaneId) (r : Reporter) → Publishes (prepared (reporting l [] 1 0) first) r published.Nothing → ⊥
not_none_where_one_is l r h = some_is_some h.0
  where
    has_one : Option Message → Type 0
    has_one None = ⊥
    has_one (Some m) = ⊤

    some_is_some : Some first ≡ None → ⊥
    some_is_some e = subst has_one e tt

-- ---- The other end takes.

-- the oldest that was sent, with its number
taken_first : (l : LaneId) → GivesMessage (taking l [] 0 0) (taking l (first ∷ []) 1 2) (taken.Message first)
taken_first l = (refl, refl, refl, omega arith)

not_the_second_first : (l : LaneId) (e : LaneEnd) → GivesMessage (taking l [] 0 0) e (taken.Message second) → ⊥
not_the_second_first l e h = let n : 2 ≡ length e.got = h.1 in let g = ap length h.0 in omega (arith, n, g)

not_one_unseen : (l : LaneId) → GivesMessage (taking l [] 0 0) (taking l (first ∷ []) 1 0) (taken.Message first) → ⊥
not_one_unseen l h = let e : 1 ≤ 0 = h.3 in omega (arith, e)

-- two were seen before, so the first is taken with no look; but none is found without one
taken_unlooked : (l : LaneId) → Looked (taking l [] 1 2) (taking l (first ∷ []) 1 2) (taken.Message first)
taken_unlooked l = inr (refl, refl)

not_more_messages_unlooked : (l : LaneId) → Looked (taking l [] 1 0) (taking l (first ∷ []) 1 1) (taken.Message first) → ⊥
not_more_messages_unlooked l h =
    ⊎_elim (λ (k : LooksOnce (taking l [] 1 0) (taking l (first ∷ []) 1 1)). let e : 1 ≡ 1 + 1 = k.0 in omega (arith, e)) (λ (k : (1 ≡ 1) × (1 ≡ 0)). let e : 1 ≡ 0 = k.1 in omega (arith, e)) h

not_empty_unlooked : (l : LaneId) → Looked (taking l (first ∷ []) 1 1) (taking l (first ∷ []) 1 1) (taken.Empty 1) → ⊥
not_empty_unlooked l h = let e : 1 ≡ 1 + 1 = h.0 in omega (arith, e)

-- nothing is left where all that were accepted were taken
empty : (l : LaneId) → GivesMessage (taking l (first ∷ []) 1 1) (taking l (first ∷ []) 2 1) (taken.Empty 1)
empty l = (refl, refl, refl)

not_empty_with_one_left : (l : LaneId) (e : LaneEnd) → GivesMessage (taking l (first ∷ []) 1 1) e (taken.Empty 2) → ⊥
not_empty_with_one_left l e h = let n : 2 ≡ 1 = h.2 in omega (arith, n)

in_front : StartsWith (first ∷ second ∷ []) (first ∷ [])
in_front = (second ∷ [], refl)

second_is_not_in_front : StartsWith (first ∷ second ∷ []) (second ∷ []) → ⊥
second_is_not_in_front h = let e : 1 ≡ 2 = ap (λ m. m.number) (heads first second (second ∷ []) h.0 h.1) in omega (arith, e)
  where
    heads : (x y : Message) (xs ys : List Message) → x ∷ xs ≡ y ∷ ys → x ≡ y
    heads x y xs ys e = ap (λ l. get_or l 0 x) e

-- what callers read of an end
read_off : (l : LaneId) → (node_of (taking l (first ∷ []) 3 2) ≡ 3) × (got_of (taking l (first ∷ []) 3 2) ≡ first ∷ []) × (loads_of (taking l (first ∷ []) 3 2) ≡ 3) × (known_count (taking l (first ∷ []) 3 2) ≡ 2)
read_off l = (refl, refl, refl, refl)

stays_counted : (l : LaneId) → StaysCounted (taking l (first ∷ []) 3 2) (taking l (first ∷ second ∷ []) 4 2)
stays_counted l = refl

numbers : (number_of (Full second 0) ≡ 41) × (number_of (Closed second 1) ≡ 42) × (number_of (Exhausted second) ≡ 43)
numbers = (refl, refl, refl)
