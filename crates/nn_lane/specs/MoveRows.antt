-- The steps of calls, as events, computed.
use Rattle.std.specs.Prelude.{◌≡◌, ◌==◌, ℕ, ◌+◌, ◌*◌, Bool, true, false, if◌then◌else◌, List, [], ◌∷◌, length, map, None, slice_index, refl}
use Rattle.std.proofs.Common.{arith, sym, ap, ◌∙◌, subst, get_or, true≢false}
use Rattle.std.proofs.lemmas.Bool.{eqb-true}
use mathlib.Core.Option.{some}
use Rattle.nn_lane.specs.declared.view.Sender.{Sender}
use Rattle.nn_lane.specs.declared.view.Taker.{Taker}
use Rattle.nn_lane.specs.declared.view.View.{View}
use Rattle.nn_lane.specs.Intake.{IntakeEvent, Accept, Take, Close, Look, laid}
use Rattle.nn_lane.specs.IntakeRows.{message}
use Rattle.nn_lane.specs.Lane.{taker_of, reporter_of}
use Rattle.nn_lane.specs.Moves.{LaneState, MakesStep, Moves, MovesInTurn, IsMadeBy, SeatStep, SeeTaken, SeeClosed, Send, GiveBack, SeeFront, TakeFirst, Shut, Learn, becomes, event_of, open_front, word_of}

-- the reporter sent one message, and the other end took none
abbrev sender : Sender
sender = record { node = 3; sent = message 1 ∷ []; seen = 0; loads = 0; checks = 0; out = true; told = false }

abbrev taker : Bool → Taker
taker closed = record { node = 3; got = []; seen = 1; loads = 1; next = None; closed = closed }

abbrev view : Bool → View
view closed = record { sends = true; takes = false; met = false; sender = sender; taker = taker closed }

-- an open lane of one message has the word 2, a closed one 3
sent_where_open : event_of (view false) (Send (message 2)) 2 ≡ Accept (message 2)
sent_where_open = refl

looked_where_closed : event_of (view false) (Send (message 2)) 3 ≡ Look
looked_where_closed = refl

closed_and_closed_again : (event_of (view false) Shut 2 ≡ Close) × (event_of (view true) Shut 3 ≡ Look)
closed_and_closed_again = (refl, refl)

taken_and_looked : (event_of (view false) TakeFirst 0 ≡ Take) × (event_of (view false) SeeTaken 0 ≡ Look) × (event_of (view false) SeeClosed 3 ≡ Look) × (event_of (view false) SeeFront 2 ≡ Look) × (event_of (view false) GiveBack 0 ≡ Look) × (event_of (view false) Learn 2 ≡ Look)
taken_and_looked = (refl, refl, refl, refl, refl, refl)

-- what becomes of the words: sending adds 2 to an open one, closing sets the low bit
words_after : (becomes (view false) (Send (message 2)) 2 ≡ 4) × (becomes (view false) (Send (message 2)) 3 ≡ 3) × (becomes (view false) Shut 2 ≡ 3) × (becomes (view false) TakeFirst 0 ≡ 1) × (becomes (view false) SeeFront 2 ≡ 2)
words_after = (refl, refl, refl, refl, refl)

where_they_step : map word_of (SeeTaken ∷ Send (message 2) ∷ GiveBack ∷ SeeFront ∷ TakeFirst ∷ Shut ∷ Learn ∷ []) ≡ 24 ∷ 8 ∷ 24 ∷ 8 ∷ 24 ∷ 8 ∷ 8 ∷ []
where_they_step = refl

-- ---- The seats that make them, and the moves of a lane.

by_the_reporter : IsMadeBy (view false) SeeTaken × IsMadeBy (view false) (Send (message 2)) × IsMadeBy (view false) GiveBack
by_the_reporter = ((refl, refl), ((refl, refl), refl), (refl, refl))

by_the_other_end : IsMadeBy (taker_of (view false)) SeeFront × IsMadeBy (taker_of (view false)) TakeFirst × IsMadeBy (taker_of (view false)) Shut
by_the_other_end = ((refl, refl), (refl, refl), (refl, refl))

not_closed_by_the_reporter : IsMadeBy (view false) Shut → ⊥
not_closed_by_the_reporter h = true≢false h.0

not_sent_with_no_slot_out : IsMadeBy (record (view false) { sender = record sender { out = false } }) (Send (message 2)) → ⊥
not_sent_with_no_slot_out h = true≢false (sym h.1)

-- the table of a lane of one message, where the other end is closed or open
abbrev lane : ℕ → Bool → LaneState
lane front closed = record { words = laid front 0; homes = some (message 1) ∷ []; views = taker_of (view closed) ∷ reporter_of (view closed) ∷ [] }

abbrev is_accept : IntakeEvent → Bool
is_accept (Accept x) = true
is_accept Take = false
is_accept Close = false
is_accept Look = false

abbrev is_take : IntakeEvent → Bool
is_take (Accept x) = false
is_take Take = true
is_take Close = false
is_take Look = false

abbrev is_close : IntakeEvent → Bool
is_close (Accept x) = false
is_close Take = false
is_close Close = true
is_close Look = false

-- an event of one of two kinds is of no third
neither : (kind : IntakeEvent → Bool) (b : Bool) (x y e : IntakeEvent) → kind x ≡ false → kind y ≡ false → kind e ≡ true → (if b then x else y) ≡ e → ⊥
neither kind true x y e first second is same = true≢false (sym is ∙ sym (ap kind same) ∙ first)
neither kind false x y e first second is same = true≢false (sym is ∙ sym (ap kind same) ∙ second)

-- whoever closed the lane closes it no more
not_closed_again : (v : View) (c : SeatStep) (f : ℕ) → v.taker.closed ≡ true → event_of v c f ≡ Close → ⊥
not_closed_again v SeeTaken f was e = true≢false (sym (ap is_close e))
not_closed_again v SeeClosed f was e = true≢false (sym (ap is_close e))
not_closed_again v (Send x) f was e = neither is_close (f == open_front v) (Accept x) Look Close refl refl refl e
not_closed_again v GiveBack f was e = true≢false (sym (ap is_close e))
not_closed_again v SeeFront f was e = true≢false (sym (ap is_close e))
not_closed_again v TakeFirst f was e = true≢false (sym (ap is_close e))
not_closed_again v Shut f was e = true≢false (sym (ap is_close (subst (λ b. (if b then Look else Close) ≡ Close) was e)))
not_closed_again v Learn f was e = true≢false (sym (ap is_close e))

-- nothing is accepted by a closed one, whose word is odd
not_accepted_when_closed : (v : View) (c : SeatStep) → event_of v c 3 ≡ Accept (message 2) → ⊥
not_accepted_when_closed v SeeTaken e = true≢false (sym (ap is_accept e))
not_accepted_when_closed v SeeClosed e = true≢false (sym (ap is_accept e))
not_accepted_when_closed v (Send x) e = by (3 == open_front v) refl e
  where
    by : (b : Bool) → (3 == open_front v) ≡ b → (if b then Accept x else Look) ≡ Accept (message 2) → ⊥
    by true same e = let front : 3 ≡ 2 * length v.sender.sent = eqb-true 3 (open_front v) same in omega (arith, front)
    by false same e = true≢false (sym (ap is_accept e))
not_accepted_when_closed v GiveBack e = true≢false (sym (ap is_accept e))
not_accepted_when_closed v SeeFront e = true≢false (sym (ap is_accept e))
not_accepted_when_closed v TakeFirst e = true≢false (sym (ap is_accept e))
not_accepted_when_closed v Shut e = neither is_accept v.taker.closed Look Close (Accept (message 2)) refl refl refl e
not_accepted_when_closed v Learn e = true≢false (sym (ap is_accept e))

-- what is taken is counted
not_taken_uncounted : Moves 1 (lane 2 false) Take (lane 2 false) → ⊥
not_taken_uncounted h = by h.1 h.2 h.3
  where
    back : List ℕ → ℕ
    back words = get_or words 24 0

    by : (c : SeatStep) → MakesStep 1 (lane 2 false) h.0 c (lane 2 false) → event_of h.0 c (slice_index (lane 2 false).words (word_of c)) ≡ Take → ⊥
    by SeeTaken m e = true≢false (sym (ap is_take e))
    by SeeClosed m e = true≢false (sym (ap is_take e))
    by (Send x) m e = neither is_take (2 == open_front h.0) (Accept x) Look Take refl refl refl e
    by GiveBack m e = true≢false (sym (ap is_take e))
    by SeeFront m e = true≢false (sym (ap is_take e))
    by TakeFirst m e = let word : 0 ≡ length h.0.taker.got + 1 = ap back m.1.4 in omega (arith, word)
    by Shut m e = neither is_take h.0.taker.closed Look Close Take refl refl refl e
    by Learn m e = true≢false (sym (ap is_take e))

no_step : (s : LaneState) → MovesInTurn 3 1 s [] s
no_step s = refl

not_elsewhere_with_no_step : MovesInTurn 3 1 (lane 2 false) [] (lane 3 false) → ⊥
not_elsewhere_with_no_step h = let e : 3 ≡ 2 = ap front h in omega (arith, e)
  where
    front : LaneState → ℕ
    front s = get_or s.words 8 0
