-- The intake core on small examples, computed.
use Rattle.std.specs.Prelude.{◌≡◌, ℕ, ◌+◌, ◌<◌, true, false, List, [], ◌∷◌, length, slice_index, refl}
use Rattle.std.proofs.Common.{true≢false, arith}
use Rattle.nn_types.specs.declared.report.Message.{Message}
use Rattle.nn_types.specs.declared.report.Kind.TheVariants.{Received}
use Rattle.nn_lane.specs.Intake.{IntakeEvent, Accept, Take, Close, Look, no_intake, intake_after, MayAll, words_of, laid, front_word, taken_word}

abbrev pub message : ℕ → Message
message number = record { dn = 3; number = number; block = 1073741825; stamp = 1001; len = 5; kind = Received }

-- one place: the second message is accepted once the first was taken
abbrev full_lane : List IntakeEvent
full_lane = Accept (message 1) ∷ Look ∷ Take ∷ Accept (message 2) ∷ []

full_lane_may_be : MayAll 1 no_intake full_lane
full_lane_may_be = ((refl, omega arith), (tt, (omega arith, ((refl, omega arith), tt))))

full_lane_ends : intake_after no_intake full_lane ≡ record { accepted = message 1 ∷ message 2 ∷ []; taken = 1; closed = false }
full_lane_ends = refl

none_when_full : MayAll 1 no_intake (Accept (message 1) ∷ Accept (message 2) ∷ []) → ⊥
none_when_full h = let e : 1 < 0 + 1 = h.1.0.1 in omega (arith, e)

-- four places, closed after two messages, which are taken then
abbrev closed_lane : List IntakeEvent
closed_lane = Accept (message 1) ∷ Accept (message 2) ∷ Close ∷ Look ∷ Take ∷ Take ∷ Look ∷ []

closed_lane_may_be : MayAll 4 no_intake closed_lane
closed_lane_may_be = ((refl, omega arith), ((refl, omega arith), (refl, (tt, (omega arith, (omega arith, (tt, tt)))))))

closed_lane_ends : intake_after no_intake closed_lane ≡ record { accepted = message 1 ∷ message 2 ∷ []; taken = 2; closed = true }
closed_lane_ends = refl

none_when_closed : MayAll 4 no_intake (Close ∷ Accept (message 1) ∷ []) → ⊥
none_when_closed h = true≢false h.1.0.0

none_taken_that_was_not_accepted : MayAll 4 no_intake (Accept (message 1) ∷ Take ∷ Take ∷ []) → ⊥
none_taken_that_was_not_accepted h = let e : 1 < 1 = h.1.1.0 in omega (arith, e)

closed_once : MayAll 4 no_intake (Close ∷ Close ∷ []) → ⊥
closed_once h = true≢false h.1.0

-- two accepted, one taken: the words are 4 and 1; closed, 5 and 1
words : words_of (intake_after no_intake (Accept (message 1) ∷ Accept (message 2) ∷ Take ∷ [])) ≡ laid 4 1
words = refl

words_when_closed : words_of (intake_after no_intake (Accept (message 1) ∷ Accept (message 2) ∷ Take ∷ Close ∷ [])) ≡ laid 5 1
words_when_closed = refl

-- the two words that count, among those that nothing uses
where_they_lie : (slice_index (laid 4 1) front_word ≡ 4) × (slice_index (laid 4 1) taken_word ≡ 1) × (length (laid 4 1) ≡ 32)
where_they_lie = (refl, refl, refl)
