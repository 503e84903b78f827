-- When the rule of a lane holds: a lane of one place, and for each clause an example that breaks it.
use Rattle.std.specs.Prelude.{◌≡◌, ◌≢◌, ℕ, zero, suc, ◌+◌, ◌%◌, ◌<◌, ◌≤◌, true, false, List, [], ◌∷◌, length, None, Some, refl}
use Rattle.std.proofs.Common.{arith, sym, ap, ◌∙◌, get_or, true≢false}
use mathlib.Core.Option.{some, none}
use mathlib.Core.Option as maybe
use lib.ListN.{get_elem?}
use Rattle.nn_types.specs.declared.report.Message.{Message}
use Rattle.nn_lane.specs.declared.view.Sender.{Sender}
use Rattle.nn_lane.specs.declared.view.Taker.{Taker}
use Rattle.nn_lane.specs.Intake.{laid}
use Rattle.nn_lane.specs.IntakeRows.{message}
use Rattle.nn_lane.specs.Lane.{LaneFacts, new_sender, new_taker}

-- its one slot, with a message in it
abbrev slot : ℕ → List (maybe.Option Message)
slot number = some (message number) ∷ []

abbrev emptied : List (maybe.Option Message)
emptied = none ∷ []

-- a reporter that sent one message, when it had last seen none taken
abbrev sent_one : Sender
sent_one = record { node = 3; sent = message 1 ∷ []; seen = 0; loads = 1; checks = 0; out = false; told = false }

-- the other end, which knows of that one
abbrev saw_one : Taker
saw_one = record { node = 3; got = []; seen = 1; loads = 1; next = None; closed = false }

abbrev took_one : Taker
took_one = record saw_one { got = message 1 ∷ [] }

none_in_one : (k : ℕ) (m : Message) → get_elem? {A = Message} [] k ≡ some m → ⊥
none_in_one k m e = cc

-- ---- Lanes that keep it.

new_lane : LaneFacts 3 1 (laid 0 0) (slot 7) (new_sender 3) (new_taker 3)
new_lane = record {
  left = [];
  as_long = refl;
  some_slot = omega arith;
  words_are = refl;
  split = refl;
  within = omega arith;
  numbered = λ k m e. absurd (none_in_one k m e);
  nodes = (refl, refl);
  seen_taken = omega arith;
  fits = λ out. absurd (true≢false (sym out));
  seen_low = omega arith;
  seen_high = omega arith;
  closed = λ shut. absurd (true≢false (sym shut));
  told = λ told. absurd (true≢false (sym told));
  next = λ m e. absurd (cc);
  ahead = λ m e. absurd (cc);
  lies = λ k m e. absurd (none_in_one k m e);
  vacant = at;
}
  where
    at : (i : ℕ) → i < 1 → (false ≡ true → i ≢ 0) → (false ≡ true → i ≢ 0) → (y : Message) × (get_elem? (slot 7) i ≡ some (some y))
    at zero few one other = (message 7, refl)
    at (suc i) few one other = absurd (omega (arith, few))

-- one message was sent, and lies in the slot
numbered_one : (k : ℕ) (m : Message) → get_elem? (message 1 ∷ []) k ≡ some m → (m.number ≡ k + 1) × (m.dn ≡ 3)
numbered_one zero m e = let same : message 1 ≡ m = cc in (ap (λ (x : Message). x.number) (sym same), ap (λ (x : Message). x.dn) (sym same))
numbered_one (suc k) m e = absurd (none_in_one k m e)

one_sent : LaneFacts 3 1 (laid 2 0) (slot 1) sent_one saw_one
one_sent = record {
  left = message 1 ∷ [];
  as_long = refl;
  some_slot = omega arith;
  words_are = refl;
  split = refl;
  within = omega arith;
  numbered = numbered_one;
  nodes = (refl, refl);
  seen_taken = omega arith;
  fits = λ out. absurd (true≢false (sym out));
  seen_low = omega arith;
  seen_high = omega arith;
  closed = λ shut. absurd (true≢false (sym shut));
  told = λ told. absurd (true≢false (sym told));
  next = λ m e. absurd (cc);
  ahead = λ m e. absurd (cc);
  lies = at;
  vacant = home;
}
  where
    at : (k : ℕ) (m : Message) → get_elem? (message 1 ∷ []) k ≡ some m → (false ≡ true → 0 < k) → get_elem? (slot 1) ((0 + k) % 1) ≡ some (some m)
    at zero m e away = let same : message 1 ≡ m = cc in ap (λ (x : Message). some (some x)) same
    at (suc k) m e away = absurd (none_in_one k m e)

    home : (i : ℕ) → i < 1 → (false ≡ true → i ≢ 0) → (false ≡ true → i ≢ 0) → (y : Message) × (get_elem? (slot 1) i ≡ some (some y))
    home zero few one other = (message 1, refl)
    home (suc i) few one other = absurd (omega (arith, few))

-- ---- What breaks it.

not_another_count_of_slots : (w : List ℕ) (r : Sender) (e : Taker) → LaneFacts 3 2 w (slot 1) r e → ⊥
not_another_count_of_slots w r e h = let n : 1 ≡ 2 = h.as_long in omega (arith, n)

not_without_a_slot : (w : List ℕ) (r : Sender) (e : Taker) → LaneFacts 3 0 w [] r e → ⊥
not_without_a_slot w r e h = omega (arith, h.some_slot)

-- the front word counts by two, and its low bit says that the lane is closed
not_counted_by_one : (s : List (maybe.Option Message)) → LaneFacts 3 1 (laid 1 0) s sent_one saw_one → ⊥
not_counted_by_one s h = let n : 1 ≡ 2 = ap front h.words_are in omega (arith, n)
  where
    front : List ℕ → ℕ
    front words = get_or words 8 0

not_closed_without_its_bit : (s : List (maybe.Option Message)) → LaneFacts 3 1 (laid 2 0) s sent_one (record saw_one { closed = true }) → ⊥
not_closed_without_its_bit s h = let n : 2 ≡ 3 = ap front h.words_are in omega (arith, n)
  where
    front : List ℕ → ℕ
    front words = get_or words 8 0

not_taken_in_its_word_alone : (s : List (maybe.Option Message)) → LaneFacts 3 1 (laid 2 1) s sent_one saw_one → ⊥
not_taken_in_its_word_alone s h = let n : 1 ≡ 0 = ap back h.words_are in omega (arith, n)
  where
    back : List ℕ → ℕ
    back words = get_or words 24 0

-- what was taken is what was sent first
not_taken_before_it_was_sent : (w : List ℕ) (s : List (maybe.Option Message)) → LaneFacts 3 1 w s (new_sender 3) took_one → ⊥
not_taken_before_it_was_sent w s h = let e : [] ≡ message 1 ∷ h.left = h.split in cc

not_another_taken : (w : List ℕ) (s : List (maybe.Option Message)) → LaneFacts 3 1 w s sent_one (record saw_one { got = message 2 ∷ [] }) → ⊥
not_another_taken w s h = let e : message 1 ∷ [] ≡ message 2 ∷ h.left = h.split in let n : 1 ≡ 2 = ap first_number e in omega (arith, n)
  where
    first_number : List Message → ℕ
    first_number [] = 0
    first_number (m ∷ ms) = m.number

-- two wait where one has a place
not_more_than_places : (w : List ℕ) (s : List (maybe.Option Message)) → LaneFacts 3 1 w s (record sent_one { sent = message 1 ∷ message 2 ∷ [] }) (record saw_one { seen = 2 }) → ⊥
not_more_than_places w s h = let e = ap length h.split in omega (arith, e, h.within)

not_another_number : (w : List ℕ) (s : List (maybe.Option Message)) (e : Taker) → LaneFacts 3 1 w s (record sent_one { sent = message 2 ∷ [] }) e → ⊥
not_another_number w s e h = let n : 2 ≡ 1 = (h.numbered 0 (message 2) refl).0 in omega (arith, n)

not_of_another_datanode : (w : List ℕ) (s : List (maybe.Option Message)) (e : Taker) → LaneFacts 4 1 w s sent_one e → ⊥
not_of_another_datanode w s e h = let n : 3 ≡ 4 = (h.numbered 0 (message 1) refl).1 in omega (arith, n)

not_ends_of_two_lanes : (w : List ℕ) (s : List (maybe.Option Message)) → LaneFacts 3 1 w s (new_sender 3) (new_taker 4) → ⊥
not_ends_of_two_lanes w s h = let n : 4 ≡ 3 = h.nodes.1 in omega (arith, n)

-- an end saw what was true
not_seen_before_it_was_taken : (w : List ℕ) (s : List (maybe.Option Message)) → LaneFacts 3 1 w s (record sent_one { seen = 1 }) saw_one → ⊥
not_seen_before_it_was_taken w s h = let n : 1 ≤ 0 = h.seen_taken in omega (arith, n)

not_out_without_a_place : (w : List ℕ) (s : List (maybe.Option Message)) → LaneFacts 3 1 w s (record sent_one { out = true }) saw_one → ⊥
not_out_without_a_place w s h = let n : 1 < 0 + 1 = h.fits refl in omega (arith, n)

not_taken_unseen : (w : List ℕ) (s : List (maybe.Option Message)) → LaneFacts 3 1 w s sent_one (record took_one { seen = 0 }) → ⊥
not_taken_unseen w s h = let n : 1 ≤ 0 = h.seen_low in omega (arith, n)

not_seen_before_it_was_sent : (w : List ℕ) (s : List (maybe.Option Message)) → LaneFacts 3 1 w s (new_sender 3) saw_one → ⊥
not_seen_before_it_was_sent w s h = let n : 1 ≤ 0 = h.seen_high in omega (arith, n)

-- a close counted all that was sent
not_closed_on_fewer : (w : List ℕ) (s : List (maybe.Option Message)) → LaneFacts 3 1 w s sent_one (record saw_one { seen = 0; closed = true }) → ⊥
not_closed_on_fewer w s h = let n : 0 ≡ 1 = h.closed refl in omega (arith, n)

not_told_of_an_open_lane : (w : List ℕ) (s : List (maybe.Option Message)) → LaneFacts 3 1 w s (record sent_one { told = true }) saw_one → ⊥
not_told_of_an_open_lane w s h = true≢false (sym (h.told refl))

-- the message that is out is the first that is left
not_next_of_none_left : (w : List ℕ) (s : List (maybe.Option Message)) → LaneFacts 3 1 w s sent_one (record took_one { next = Some (message 1) }) → ⊥
not_next_of_none_left w s h = first h.left h.split (h.next (message 1) refl)
  where
    first : (left : List Message) → message 1 ∷ [] ≡ message 1 ∷ left → get_elem? left 0 ≡ some (message 1) → ⊥
    first [] e there = cc
    first (m ∷ ms) e there = let n = ap length e in omega (arith, n)

not_next_unseen : (w : List ℕ) (s : List (maybe.Option Message)) → LaneFacts 3 1 w s sent_one (record saw_one { seen = 0; next = Some (message 1) }) → ⊥
not_next_unseen w s h = let n : 0 < 0 = h.ahead (message 1) refl in omega (arith, n)

-- the slot has the message
not_another_in_its_slot : (w : List ℕ) → LaneFacts 3 1 w (slot 2) sent_one saw_one → ⊥
not_another_in_its_slot w h = first h.left h.split (λ m. h.lies 0 m)
  where
    number : maybe.Option (maybe.Option Message) → ℕ
    number none = 0
    number (some none) = 0
    number (some (some m)) = m.number

    first_number : List Message → ℕ
    first_number [] = 0
    first_number (m ∷ ms) = m.number

    first : (left : List Message) → message 1 ∷ [] ≡ left → ((m : Message) → get_elem? left 0 ≡ some m → (false ≡ true → 0 < 0) → some (some (message 2)) ≡ some (some m)) → ⊥
    first [] e at = cc
    first (x ∷ xs) e at = let same : some (some (message 2)) ≡ some (some x) = at x refl (λ q. absurd (true≢false (sym q))) in
        let n : 2 ≡ 1 = ap number same ∙ ap first_number (sym e) in omega (arith, n)

-- a slot is at home, if neither end has it
not_an_empty_slot : (w : List ℕ) → LaneFacts 3 1 w emptied (new_sender 3) (new_taker 3) → ⊥
not_an_empty_slot w h = let there = h.vacant 0 (omega arith) (λ q. absurd (true≢false (sym q))) (λ q. absurd (true≢false (sym q))) in let e : some none ≡ some (some there.0) = there.1 in cc
