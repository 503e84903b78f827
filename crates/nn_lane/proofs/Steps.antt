-- Each step keeps the rule.
use Rattle.std.proofs.Common.{◌≡◌, ◌≢◌, ℕ, ◌+◌, ◌*◌, ◌/◌, ◌%◌, ◌<◌, ◌≤◌, List, [], ◌∷◌, ◌++◌, length, map, set, Option, Some, None, Bool, true, false, true≢false, refl, sym, ap, ◌∙◌, subst, arith, length-append}
use Rattle.std.proofs.lemmas.List.{length-map}
use Rattle.std.specs.Prelude.{MatchBool, nat_lt, slice_index, bit_or, ◌==◌}
use mathlib.Core.Option.{some, none}
use mathlib.Core.Option as maybe
use native.Mathlib.Decide.{ℕ_discrete}
use lib.ListN.{get_elem?}
use prog.Atomic.{either}
use Rattle.std.proofs.lemmas.Bool.{ltb-true, lt-ltb}
use Rattle.std.proofs.lemmas.Nat.{or_block}
use Rattle.std.specs.Int.Bits.{or_zero_r}
use Rattle.atomic_table.specs.Table.{State, step, Act, keeps, takes, gives, chain, stepped, Valid, carried_after, rest, Allows, Splits, Joins, opening}
use Rattle.atomic_table.proofs.Lists.{exchanged, some_there, set_again}
use lib.Seq.{set-get_or}
use Rattle.nn_types.specs.declared.report.Message.{Message}
use Rattle.nn_lane.specs.declared.view.View.{View}
use Rattle.nn_lane.specs.Intake.{bit, laid, front_word, taken_word}
use Rattle.nn_lane.specs.Lane.{Seated, LaneFacts, Lane, Sat, new_sender, new_taker, opening_view, taker_of, reporter_of, both_of, spent, with_sender, with_taker, looked, beside, saw_taken, checked, saw_closed, gave_back, sent_more, was_told, SentMore, accepted, away, NextOut, saw, SawFront, saw_front, got_more, TookNext, took, closed_at, Shuts, shut, learned}
use Rattle.nn_lane.proofs.Rows.{half}
use Rattle.nn_lane.proofs.Seats.{reporter_moves, taker_moves, cuts, joins, shows_both}
use Rattle.nn_lane.proofs.Keeps as kept

abbrev St : Type 0
St = State Message View

abbrev Cs : Type 0
Cs = List (ℕ × Message)

module _ (node slots id : ℕ) (v : View) where
  -- what a reporter's seat knows of the table
  reporter_kept : (s : St) (h : Lane node s) → length s.homes ≡ slots → get_elem? s.views id ≡ some v → v.sends ≡ true → v.takes ≡ false → LaneFacts node slots s.words s.homes v.sender h.2
  reporter_kept s h long at on off = let same = (reporter_moves s.views id v v h.1 v.sender h.2 h.3 at on off (on, off, refl)).0 in
      subst (λ r. LaneFacts node slots s.words s.homes r h.2) (sym same) (subst (λ n. LaneFacts node n s.words s.homes h.1 h.2) (sym h.4.as_long ∙ long) h.4)

  taker_kept : (s : St) (h : Lane node s) → length s.homes ≡ slots → get_elem? s.views id ≡ some v → v.sends ≡ false → v.takes ≡ true → LaneFacts node slots s.words s.homes h.1 v.taker
  taker_kept s h long at off on = let same = (taker_moves s.views id v v h.1 h.2 v.taker h.3 at off on (off, on, refl)).0 in
      subst (λ e. LaneFacts node slots s.words s.homes h.1 e) (sym same) (subst (λ n. LaneFacts node n s.words s.homes h.1 h.2) (sym h.4.as_long ∙ long) h.4)

  -- the facts do not change with words that are the same
  words_stay : (s : St) (i : ℕ) (t : ℕ) (f g : ℕ) → s.words ≡ laid f g → set (laid f g) i t ≡ laid f g → s.words ≡ set s.words i t
  words_stay s i t f g is same = is ∙ sym same ∙ ap (λ ws. set ws i t) (sym is)

  -- what the reporter holds between two steps of its own
  abbrev pub HoldsNext : Bool → Cs → Type 0
  HoldsNext true cs = (z : Message) × (cs ≡ (length v.sender.sent % slots, z) ∷ rest cs)
  HoldsNext false cs = Unit {0}

  -- a load of `taken`
  pub loads_taken : (cs : Cs) → v.sends ≡ true → v.takes ≡ false → HoldsNext v.sender.out cs → Allows (Lane node) slots id (v, cs) taken_word (λ n. n) (saw_taken (step slots taken_word 0 0 none) (v, cs))
  loads_taken cs on off holds s h long at _ = subst Goal (sym (ap (λ ws. slice_index ws taken_word) K.words_are)) (start v.sender.out refl holds)
    where
      K : LaneFacts node slots s.words s.homes v.sender h.2
      K = reporter_kept s h long at on off

      Goal : ℕ → Type 0
      Goal t = (w : View) × (a : Act Message) × Valid s.homes cs a × Lane node (stepped s taken_word t id cs w a) × saw_taken (step slots taken_word 0 0 none) (v, cs) t (w, carried_after cs a)

      -- the same with the two tests put apart
      Told : Bool → Bool → Type 0
      Told o b = (w : View) × (a : Act Message) × Valid s.homes cs a × Lane node (stepped s taken_word (length h.2.got) id cs w a)
          × ((length v.sender.sent ≤ length h.2.got + slots) × (v.sender.seen ≤ length h.2.got) × (length h.2.got ≤ length v.sender.sent) × (o ≡ true → length v.sender.sent < length h.2.got + slots)
          × (w ≡ with_sender v (looked v.sender (length h.2.got) b))
          × MatchBool b ((y : Message) × (carried_after cs a ≡ (length v.sender.sent % slots, y) ∷ beside o cs)) (carried_after cs a ≡ cs))

      tell : (o b : Bool) → v.sender.out ≡ o → nat_lt (length v.sender.sent) (length h.2.got + slots) ≡ b → Told o b → Goal (length h.2.got)
      tell o b is_o is_b t = subst (λ o'. Told o' (nat_lt (length v.sender.sent) (length h.2.got + slots))) (sym is_o) (subst (Told o) (sym is_b) t)

      ws : s.words ≡ set s.words taken_word (length h.2.got)
      ws = words_stay s taken_word (length h.2.got) (2 * length v.sender.sent + bit h.2.closed) (length h.2.got) K.words_are refl

      low : length h.2.got ≤ length v.sender.sent
      low = let a = kept.sent_length K in omega arith

      most : length v.sender.sent ≤ length h.2.got + slots
      most = let a = kept.sent_length K in let b = K.within in omega arith

      seated : (b : Bool) → Seated (set s.views id (with_sender v (looked v.sender (length h.2.got) b))) (looked v.sender (length h.2.got) b) h.2
      seated b = (reporter_moves s.views id v (with_sender v (looked v.sender (length h.2.got) b)) h.1 (looked v.sender (length h.2.got) b) h.2 h.3 at on off (on, off, refl)).1

      go : v.sender.out ≡ false → (b : Bool) → nat_lt (length v.sender.sent) (length h.2.got + slots) ≡ b → Goal (length h.2.got)
      go free true is = tell false true free is (let room = ltb-true _ _ is in let y = kept.room_at K free room in (
        with_sender v (looked v.sender (length h.2.got) true),
        takes (length v.sender.sent % slots) y.0,
        y.1,
        (slots, looked v.sender (length h.2.got) true, h.2, seated true, subst (λ us. LaneFacts node slots us (set s.homes (length v.sender.sent % slots) none) (looked v.sender (length h.2.got) true) h.2) ws (kept.holds_room (kept.sees_full K free) room)),
        (most, K.seen_taken, low, (λ _. room), refl, (y.0, refl)),
      ))
      go free false is = tell false false free is (
        with_sender v (looked v.sender (length h.2.got) false),
        keeps,
        tt,
        (slots, looked v.sender (length h.2.got) false, h.2, seated false, subst (λ us. LaneFacts node slots us s.homes (looked v.sender (length h.2.got) false) h.2) ws (kept.sees_full K free)),
        (most, K.seen_taken, low, (λ o. absurd (true≢false (sym o))), refl, refl),
      )

      start : (o : Bool) → v.sender.out ≡ o → HoldsNext o cs → Goal (length h.2.got)
      start true out has = let room = kept.fits_still K out in tell true true out (lt-ltb _ _ room) (
        with_sender v (looked v.sender (length h.2.got) true),
        keeps,
        tt,
        (slots, looked v.sender (length h.2.got) true, h.2, seated true, subst (λ us. LaneFacts node slots us s.homes (looked v.sender (length h.2.got) true) h.2) ws (kept.sees_again K out)),
        (most, K.seen_taken, low, (λ _. room), refl, has),
      )
      start false free _ = go free (nat_lt (length v.sender.sent) (length h.2.got + slots)) refl

  -- a load of `taken`, which gives a prepared slot back
  pub gives_taken : (cs : Cs) → v.sends ≡ true → v.takes ≡ false → HoldsNext v.sender.out cs → Allows (Lane node) slots id (v, cs) taken_word (λ n. n) (gave_back (step slots taken_word 0 0 none) (v, cs))
  gives_taken cs on off holds s h long at _ = subst Goal (sym (ap (λ ws. slice_index ws taken_word) K.words_are)) (start v.sender.out refl holds)
    where
      K : LaneFacts node slots s.words s.homes v.sender h.2
      K = reporter_kept s h long at on off

      w : View
      w = with_sender v (looked v.sender (length h.2.got) false)

      Goal : ℕ → Type 0
      Goal t = (w : View) × (a : Act Message) × Valid s.homes cs a × Lane node (stepped s taken_word t id cs w a) × gave_back (step slots taken_word 0 0 none) (v, cs) t (w, carried_after cs a)

      ws : s.words ≡ set s.words taken_word (length h.2.got)
      ws = words_stay s taken_word (length h.2.got) (2 * length v.sender.sent + bit h.2.closed) (length h.2.got) K.words_are refl

      seated : Seated (set s.views id w) (looked v.sender (length h.2.got) false) h.2
      seated = (reporter_moves s.views id v w h.1 (looked v.sender (length h.2.got) false) h.2 h.3 at on off (on, off, refl)).1

      Done : Cs → Type 0
      Done c = (a : Act Message) × Valid s.homes c a × Lane node (stepped s taken_word (length h.2.got) id c w a) × (carried_after c a ≡ rest c)

      out_case : v.sender.out ≡ true → (z : Message) × (cs ≡ (length v.sender.sent % slots, z) ∷ rest cs) → Done cs
      out_case out has = subst Done (sym has.1) (
        gives,
        tt,
        (slots, looked v.sender (length h.2.got) false, h.2, seated, subst (λ us. LaneFacts node slots us (set s.homes (length v.sender.sent % slots) (some has.0)) (looked v.sender (length h.2.got) false) h.2) ws (kept.gives_back K has.0 out)),
        refl,
      )

      start : (o : Bool) → v.sender.out ≡ o → HoldsNext o cs → Goal (length h.2.got)
      start true out has = let d = out_case out has in (w, d.0, d.1, d.2, (refl, d.3 ∙ ap (λ o. beside o cs) (sym out), K.seen_taken))
      start false free _ = (
        w,
        keeps,
        tt,
        (slots, looked v.sender (length h.2.got) false, h.2, seated, subst (λ us. LaneFacts node slots us s.homes (looked v.sender (length h.2.got) false) h.2) ws (kept.sees_full K free)),
        (refl, ap (λ o. beside o cs) (sym free), K.seen_taken),
      )

  pub is_open : (b : Bool) (n : ℕ) → 2 * n + bit b ≡ 2 * n → b ≡ false
  is_open true n e = absurd (omega arith)
  is_open false n e = refl

  is_shut : (b : Bool) (n : ℕ) → 2 * n + bit b ≢ 2 * n → b ≡ true
  is_shut true n ne = refl
  is_shut false n ne = absurd (ne (omega arith))

  -- the exchange of `front`
  pub exchanges : (more : Cs) (x : Message) (old new : ℕ) → v.sends ≡ true → v.takes ≡ false → v.sender.out ≡ true → x.number ≡ length v.sender.sent + 1 → x.dn ≡ v.sender.node → old ≡ 2 * length v.sender.sent → new ≡ 2 * length v.sender.sent + 2
      → Allows (Lane node) slots id (v, (length v.sender.sent % slots, x) ∷ more) front_word (λ n. either (n == old) new n) (accepted (step slots front_word old new (some x)) (v, (length v.sender.sent % slots, x) ∷ more))
  exchanges more x old new on off out number dn old_is new_is s h long at _ = exchanged f old new Goal hit miss
    where
      K : LaneFacts node slots s.words s.homes v.sender h.2
      K = reporter_kept s h long at on off

      f : ℕ
      f = slice_index s.words front_word

      f_is : f ≡ 2 * length v.sender.sent + bit h.2.closed
      f_is = ap (λ ws. slice_index ws front_word) K.words_are

      cs : Cs
      cs = (length v.sender.sent % slots, x) ∷ more

      homes : List (maybe.Option Message)
      homes = set s.homes (length v.sender.sent % slots) (some x)

      Goal : ℕ → Type 0
      Goal z = (w : View) × (a : Act Message) × Valid s.homes cs a × Lane node (stepped s front_word z id cs w a) × accepted (step slots front_word old new (some x)) (v, cs) f (w, carried_after cs a)

      Hit : Bool → Type 0
      Hit b = (w : View) × (a : Act Message) × Valid s.homes cs a × Lane node (stepped s front_word new id cs w a) × SentMore b (step slots front_word old new (some x)) x (v, cs) (w, carried_after cs a)

      seated : (b : Bool) → Seated (set s.views id (with_sender v (sent_more v.sender x b))) (sent_more v.sender x b) h.2
      seated b = (reporter_moves s.views id v (with_sender v (sent_more v.sender x b)) h.1 (sent_more v.sender x b) h.2 h.3 at on off (on, off, refl)).1

      ws : laid (2 * length v.sender.sent + 2) (length h.2.got) ≡ set s.words front_word new
      ws = (λ i. laid (sym new_is i) (length h.2.got)) ∙ ap (λ us. set us front_word new) (sym K.words_are)

      -- where the reporter remembers more room, the next slot is taken
      sends : h.2.closed ≡ false → (b : Bool) → nat_lt (length v.sender.sent + 1) (v.sender.seen + slots) ≡ b → Hit b
      sends opened true is = let K1 = kept.accepts K x opened out number (dn ∙ K.nodes.0) in
          let grown : length (v.sender.sent ++ x ∷ []) ≡ length v.sender.sent + 1 = length-append v.sender.sent (x ∷ []) in
          let room : length (v.sender.sent ++ x ∷ []) < v.sender.seen + slots = omega (arith, grown, ltb-true _ _ is) in
          let near = K.seen_taken in
          let y = kept.room_at K1 refl (let far : length (v.sender.sent ++ x ∷ []) < length h.2.got + slots = omega (arith, room, near) in far) in (
            with_sender v (sent_more v.sender x true),
            chain gives (takes ((length v.sender.sent + 1) % slots) y.0),
            (tt, ap (λ k. get_elem? homes (k % slots)) (sym grown) ∙ y.1),
            (
              slots,
              sent_more v.sender x true,
              h.2,
              seated true,
              subst (λ k. LaneFacts node slots (set s.words front_word new) (set homes (k % slots) none) (sent_more v.sender x true) h.2) grown
                  (subst (λ us. LaneFacts node slots us (set homes (length (v.sender.sent ++ x ∷ []) % slots) none) (sent_more v.sender x true) h.2) ws (kept.holds_room K1 room)),
            ),
            (refl, (y.0, refl)),
          )
      sends opened false is = (
        with_sender v (sent_more v.sender x false),
        gives,
        tt,
        (slots, sent_more v.sender x false, h.2, seated false, subst (λ us. LaneFacts node slots us homes (sent_more v.sender x false) h.2) ws (kept.accepts K x opened out number (dn ∙ K.nodes.0))),
        (refl, refl),
      )

      hit : f ≡ old → Goal new
      hit e = let t = sends (is_open h.2.closed (length v.sender.sent) (sym f_is ∙ e ∙ old_is)) (nat_lt (length v.sender.sent + 1) (v.sender.seen + slots)) refl in
          (t.0, t.1, t.2, t.3, ((λ _. (x, refl, t.4)), (λ ne. absurd (ne e))))

      miss : f ≢ old → Goal f
      miss ne = let closed = is_shut h.2.closed (length v.sender.sent) (λ e. ne (f_is ∙ e ∙ sym old_is)) in (
        with_sender v (was_told v.sender),
        keeps,
        tt,
        (
          slots,
          was_told v.sender,
          h.2,
          (reporter_moves s.views id v (with_sender v (was_told v.sender)) h.1 (was_told v.sender) h.2 h.3 at on off (on, off, refl)).1,
          subst (λ us. LaneFacts node slots us s.homes (was_told v.sender) h.2) (K.words_are ∙ (λ i. laid (sym f_is i) (length h.2.got)) ∙ ap (λ us. set us front_word f) (sym K.words_are)) (kept.tells K closed),
        ),
        ((λ e. absurd (ne e)), (λ _. (refl, refl))),
      )

  -- a load of `front` by the reporter
  pub loads_closed : (cs : Cs) → v.sends ≡ true → v.takes ≡ false → Allows (Lane node) slots id (v, cs) front_word (λ n. n) (saw_closed (step slots front_word 0 0 none) (v, cs))
  loads_closed cs on off s h long at _ = by (ℕ_discrete f (2 * length v.sender.sent))
    where
      K : LaneFacts node slots s.words s.homes v.sender h.2
      K = reporter_kept s h long at on off

      f : ℕ
      f = slice_index s.words front_word

      f_is : f ≡ 2 * length v.sender.sent + bit h.2.closed
      f_is = ap (λ ws. slice_index ws front_word) K.words_are

      ws : s.words ≡ set s.words front_word f
      ws = K.words_are ∙ (λ i. laid (sym f_is i) (length h.2.got)) ∙ ap (λ us. set us front_word f) (sym K.words_are)

      Goal : Type 0
      Goal = (w : View) × (a : Act Message) × Valid s.homes cs a × Lane node (stepped s front_word f id cs w a) × saw_closed (step slots front_word 0 0 none) (v, cs) f (w, carried_after cs a)

      seated : (b : Bool) → Seated (set s.views id (with_sender v (checked v.sender b))) (checked v.sender b) h.2
      seated b = (reporter_moves s.views id v (with_sender v (checked v.sender b)) h.1 (checked v.sender b) h.2 h.3 at on off (on, off, refl)).1

      lane_of : (b : Bool) → (b ≡ true → h.2.closed ≡ true) → Lane node (stepped s front_word f id cs (with_sender v (checked v.sender b)) keeps)
      lane_of b told_so = (slots, checked v.sender b, h.2, seated b, subst (λ us. LaneFacts node slots us s.homes (checked v.sender b) h.2) ws (kept.checks K b told_so))

      by : Dec (f ≡ 2 * length v.sender.sent) → Goal
      by (yes e) = (with_sender v (checked v.sender v.sender.told), keeps, tt, lane_of v.sender.told K.told, (refl, (λ _. refl), (λ ne. absurd (ne e))))
      by (no ne) = let closed = is_shut h.2.closed (length v.sender.sent) (λ e. ne (f_is ∙ e)) in
          (with_sender v (checked v.sender true), keeps, tt, lane_of true (λ _. closed), (refl, (λ e. absurd (ne e)), (λ _. refl)))

  -- a load of `front`
  pub loads_front : (cs : Cs) → v.sends ≡ false → v.takes ≡ true → v.taker.next ≡ None → Allows (Lane node) slots id (v, cs) front_word (λ n. n) (saw_front (step slots front_word 0 0 none) (v, cs))
  loads_front cs off on free s h long at _ = subst Goal (sym q_is) (go (nat_lt (length v.taker.got) (length h.1.sent)) refl)
    where
      K : LaneFacts node slots s.words s.homes h.1 v.taker
      K = taker_kept s h long at off on

      f : ℕ
      f = slice_index s.words front_word

      f_is : f ≡ 2 * length h.1.sent + bit v.taker.closed
      f_is = ap (λ ws. slice_index ws front_word) K.words_are

      q_is : f / 2 ≡ length h.1.sent
      q_is = ap (λ z. z / 2) f_is ∙ half (length h.1.sent) v.taker.closed

      Goal : ℕ → Type 0
      Goal q = (w : View) × (a : Act Message) × Valid s.homes cs a × Lane node (stepped s front_word f id cs w a) × SawFront (nat_lt (length v.taker.got) q) q (step slots front_word 0 0 none) (v, cs) (w, carried_after cs a)

      Told : Bool → Type 0
      Told b = (w : View) × (a : Act Message) × Valid s.homes cs a × Lane node (stepped s front_word f id cs w a) × SawFront b (length h.1.sent) (step slots front_word 0 0 none) (v, cs) (w, carried_after cs a)

      ws : s.words ≡ set s.words front_word f
      ws = K.words_are ∙ (λ i. laid (sym f_is i) (length v.taker.got)) ∙ ap (λ us. set us front_word f) (sym K.words_are)

      low : length v.taker.got ≤ length h.1.sent
      low = let a = kept.sent_length K in omega arith

      seated : (o : Option Message) → Seated (set s.views id (with_taker v (saw v.taker (length h.1.sent) o))) h.1 (saw v.taker (length h.1.sent) o)
      seated o = (taker_moves s.views id v (with_taker v (saw v.taker (length h.1.sent) o)) h.1 h.2 (saw v.taker (length h.1.sent) o) h.3 at off on (off, on, refl)).1

      go : (b : Bool) → nat_lt (length v.taker.got) (length h.1.sent) ≡ b → Goal (length h.1.sent)
      go true is = subst Told (sym is) (let one = kept.holds_next (kept.sees K free) refl (ltb-true _ _ is) in (
        with_taker v (saw v.taker (length h.1.sent) (Some one.0)),
        takes (length v.taker.got % slots) one.0,
        one.1,
        (slots, h.1, saw v.taker (length h.1.sent) (Some one.0), seated (Some one.0), subst (λ us. LaneFacts node slots us (set s.homes (length v.taker.got % slots) none) h.1 (saw v.taker (length h.1.sent) (Some one.0))) ws one.4),
        (low, K.seen_high, (λ c. sym (K.closed c)), (one.0, refl, refl, one.2, one.3 ∙ sym K.nodes.1)),
      ))
      go false is = subst Told (sym is) (
        with_taker v (saw v.taker (length h.1.sent) None),
        keeps,
        tt,
        (slots, h.1, saw v.taker (length h.1.sent) None, seated None, subst (λ us. LaneFacts node slots us s.homes h.1 (saw v.taker (length h.1.sent) None)) ws (kept.sees K free)),
        (low, K.seen_high, (λ c. sym (K.closed c)), (refl, refl)),
      )

  -- the store of `taken`
  pub stores_taken : (more : Cs) (x y : Message) (new : ℕ) → v.sends ≡ false → v.takes ≡ true → v.taker.next ≡ Some x → new ≡ length v.taker.got + 1
      → Allows (Lane node) slots id (v, (length v.taker.got % slots, y) ∷ more) taken_word (λ _. new) (λ _. took (step slots taken_word new 0 none) (v, (length v.taker.got % slots, y) ∷ more) new)
  stores_taken more x y new off on next new_is s h long at _ = let t = start (nat_lt (length v.taker.got + 1) v.taker.seen) refl in (t.0, t.1, t.2, t.3, (x, next, t.4))
    where
      K : LaneFacts node slots s.words s.homes h.1 v.taker
      K = taker_kept s h long at off on

      cs : Cs
      cs = (length v.taker.got % slots, y) ∷ more

      homes : List (maybe.Option Message)
      homes = set s.homes (length v.taker.got % slots) (some y)

      Goal : Bool → Type 0
      Goal b = (w : View) × (a : Act Message) × Valid s.homes cs a × Lane node (stepped s taken_word new id cs w a) × TookNext b (step slots taken_word new 0 none) x (v, cs) (w, carried_after cs a)

      seated : (o : Option Message) → Seated (set s.views id (with_taker v (got_more v.taker x o))) h.1 (got_more v.taker x o)
      seated o = (taker_moves s.views id v (with_taker v (got_more v.taker x o)) h.1 h.2 (got_more v.taker x o) h.3 at off on (off, on, refl)).1

      ws : laid (2 * length h.1.sent + bit v.taker.closed) (length v.taker.got + 1) ≡ set s.words taken_word new
      ws = (λ i. laid (2 * length h.1.sent + bit v.taker.closed) (sym new_is i)) ∙ ap (λ us. set us taken_word new) (sym K.words_are)

      K1 : LaneFacts node slots (set s.words taken_word new) homes h.1 (got_more v.taker x None)
      K1 = subst (λ us. LaneFacts node slots us homes h.1 (got_more v.taker x None)) ws (kept.takes K x y next)

      grown : length (v.taker.got ++ x ∷ []) ≡ length v.taker.got + 1
      grown = length-append v.taker.got (x ∷ [])

      -- where a message is known to be left, its slot is taken
      start : (b : Bool) → nat_lt (length v.taker.got + 1) v.taker.seen ≡ b → Goal b
      start true is = let one = kept.holds_next K1 refl (let left : length (v.taker.got ++ x ∷ []) < v.taker.seen = omega (arith, grown, ltb-true _ _ is) in left) in (
        with_taker v (got_more v.taker x (Some one.0)),
        chain gives (takes ((length v.taker.got + 1) % slots) one.0),
        (tt, ap (λ k. get_elem? homes (k % slots)) (sym grown) ∙ one.1),
        (
          slots,
          h.1,
          got_more v.taker x (Some one.0),
          seated (Some one.0),
          subst (λ k. LaneFacts node slots (set s.words taken_word new) (set homes (k % slots) none) h.1 (got_more v.taker x (Some one.0))) grown one.4,
        ),
        (one.0, refl, refl, one.2 ∙ ap (λ k. k + 1) grown, one.3 ∙ sym K.nodes.1),
      )
      start false is = (with_taker v (got_more v.taker x None), gives, tt, (slots, h.1, got_more v.taker x None, seated None, K1), (refl, refl))

  or_one : (n : ℕ) (b : Bool) → bit_or (2 * n + bit b) 1 ≡ 2 * n + 1
  or_one n true = ap (λ z. bit_or z 1) (let h : 2 * n + 1 ≡ n * 2 + 1 = omega arith in h) ∙ or_block 1 n 0 1 1 (omega arith) (omega arith) ∙ ap (λ z. z * 2 + 1) (or_zero_r n) ∙ (let h : n * 2 + 1 ≡ 2 * n + 1 = omega arith in h)
  or_one n false = ap (λ z. bit_or z 1) (let h : 2 * n + 0 ≡ n * 2 + 0 = omega arith in h) ∙ or_block 1 n 0 0 1 (omega arith) (omega arith) ∙ ap (λ z. z * 2 + 1) (or_zero_r n) ∙ (let h : n * 2 + 1 ≡ 2 * n + 1 = omega arith in h)

  -- what the other end's seat holds between two steps of its own
  abbrev pub HoldsFirst : Option Message → Cs → Type 0
  HoldsFirst None cs = Unit {0}
  HoldsFirst (Some z) cs = (cs ≡ (length v.taker.got % slots, z) ∷ rest cs) × (z.number ≡ length v.taker.got + 1) × (z.dn ≡ v.taker.node)

  -- the close
  pub shuts_front : (cs : Cs) → v.sends ≡ false → v.takes ≡ true → HoldsFirst v.taker.next cs → Allows (Lane node) slots id (v, cs) front_word (λ n. bit_or n 1) (shut (step slots front_word 1 0 none) (v, cs))
  shuts_front cs off on has s h long at _ = subst (Goal (bit_or f 1)) (sym q_is) (subst (λ z. Goal z (length h.1.sent)) (sym (ap (λ z. bit_or z 1) f_is ∙ or_one (length h.1.sent) v.taker.closed)) (start v.taker.next refl has))
    where
      K : LaneFacts node slots s.words s.homes h.1 v.taker
      K = taker_kept s h long at off on

      f : ℕ
      f = slice_index s.words front_word

      f_is : f ≡ 2 * length h.1.sent + bit v.taker.closed
      f_is = ap (λ ws. slice_index ws front_word) K.words_are

      q_is : f / 2 ≡ length h.1.sent
      q_is = ap (λ z. z / 2) f_is ∙ half (length h.1.sent) v.taker.closed

      Goal : ℕ → ℕ → Type 0
      Goal z q = (w : View) × (a : Act Message) × Valid s.homes cs a × Lane node (stepped s front_word z id cs w a) × Shuts (nat_lt (length v.taker.got) q) q (step slots front_word 1 0 none) (v, cs) (w, carried_after cs a)

      -- the same with the two tests put apart
      Told : Option Message → Bool → Type 0
      Told o b = (w : View) × (a : Act Message) × Valid s.homes cs a × Lane node (stepped s front_word (2 * length h.1.sent + 1) id cs w a)
          × NextOut b (length v.taker.got) slots (closed_at v.taker (length h.1.sent)) (beside (away o) cs) (v, cs) (w, carried_after cs a)

      tell : (o : Option Message) (b : Bool) → v.taker.next ≡ o → nat_lt (length v.taker.got) (length h.1.sent) ≡ b → Told o b → Goal (2 * length h.1.sent + 1) (length h.1.sent)
      tell o b is_o is_b t = let u = subst (λ o'. Told o' (nat_lt (length v.taker.got) (length h.1.sent))) (sym is_o) (subst (Told o) (sym is_b) t) in
          (u.0, u.1, u.2, u.3, ((let a = kept.sent_length K in omega arith), K.seen_high, (λ c. sym (K.closed c)), u.4))

      seated : (o : Option Message) → Seated (set s.views id (with_taker v (closed_at v.taker (length h.1.sent) o))) h.1 (closed_at v.taker (length h.1.sent) o)
      seated o = (taker_moves s.views id v (with_taker v (closed_at v.taker (length h.1.sent) o)) h.1 h.2 (closed_at v.taker (length h.1.sent) o) h.3 at off on (off, on, refl)).1

      ws : List ℕ
      ws = set s.words front_word (2 * length h.1.sent + 1)

      shut_with : (o : Option Message) → v.taker.next ≡ o → LaneFacts node slots ws s.homes h.1 (closed_at v.taker (length h.1.sent) o)
      shut_with o is = subst (λ o'. LaneFacts node slots ws s.homes h.1 (closed_at v.taker (length h.1.sent) o')) is
          (subst (λ us. LaneFacts node slots us s.homes h.1 (closed_at v.taker (length h.1.sent) v.taker.next)) (ap (λ us. set us front_word (2 * length h.1.sent + 1)) (sym K.words_are)) (kept.shuts K))

      go : v.taker.next ≡ None → (b : Bool) → nat_lt (length v.taker.got) (length h.1.sent) ≡ b → Told None b
      go free true is = let one = kept.holds_next (shut_with None free) refl (ltb-true _ _ is) in (
        with_taker v (closed_at v.taker (length h.1.sent) (Some one.0)),
        takes (length v.taker.got % slots) one.0,
        one.1,
        (slots, h.1, closed_at v.taker (length h.1.sent) (Some one.0), seated (Some one.0), one.4),
        (one.0, refl, refl, one.2, one.3 ∙ sym K.nodes.1),
      )
      go free false is = (
        with_taker v (closed_at v.taker (length h.1.sent) None),
        keeps,
        tt,
        (slots, h.1, closed_at v.taker (length h.1.sent) None, seated None, shut_with None free),
        (refl, refl),
      )

      start : (o : Option Message) → v.taker.next ≡ o → HoldsFirst o cs → Goal (2 * length h.1.sent + 1) (length h.1.sent)
      start None is _ = tell None (nat_lt (length v.taker.got) (length h.1.sent)) is refl (go is (nat_lt (length v.taker.got) (length h.1.sent)) refl)
      start (Some z) is has_it = let ahead = K.ahead z is in let high = K.seen_high in
          tell (Some z) true is (lt-ltb _ _ (let lt : length v.taker.got < length h.1.sent = omega (arith, ahead, high) in lt)) (
            with_taker v (closed_at v.taker (length h.1.sent) (Some z)),
            keeps,
            tt,
            (slots, h.1, closed_at v.taker (length h.1.sent) (Some z), seated (Some z), shut_with (Some z) is),
            (z, refl, has_it.0, has_it.1, has_it.2),
          )

  -- what the joined seat learns
  pub learns : (cs : Cs) → v.sends ≡ true → v.takes ≡ true → Allows (Lane node) slots id (v, cs) front_word (λ n. n) (learned (step slots front_word 0 0 none) (v, cs))
  learns cs on both s h long at _ = let same = shows_both s.views id v h.1 h.2 h.3 at on both in
      let K : LaneFacts node h.0 s.words s.homes v.sender v.taker = subst (λ r. LaneFacts node h.0 s.words s.homes r v.taker) (sym same.0) (subst (λ e. LaneFacts node h.0 s.words s.homes h.1 e) (sym same.1) h.4) in
      let f_is : slice_index s.words front_word ≡ 2 * length v.sender.sent + bit v.taker.closed = ap (λ ws. slice_index ws front_word) K.words_are in (
        v,
        keeps,
        tt,
        subst (λ vs. Lane node record { words = set s.words front_word (slice_index s.words front_word); homes = s.homes; views = vs }) (sym (set_again s.views id v at))
            (h.0, h.1, h.2, h.3, subst (λ us. LaneFacts node h.0 us s.homes h.1 h.2) (sym (set-get_or s.words front_word 0)) h.4),
        (refl, ap (λ z. z / 2) f_is ∙ half (length v.sender.sent) v.taker.closed, (K.left, K.split), K.closed, K.told, K.seen_taken, K.seen_high),
      )

  pub splits : v.sends ≡ true → v.takes ≡ true → v.met ≡ false → Splits (Lane node) id v (taker_of v) (reporter_of v)
  splits on both new s h at = (h.0, h.1, h.2, cuts s.views id v h.1 h.2 h.3 at on both new, h.4)

  pub meets : (other : ℕ) (w : View) → v.sends ≡ false → v.takes ≡ true → Joins (Lane node) id v other w (both_of v w) spent
  meets other w off on s h at ne there = (h.0, h.1, h.2, joins s.views id v other w h.1 h.2 h.3 at off on ne there, h.4)

pub starts : (node : ℕ) (xs : List Message) → 0 < length xs → Lane node (opening (laid 0 0) xs (opening_view node))
starts node xs pos = (length xs, new_sender node, new_taker node, (refl, refl, refl, refl, refl), kept.begins node (length xs) (map some xs) pos (length-map xs some) (λ i l. some_there xs i l))

-- the store of `taken`, from a seat that holds the next message's slot
pub stores_as : (node slots id : ℕ) (m : Sat) (x y : Message) (new : ℕ) → m.0.sends ≡ false → m.0.takes ≡ true → m.0.taker.next ≡ Some x → m.1 ≡ (length m.0.taker.got % slots, y) ∷ rest m.1 → new ≡ length m.0.taker.got + 1
    → Allows (Lane node) slots id m taken_word (λ _. new) (λ _. took (step slots taken_word new 0 none) m new)
stores_as node slots id m x y new off on next holds new_is =
    subst (λ (cs : Cs). Allows (Lane node) slots id (m.0, cs) taken_word (λ _. new) (λ _. took (step slots taken_word new 0 none) (m.0, cs) new)) (sym holds)
    (stores_taken node slots id m.0 (rest m.1) x y new off on next new_is)
