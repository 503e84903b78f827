-- Each step of a seat is an event of the intake core, and each lane is reached by events.
use Rattle.std.proofs.Common.{◌≡◌, ℕ, ◌+◌, ◌*◌, ◌<◌, ◌≤◌, List, [], ◌∷◌, ◌++◌, length, Option, Some, None, Bool, true, false, refl, sym, ap, ◌∙◌, subst, arith, length-set, length-append, append_assoc, append-nil}
use Rattle.std.proofs.lemmas.Bool.{eqb-true, eqb-false}
use Rattle.std.specs.Prelude.{◌≢◌, ◌/◌, ◌==◌, if◌then◌else◌, slice_index, slice_set, nat_lt}
use mathlib.Core.Option.{some, none, some-injective}
use mathlib.Core.Option as maybe
use native.Mathlib.Decide.{ℕ_discrete}
use lib.ListN.{get_elem?}
use Rattle.atomic_table.specs.Table.{opening, Act, keeps, takes, gives, chain, Allows, stepped, homes_after, carried_after}
use Rattle.atomic_table.proofs.Lists.{set_again}
use Rattle.nn_types.specs.declared.report.Message.{Message}
use Rattle.nn_lane.specs.declared.view.Sender.{Sender}
use Rattle.nn_lane.specs.declared.view.Taker.{Taker}
use Rattle.nn_lane.specs.declared.view.View.{View}
use Rattle.nn_lane.specs.Intake.{Intake, IntakeEvent, Accept, Take, Close, Look, no_intake, intake_after_event, intake_after, May, MayAll, words_of, front_word, taken_word}
use Rattle.nn_lane.specs.Lane.{Sat, Seated, opening_view, LaneFacts, Lane, NextOut, with_sender, with_taker, looked, checked, sent_more, was_told, saw, got_more, closed_at}
use Rattle.nn_lane.specs.Moves.{LaneState, intake_shown, shown_by, IsSender, IsTaker, SeatSteps, open_front, MakesStep, Moves, MovesInTurn, PartsSeat, Meets}
use Rattle.nn_lane.specs.Moves.{SeatStep, SeeTaken, SeeClosed, Send, GiveBack, SeeFront, TakeFirst, Shut, Learn, word_of, becomes, step_tells, event_of, EachStepIsAnEvent}
use Rattle.nn_lane.proofs.Seats.{reporter_moves, taker_moves, cuts, joins}
use Rattle.nn_lane.proofs.Sides.{one_pair}
use Rattle.nn_lane.proofs.Steps.{is_open}

-- what a step makes of the other end, whether or not it holds a slot then
next_of : (left : Bool) (k slots : ℕ) (f : Option Message → Taker) (cs : List (ℕ × Message)) (m m' : Sat) → NextOut left k slots f cs m m' → (o : Option Message) × (m'.0 ≡ with_taker m.0 (f o))
next_of true k slots f cs m m' t = (Some t.0, t.1)
next_of false k slots f cs m m' t = (None, t.0)

module _ (node n : ℕ) (s s' : LaneState) (h : Lane node s) (h' : Lane node s') (long : length s.homes ≡ n) where
  K : LaneFacts node n s.words s.homes h.1 h.2
  K = subst (λ z. LaneFacts node z s.words s.homes h.1 h.2) (sym h.4.as_long ∙ long) h.4

  -- a step of a seat changes its own side alone
  sender_after : (v w : View) (id : ℕ) (r : Sender) → IsSender v → get_elem? s.views id ≡ some v → s'.views ≡ slice_set s.views id w → w ≡ with_sender v r → (v.sender ≡ h.1) × (h'.1 ≡ r) × (h'.2 ≡ h.2)
  sender_after v w id r is at views new = let moved = reporter_moves s.views id v (with_sender v r) h.1 r h.2 h.3 at is.0 is.1 (is.0, is.1, refl) in
      let pair = one_pair s'.views h'.1 r h'.2 h.2 h'.3 (subst (λ vs. Seated vs r h.2) (sym (views ∙ ap (slice_set s.views id) new)) moved.1) in (moved.0, pair.0, pair.1)

  taker_after : (v w : View) (id : ℕ) (e : Taker) → IsTaker v → get_elem? s.views id ≡ some v → s'.views ≡ slice_set s.views id w → w ≡ with_taker v e → (v.taker ≡ h.2) × (h'.1 ≡ h.1) × (h'.2 ≡ e)
  taker_after v w id e is at views new = let moved = taker_moves s.views id v (with_taker v e) h.1 h.2 e h.3 at is.0 is.1 (is.0, is.1, refl) in
      let pair = one_pair s'.views h'.1 h.1 h'.2 e h'.3 (subst (λ vs. Seated vs h.1 e) (sym (views ∙ ap (slice_set s.views id) new)) moved.1) in (moved.0, pair.0, pair.1)

  shows : (r : Sender) (e : Taker) → h'.1 ≡ r → h'.2 ≡ e → intake_shown h'.1 h'.2 ≡ intake_shown r e
  shows r e a b = λ i. intake_shown (a i) (b i)

  abbrev Event : IntakeEvent → Type 0
  Event e = May n (shown_by node s h) e × (shown_by node s' h' ≡ intake_after_event (shown_by node s h) e)

  accepts : (x : Message) (v : View) → MakesStep n s v (Send x) s' → slice_index s.words front_word ≡ open_front v → Event (Accept x)
  accepts x v t found = let st = t.1 in let new = st.6.0 found in
      let room = nat_lt (length v.sender.sent + 1) (v.sender.seen + n) in
      let same : new.0 ≡ x = sym (some-injective x new.0 new.1) in
      let a = sender_after v st.2.0 st.0 (sent_more v.sender x room) t.0.0 st.3 st.5 (new.2.0 ∙ ap (λ z. with_sender v (sent_more v.sender z room)) same) in
      let open_ : h.2.closed ≡ false = is_open node n st.0 v h.2.closed (length h.1.sent) (sym (ap (λ ws. slice_index ws front_word) K.words_are) ∙ found ∙ ap (λ (r : Sender). 2 * length r.sent) a.0) in
      let fits = K.fits (sym (ap (λ r. r.out) a.0) ∙ t.0.1) in let seen = K.seen_taken in
      ((open_, omega arith), shows (sent_more v.sender x room) h.2 a.1 a.2 ∙ ap (λ r. intake_shown (sent_more r x room) h.2) a.0)

  fails : (x : Message) (v : View) → MakesStep n s v (Send x) s' → slice_index s.words front_word ≢ open_front v → Event Look
  fails x v t lost = let st = t.1 in let a = sender_after v st.2.0 st.0 (was_told v.sender) t.0.0 st.3 st.5 (st.6.1 lost).0 in
      (tt, shows (was_told v.sender) h.2 a.1 a.2 ∙ ap (λ r. intake_shown (was_told r) h.2) a.0)

  takes_one : (v : View) → MakesStep n s v TakeFirst s' → Event Take
  takes_one v t = let st = t.1 in let next = st.6 in let o = next_of _ _ _ (got_more v.taker next.0) _ (v, st.1) st.2 next.2 in let a = taker_after v st.2.0 st.0 (got_more v.taker next.0 o.0) t.0 st.3 st.5 o.1 in
      let ahead = K.ahead next.0 (sym (ap (λ e. e.next) a.0) ∙ next.1) in let high = K.seen_high in (
        omega arith,
        shows h.1 (got_more v.taker next.0 o.0) a.1 a.2 ∙ ap (λ e. intake_shown h.1 (got_more e next.0 o.0)) a.0
            ∙ ap (λ k. record { accepted = h.1.sent; taken = k; closed = h.2.closed }) (length-append h.2.got (next.0 ∷ [])),
      )

  shuts : (v : View) → MakesStep n s v Shut s' → (v.taker ≡ h.2) × (intake_shown h'.1 h'.2 ≡ record { accepted = h.1.sent; taken = length h.2.got; closed = true })
  shuts v t = let st = t.1 in let q = slice_index s.words front_word / 2 in let o = next_of _ _ _ (closed_at v.taker q) _ (v, st.1) st.2 st.6.3 in let a = taker_after v st.2.0 st.0 (closed_at v.taker q o.0) t.0 st.3 st.5 o.1 in
      (a.0, shows h.1 (closed_at v.taker q o.0) a.1 a.2 ∙ ap (λ e. intake_shown h.1 (closed_at e q o.0)) a.0)

  sees_taken : (v : View) → MakesStep n s v SeeTaken s' → Event Look
  sees_taken v t = let st = t.1 in let r = looked v.sender (slice_index s.words taken_word) (nat_lt (length v.sender.sent) (slice_index s.words taken_word + n)) in let a = sender_after v st.2.0 st.0 r t.0 st.3 st.5 st.6.4 in
      (tt, shows r h.2 a.1 a.2 ∙ ap (λ (r : Sender). intake_shown r h.2) a.0)

  sees_closed : (v : View) → MakesStep n s v SeeClosed s' → Event Look
  sees_closed v t = by (ℕ_discrete (slice_index s.words front_word) (2 * length v.sender.sent))
    where
      looks : (b : Bool) → t.1.2.0 ≡ with_sender v (checked v.sender b) → Event Look
      looks b is = let st = t.1 in let a = sender_after v st.2.0 st.0 (checked v.sender b) t.0 st.3 st.5 is in
          (tt, shows (checked v.sender b) h.2 a.1 a.2 ∙ ap (λ (r : Sender). intake_shown r h.2) a.0)

      by : Dec (slice_index s.words front_word ≡ 2 * length v.sender.sent) → Event Look
      by (yes e) = looks v.sender.told (t.1.6.1 e)
      by (no ne) = looks true (t.1.6.2 ne)

  gives_back : (v : View) → MakesStep n s v GiveBack s' → Event Look
  gives_back v t = let st = t.1 in let r = looked v.sender (slice_index s.words taken_word) false in let a = sender_after v st.2.0 st.0 r t.0 st.3 st.5 st.6.0 in
      (tt, shows r h.2 a.1 a.2 ∙ ap (λ (r : Sender). intake_shown r h.2) a.0)

  sees_front : (v : View) → MakesStep n s v SeeFront s' → Event Look
  sees_front v t = let st = t.1 in let f = next_of _ _ _ (saw v.taker (slice_index s.words front_word / 2)) _ (v, st.1) st.2 st.6.3 in let e = saw v.taker (slice_index s.words front_word / 2) f.0 in let a = taker_after v st.2.0 st.0 e t.0 st.3 st.5 f.1 in
      (tt, shows h.1 e a.1 a.2 ∙ ap (λ (e : Taker). intake_shown h.1 e) a.0)

  learns : (v : View) → MakesStep n s v Learn s' → Event Look
  learns v t = let st = t.1 in let views : s'.views ≡ s.views = st.5 ∙ ap (λ (m : Sat). slice_set s.views st.0 m.0) st.6.0 ∙ set_again s.views st.0 v st.3 in
      let pair = one_pair s'.views h'.1 h.1 h'.2 h.2 h'.3 (subst (λ vs. Seated vs h.1 h.2) (sym views) h.3) in (tt, shows h.1 h.2 pair.0 pair.1)

  -- a try to send, by the word that it finds
  tried : (x : Message) (v : View) → MakesStep n s v (Send x) s' → Event (event_of v (Send x) (slice_index s.words front_word))
  tried x v t = by (slice_index s.words front_word == open_front v) refl
    where
      by : (b : Bool) → (slice_index s.words front_word == open_front v) ≡ b → Event (if b then Accept x else Look)
      by true e = accepts x v t (eqb-true (slice_index s.words front_word) (open_front v) e)
      by false e = fails x v t (eqb-false (slice_index s.words front_word) (open_front v) e)

  -- a close, the first time and again
  shut_so : (v : View) → MakesStep n s v Shut s' → Event (event_of v Shut (slice_index s.words front_word))
  shut_so v t = by v.taker.closed refl
    where
      by : (b : Bool) → v.taker.closed ≡ b → Event (if b then Look else Close)
      by true was = let done = shuts v t in (tt, done.1 ∙ ap (λ b. record { accepted = h.1.sent; taken = length h.2.got; closed = b }) (sym was ∙ ap (λ e. e.closed) done.0))
      by false was = let done = shuts v t in (sym (ap (λ e. e.closed) done.0) ∙ was, done.1)

  of_step : (c : SeatStep) (v : View) → MakesStep n s v c s' → Event (event_of v c (slice_index s.words (word_of c)))
  of_step SeeTaken v t = sees_taken v t
  of_step SeeClosed v t = sees_closed v t
  of_step (Send x) v t = tried x v t
  of_step GiveBack v t = gives_back v t
  of_step SeeFront v t = sees_front v t
  of_step TakeFirst v t = takes_one v t
  of_step Shut v t = shut_so v t
  of_step Learn v t = learns v t

  event : (e : IntakeEvent) → Moves n s e s' → Event e
  event e m = subst Event m.3 (of_step m.1 m.0 m.2)

-- one after another
pub run : (node n : ℕ) (events : List IntakeEvent) (s s' : LaneState) (h : Lane node s) (h' : Lane node s') → length s.homes ≡ n → MovesInTurn node n s events s' → MayAll n (shown_by node s h) events × (shown_by node s' h' ≡ intake_after (shown_by node s h) events)
run node n [] s s' h h' long r = let pair = one_pair s'.views h'.1 h.1 h'.2 h.2 h'.3 (subst (λ vs. Seated vs h.1 h.2) (sym (ap (λ z. z.views) r)) h.3) in (tt, λ i. intake_shown (pair.0 i) (pair.1 i))
run node n (e ∷ es) s s' h h' long r = let first = event node n s r.0 h r.1 long e r.3 in let rest = run node n es r.0 s' r.1 h' r.2 r.4 in
    ((first.0, subst (λ c. MayAll n c es) first.1 rest.0), rest.1 ∙ ap (λ c. intake_after c es) first.1)

-- an act moves slots, and makes or loses none
homes_length : (a : Act Message) (hs : List (maybe.Option Message)) (cs : List (ℕ × Message)) → length (homes_after hs cs a) ≡ length hs
homes_length keeps hs cs = refl
homes_length (takes k y) hs cs = length-set hs k none
homes_length gives hs [] = refl
homes_length gives hs (x ∷ xs) = length-set hs x.0 (some x.1)
homes_length (chain a b) hs cs = homes_length b (homes_after hs cs a) (carried_after cs a) ∙ homes_length a hs cs

-- what is allowed is a step that keeps the rule
pub moves : (node n id i : ℕ) (f : ℕ → ℕ) (told : Sat → ℕ → Sat → Type 0) (v : View) (cs : List (ℕ × Message)) → Allows (Lane node) n id (v, cs) i f (told (v, cs)) → (s : LaneState) → Lane node s → length s.homes ≡ n → get_elem? s.views id ≡ some v → slice_index s.words i < 18446744073709551616
    → (s' : LaneState) × Lane node s' × (length s'.homes ≡ n) × SeatSteps s v i f told s'
moves node n id i f told v cs allows s h long at fits = let a = allows s h long at fits in
    (stepped s i (f (slice_index s.words i)) id cs a.0 a.1, a.3, homes_length a.1 s.homes cs ∙ long, (id, cs, (a.0, carried_after cs a.1), at, refl, refl, a.4))

-- ---- The steps of the calls.

pub each_step : EachStepIsAnEvent
each_step node n id c v cs is allows s h long at fits =
    let m = moves node n id (word_of c) (becomes v c) (step_tells n v c) v cs allows s h long at fits in (m.0, m.1, m.2, (v, c, (is, m.3), refl))

-- ---- What is no event.

module _ (node : ℕ) where
  pub new_lane : (slots : List Message) (h : Lane node (opening (words_of no_intake) slots (opening_view node))) → intake_shown h.1 h.2 ≡ no_intake
  new_lane slots h = λ i. intake_shown (sym h.3.3 i) (sym h.3.4 i)

  module _ (s s' : LaneState) (h : Lane node s) (h' : Lane node s') where
    same_shown : Seated s'.views h.1 h.2 → intake_shown h'.1 h'.2 ≡ intake_shown h.1 h.2
    same_shown seated = let pair = one_pair s'.views h'.1 h.1 h'.2 h.2 h'.3 seated in λ i. intake_shown (pair.0 i) (pair.1 i)

    pub parts : PartsSeat s s' → intake_shown h'.1 h'.2 ≡ intake_shown h.1 h.2
    parts p = same_shown (subst (λ vs. Seated vs h.1 h.2) (sym p.6) (cuts s.views p.0 p.1 h.1 h.2 h.3 p.2 p.3 p.4 p.5))

    pub meets : Meets s s' → intake_shown h'.1 h'.2 ≡ intake_shown h.1 h.2
    meets p = same_shown (subst (λ vs. Seated vs h.1 h.2) (sym p.8) (joins s.views p.0 p.2 p.1 p.3 h.1 h.2 h.3 p.4 p.5.0 p.5.1 p.6 p.7))

-- ---- A lane is reached by events.

abbrev intake : List Message → ℕ → Bool → Intake
intake xs k b = record { accepted = xs; taken = k; closed = b }

module _ (n : ℕ) where
  abbrev Reaches : Intake → Intake → Type 0
  Reaches c d = (es : List IntakeEvent) × MayAll n c es × (intake_after c es ≡ d)

  more : (e : IntakeEvent) (c d : Intake) → May n c e → Reaches (intake_after_event c e) d → Reaches c d
  more e c d may r = (e ∷ r.0, (may, r.1), r.2)

  joined : (es : List IntakeEvent) (c d : Intake) → MayAll n c es → Reaches (intake_after c es) d → Reaches c d
  joined [] c d all r = r
  joined (e ∷ es) c d all r = more e c d all.0 (joined es (intake_after_event c e) d all.1 r)

  after : (c d f : Intake) → Reaches c d → Reaches d f → Reaches c f
  after c d f r q = joined r.0 c f r.1 (subst (λ z. Reaches z f) (sym r.2) q)

  here : (c : Intake) → Reaches c c
  here c = ([], tt, refl)

  -- each message accepted and taken at once
  in_turn : 0 < n → (xs acc : List Message) → Reaches (intake acc (length acc) false) (intake (acc ++ xs) (length (acc ++ xs)) false)
  in_turn some_place [] acc = subst (λ l. Reaches (intake acc (length acc) false) (intake l (length l) false)) (sym (append-nil acc)) (here _)
  in_turn some_place (x ∷ xs) acc = let one = length-append acc (x ∷ []) in
      more (Accept x) _ _ (refl, omega arith) (more Take _ _ (omega arith)
      (subst (λ k. Reaches (intake (acc ++ x ∷ []) k false) (intake (acc ++ x ∷ xs) (length (acc ++ x ∷ xs)) false)) one
      (subst (λ l. Reaches (intake (acc ++ x ∷ []) (length (acc ++ x ∷ [])) false) (intake l (length l) false)) (append_assoc acc (x ∷ []) xs) (in_turn some_place xs (acc ++ x ∷ [])))))

  -- messages accepted while there is room
  accepted : (xs acc : List Message) (k : ℕ) → length acc + length xs ≤ k + n → Reaches (intake acc k false) (intake (acc ++ xs) k false)
  accepted [] acc k fits = subst (λ l. Reaches (intake acc k false) (intake l k false)) (sym (append-nil acc)) (here _)
  accepted (x ∷ xs) acc k fits = let one = length-append acc (x ∷ []) in
      more (Accept x) _ _ (refl, omega arith) (subst (λ l. Reaches (intake (acc ++ x ∷ []) k false) (intake l k false)) (append_assoc acc (x ∷ []) xs) (accepted xs (acc ++ x ∷ []) k (omega arith)))

  shut : (xs : List Message) (k : ℕ) (b : Bool) → Reaches (intake xs k false) (intake xs k b)
  shut xs k false = here _
  shut xs k true = more Close _ _ refl (here _)

reached : (node n : ℕ) (ws : List ℕ) (hs : List (maybe.Option Message)) (r : Sender) (e : Taker) → LaneFacts node n ws hs r e → Reaches n no_intake (intake_shown r e)
reached node n ws hs r e K = let within = K.within in after n _ (intake e.got (length e.got) false) _ (in_turn n K.some_slot e.got [])
    (after n _ (intake r.sent (length e.got) false) _ (subst (λ l. Reaches n (intake e.got (length e.got) false) (intake l (length e.got) false)) (sym K.split) (accepted n K.left e.got (length e.got) (omega arith)))
    (shut n r.sent (length e.got) e.closed))

pub lane_reached : (node : ℕ) (s : LaneState) (h : Lane node s) → (events : List IntakeEvent) × MayAll (length s.homes) no_intake events × (shown_by node s h ≡ intake_after no_intake events) × (s.words ≡ words_of (shown_by node s h))
lane_reached node s h = let r = reached node h.0 s.words s.homes h.1 h.2 h.4 in (r.0, subst (λ k. MayAll k no_intake r.0) (sym h.4.as_long) r.1, sym r.2, h.4.words_are)
