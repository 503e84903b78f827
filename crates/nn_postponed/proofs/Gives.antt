-- What a release gives of many messages, and what stands first and last of them.
use Rattle.std.proofs.Common.{◌≡◌, ◌≢◌, ℕ, zero, suc, ◌+◌, ◌<◌, ◌≤◌, Bool, true, false, not, ◌||◌, List, [], ◌∷◌, ◌++◌, length, take, set, Some, None, Option, refl, sym, ap, ◌∙◌, inl, inr, arith, eq-eqb, eqb-true, nat_le, nat_cmp, is_some}
use Rattle.std.specs.Prelude.{◌==◌}
use Rattle.std.specs.List.{list_any}
use Rattle.std.proofs.Math.Seq.{take-length}
use Rattle.nn_sorted.specs.Values.{value_at}
use Rattle.std.proofs.lemmas.Bool.{cases_Bool, both_ways, and_left, and_right, and_from, or_from, or_right, or_left, or_parts, cond-true, cond-false, ne_eqb, lt-leb, le-leb, not_from_false, not_from_true}
use Rattle.std.proofs.lemmas.List.{get_or_past}
use Rattle.nn_types.specs.declared.report.Message.{Message}
use Rattle.nn_types.specs.declared.status.Status.{Status}
use Rattle.nn_types.specs.Due.{is_due}
use Rattle.nn_postponed.specs.declared.many.Ends.{Ends}
use Rattle.nn_postponed.specs.declared.stamps.TheConstants.{NO_STAMP}
use Rattle.nn_postponed.specs.Stamps.{stamp_there, IsFirstUpTo}
use Rattle.nn_postponed.specs.Queues.{is_from}
use Rattle.nn_postponed.specs.Release.{same_source, must_wait, first_free, without_free, due_at}
use Rattle.nn_postponed.specs.Places.{present}
use Rattle.nn_postponed.specs.Links.{Slots, slot, is_of, NoneBefore, IsHead, IsLast, HasEnds, AreLinked}
use Rattle.nn_postponed.proofs.Places.{gone, any_gone}
use Rattle.nn_postponed.proofs.Passes.{found_before}
use Rattle.nn_postponed.proofs.Links.{some_or_none, in_places, stands}

-- ---- Those before a place, as a list and by their places.

pub none_listed : (dn b : ℕ) (xs : Slots) (q : ℕ) → NoneBefore dn xs q → list_any (is_from dn b) (present (take q xs)) ≡ false
none_listed dn b xs zero none = refl
none_listed dn b [] (suc q) none = refl
none_listed dn b (None ∷ xs) (suc q) none = none_listed dn b xs q (λ r lt. none (suc r) (omega (arith, lt)))
none_listed dn b (Some m ∷ xs) (suc q) none =
    or_from _ _ (and_left (m.dn == dn) (m.block == b) (none zero (omega arith))) (none_listed dn b xs q (λ r lt. none (suc r) (omega (arith, lt))))

pub none_standing : (dn b : ℕ) (xs : Slots) (q : ℕ) → ((r : ℕ) (m : Message) → slot xs r ≡ Some m → m.block ≡ b) → list_any (is_from dn b) (present (take q xs)) ≡ false → NoneBefore dn xs q
none_standing dn b xs zero about none r lt = absurd (omega (arith, lt))
none_standing dn b [] (suc q) about none r lt = ap (is_of dn) (get_or_past [] r None (omega arith))
none_standing dn b (None ∷ xs) (suc q) about none zero lt = refl
none_standing dn b (None ∷ xs) (suc q) about none (suc r) lt = none_standing dn b xs q (λ k m. about (suc k) m) none r (omega (arith, lt))
none_standing dn b (Some m ∷ xs) (suc q) about none zero lt = elim (cases_Bool (m.dn == dn)) [
  | inl own ↦ absurd (both_ways _ (or_parts (is_from dn b m) (list_any (is_from dn b) (present (take q xs))) none).0 (and_from (m.dn == dn) (m.block == b) own (eq-eqb m.block b (about zero m refl))))
  | inr other ↦ other
]
none_standing dn b (Some m ∷ xs) (suc q) about none (suc r) lt =
    none_standing dn b xs q (λ k x. about (suc k) x) (or_parts (is_from dn b m) (list_any (is_from dn b) (present (take q xs))) none).1 r (omega (arith, lt))

-- ---- A walk that takes the message at a place.

module _ (due : Message → Bool) where
  abbrev pub Waits : List Message → Slots → ℕ → Type 0
  Waits s xs q = (y : Message) → slot xs q ≡ Some y → must_wait due (gone (take q xs) s) y ≡ true

  gives : (s : List Message) (xs : Slots) (p : ℕ) (m : Message) → slot xs p ≡ Some m → ((q : ℕ) → q < p → Waits s xs q) → must_wait due (gone (take p xs) s) m ≡ false
      → (first_free due s (present xs) ≡ Some m) × (without_free due s (present xs) ≡ present (set xs p None))
  gives s [] p m there wait goes = absurd (some_or_none (slot [] p) m there (get_or_past [] p None (omega arith)))
  gives s (None ∷ xs) zero m there wait goes = absurd (cc)
  gives s (Some x ∷ xs) zero m there wait goes =
      let same : x ≡ m = cc in
      let free : must_wait due s x ≡ false = ap (must_wait due s) same ∙ goes in (
        cond-false (must_wait due s x) (first_free due (x ∷ s) (present xs)) (Some x) free ∙ ap (λ (z : Message). Some z) same,
        cond-false (must_wait due s x) (x ∷ without_free due (x ∷ s) (present xs)) (present xs) free,
      )
  gives s (None ∷ xs) (suc p) m there wait goes = gives s xs p m there (λ q lt. wait (suc q) (omega (arith, lt))) goes
  gives s (Some x ∷ xs) (suc p) m there wait goes =
      let stuck : must_wait due s x ≡ true = wait zero (omega arith) x refl in
      let r = gives (x ∷ s) xs p m there (λ q lt. wait (suc q) (omega (arith, lt))) goes in (
        cond-true (must_wait due s x) (first_free due (x ∷ s) (present xs)) (Some x) stuck ∙ r.0,
        cond-true (must_wait due s x) (x ∷ without_free due (x ∷ s) (present xs)) (present xs) stuck ∙ ap (λ l. x ∷ l) r.1,
      )

  gives_none : (s : List Message) (xs : Slots) → ((q : ℕ) → Waits s xs q) → first_free due s (present xs) ≡ None
  gives_none s [] wait = refl
  gives_none s (None ∷ xs) wait = gives_none s xs (λ q. wait (suc q))
  gives_none s (Some x ∷ xs) wait =
      cond-true (must_wait due s x) (first_free due (x ∷ s) (present xs)) (Some x) (wait zero x refl) ∙ gives_none (x ∷ s) xs (λ q. wait (suc q))

-- where none is due
pub none_due : (due : Message → Bool) (xs : Slots) → ((q : ℕ) (y : Message) → slot xs q ≡ Some y → due y ≡ false) → first_free due [] (present xs) ≡ None
none_due due xs late = gives_none due [] xs (λ q y here. or_left (not (due y)) _ (not_from_false (due y) (late q y here)))

or_none : (w : Bool) → (w || false) ≡ w
or_none true = refl
or_none false = refl

-- what is free, and what is left without it
pub record Gives (due : Message → Bool) (xs : Slots) (p : ℕ) : Type 0 where
  pub m : Message
  pub head : IsHead xs p m
  pub first : first_free due [] (present xs) ≡ Some m
  pub rest : without_free due [] (present xs) ≡ present (set xs p None)

module _ (b limit : ℕ) (xs : Slots) (next : List ℕ) (es : List (ℕ × Ends)) (stamps : List ℕ) (due : Message → Bool) (old : AreLinked b xs next es stamps) (few : limit < NO_STAMP)
    (hard : (q : ℕ) (y : Message) → IsHead xs q y → limit < y.stamp → due y ≡ false) where
  -- a message without an earlier one of its DataNode is a head
  head_at : (q : ℕ) (y : Message) → slot xs q ≡ Some y → list_any (same_source y) (gone (take q xs) []) ≡ false → IsHead xs q y
  head_at q y here none = record {
    there = here;
    first = none_standing y.dn b xs q old.about (ap (λ k. list_any (is_from y.dn k) (present (take q xs))) (sym (old.about q y here))
        ∙ sym (or_none (list_any (same_source y) (present (take q xs)))) ∙ sym (any_gone (same_source y) (take q xs) []) ∙ none);
  }

  waits_at : (q : ℕ) → limit < stamp_there stamps q → Waits due [] xs q
  waits_at q high y here = elim (cases_Bool (list_any (same_source y) (gone (take q xs) []))) [
    | inl earlier ↦ or_right (not (due y)) (list_any (same_source y) (gone (take q xs) [])) earlier
    | inr none ↦
        let head = head_at q y here none in
        or_left (not (due y)) (list_any (same_source y) (gone (take q xs) [])) (not_from_false (due y) (hard q y head (omega (arith, high, old.has_stamps.heads q y head))))
  ]

  pub released : (p : ℕ) → IsFirstUpTo limit stamps p → ((y : Message) → IsHead xs p y → y.stamp ≤ limit → due y ≡ true) → Gives due xs p
  released p found soft =
      let low = found.low in
      let at = old.has_stamps.only p (omega (arith, low, few)) in
      let m = at.0 in
      let first : list_any (same_source m) (gone (take p xs) []) ≡ false =
      any_gone (same_source m) (take p xs) [] ∙ or_none (list_any (same_source m) (present (take p xs))) ∙ none_listed m.dn m.block xs p at.1.first in
      let is : due m ≡ true = soft m at.1 (omega (arith, low, old.has_stamps.heads p m at.1)) in
      let r = gives due [] xs p m at.1.there (λ q lt. waits_at q (found.before q lt)) (or_from (not (due m)) _ (not_from_true (due m) is) first) in
      record { m = m; head = at.1; first = r.0; rest = r.1 }

  pub none_released : ((q : ℕ) → limit < stamp_there stamps q) → first_free due [] (present xs) ≡ None
  none_released high = gives_none due [] xs (λ q. waits_at q (high q))

-- ---- By the block's status.

module _ (b limit : ℕ) (said : Status) (xs : Slots) (next : List ℕ) (es : List (ℕ × Ends)) (stamps : List ℕ) (old : AreLinked b xs next es stamps) (few : limit < NO_STAMP)
    (limits : (stamp : ℕ) → stamp < NO_STAMP → is_due said stamp ≡ nat_le stamp limit) where
  hard : (q : ℕ) (y : Message) → IsHead xs q y → limit < y.stamp → due_at b said y ≡ false
  hard q y head high = and_right (y.block == b) (is_due said y.stamp) (limits y.stamp (old.has_stamps.low q y head) ∙ lt-leb y.stamp limit high)

  pub due_released : (p : ℕ) → IsFirstUpTo limit stamps p → Gives (due_at b said) xs p
  due_released p found = released b limit xs next es stamps (due_at b said) old few hard p found
      (λ y head low. and_from (y.block == b) (is_due said y.stamp) (eq-eqb y.block b (old.about p y head.there)) (limits y.stamp (old.has_stamps.low p y head) ∙ le-leb y.stamp limit low))

  pub none_due_released : ((q : ℕ) → limit < stamp_there stamps q) → None ≡ first_free (due_at b said) [] (present xs)
  none_due_released high = sym (none_released b limit xs next es stamps (due_at b said) old few hard high)

-- another block, or a status in which none is due
pub other_block : (b c : ℕ) (said : Status) (xs : Slots) → ((q : ℕ) (m : Message) → slot xs q ≡ Some m → m.block ≡ b) → b ≢ c → None ≡ first_free (due_at c said) [] (present xs)
other_block b c said xs about apart = sym (none_due (due_at c said) xs (λ q y here. and_left (y.block == c) (is_due said y.stamp) (ne_eqb y.block c (λ e. apart (sym (about q y here) ∙ e)))))

pub never_due : (c : ℕ) (said : Status) (xs : Slots) → ((stamp : ℕ) → is_due said stamp ≡ false) → None ≡ first_free (due_at c said) [] (present xs)
never_due c said xs never = sym (none_due (due_at c said) xs (λ q y here. and_right (y.block == c) (is_due said y.stamp) (never y.stamp)))

-- ---- The first one of all.

abbrev any_is_due : Message → Bool
any_is_due m = true

module _ (b limit : ℕ) (xs : Slots) (next : List ℕ) (es : List (ℕ × Ends)) (stamps : List ℕ) (old : AreLinked b xs next es stamps) (last : limit + 1 ≡ NO_STAMP) where
  above_all : (q : ℕ) (y : Message) → IsHead xs q y → limit < y.stamp → any_is_due y ≡ false
  above_all q y head high = absurd (omega (arith, high, last, old.has_stamps.low q y head))

  pub record First (p : ℕ) : Type 0 where
    pub m : Message
    pub head : IsHead xs p m
    pub is : present xs ≡ m ∷ present (set xs p None)

  pub first_one : (p : ℕ) → IsFirstUpTo limit stamps p → First p
  first_one p found =
      let r = released b limit xs next es stamps any_is_due old (omega (arith, last)) above_all p found (λ y head low. refl) in
      record { m = r.m; head = r.head; is = only (present xs) r.m r.first r.rest }
    where
      only : (ms : List Message) (m : Message) → first_free any_is_due [] ms ≡ Some m → without_free any_is_due [] ms ≡ present (set xs p None) → ms ≡ m ∷ present (set xs p None)
      only [] m first rest = absurd (cc)
      only (x ∷ ms) m first rest = (let e : x ≡ m = cc in ap (λ (z : Message). z ∷ ms) e ∙ ap (λ l. m ∷ l) rest)

  pub no_one : ((q : ℕ) → limit < stamp_there stamps q) → present xs ≡ []
  no_one high = empty (present xs) (none_released b limit xs next es stamps any_is_due old (omega (arith, last)) above_all high)
    where
      empty : (ms : List Message) → first_free any_is_due [] ms ≡ None → ms ≡ []
      empty [] none = refl
      empty (x ∷ ms) none = absurd (cc)

-- ---- The last one of all.

pub last_one : (xs : Slots) (p : ℕ) (m : Message) → IsLast xs p m → present xs ≡ present (take p xs) ++ m ∷ []
last_one [] p m last = absurd (some_or_none (slot [] p) m last.there (get_or_past [] p None (omega arith)))
last_one (None ∷ xs) zero m last = absurd (let e = last.there in cc)
last_one (Some x ∷ xs) zero m last = (let e : x ≡ m = (let t = last.there in cc) in ap (λ (z : Message). z ∷ present xs) e ∙ ap (λ l. m ∷ l) (all_holes xs (λ q. last.behind (suc q) (omega arith))))
  where
    all_holes : (ys : Slots) → ((q : ℕ) → slot ys q ≡ None) → present ys ≡ []
    all_holes [] none = refl
    all_holes (None ∷ ys) none = all_holes ys (λ q. none (suc q))
    all_holes (Some y ∷ ys) none = absurd (let e = none zero in cc)
last_one (None ∷ xs) (suc p) m last = last_one xs p m (record { there = last.there; behind = λ q lt. last.behind (suc q) (omega (arith, lt)) })
last_one (Some x ∷ xs) (suc p) m last = ap (λ l. x ∷ l) (last_one xs p m (record { there = last.there; behind = λ q lt. last.behind (suc q) (omega (arith, lt)) }))

pub no_messages : (xs : Slots) → ((q : ℕ) → slot xs q ≡ None) → present xs ≡ []
no_messages [] none = refl
no_messages (None ∷ ys) none = no_messages ys (λ q. none (suc q))
no_messages (Some y ∷ ys) none = absurd (let e = none zero in cc)

-- ---- Whether one of a DataNode waits.

module _ (b : ℕ) (xs : Slots) (next : List ℕ) (es : List (ℕ × Ends)) (stamps : List ℕ) (old : AreLinked b xs next es stamps) (dn c : ℕ) where
  pub any_here : true ≡ (b == c) → is_some (value_at nat_cmp es dn) ≡ list_any (is_from dn c) (present xs)
  any_here same = at (value_at nat_cmp es dn) (old.has_ends dn)
    where
      at : (v : Option Ends) → HasEnds dn xs v → is_some v ≡ list_any (is_from dn c) (present xs)
      at None has = sym (sym (ap (λ l. list_any (is_from dn c) (present l)) (take-length xs)) ∙ none_listed dn c xs (length xs) (λ q lt. has q))
      at (Some e) has =
          let s = stands dn (slot xs e.first) has.first in
          found_before (is_from dn c) xs e.first (length xs) None s.m (in_places xs e.first s.m s.there) (omega arith) s.there
          (and_from (s.m.dn == dn) (s.m.block == c) (eq-eqb s.m.dn dn s.own) (eq-eqb s.m.block c (old.about e.first s.m s.there ∙ eqb-true b c (sym same))))
          ∙ ap (λ l. list_any (is_from dn c) (present l)) (take-length xs)

  pub none_elsewhere : false ≡ (b == c) → false ≡ list_any (is_from dn c) (present xs)
  none_elsewhere apart = go xs old.about
    where
      go : (ys : Slots) → ((q : ℕ) (m : Message) → slot ys q ≡ Some m → m.block ≡ b) → false ≡ list_any (is_from dn c) (present ys)
      go [] about = refl
      go (None ∷ ys) about = go ys (λ q m. about (suc q) m)
      go (Some m ∷ ys) about = sym (or_from _ _ (and_right (m.dn == dn) (m.block == c) (ap (λ k. k == c) (about zero m refl) ∙ sym apart)) (sym (go ys (λ q x. about (suc q) x))))
