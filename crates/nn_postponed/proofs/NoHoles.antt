-- Places without a hole: a message's place is its place in the list.
use Rattle.std.proofs.Common.{◌≡◌, ℕ, zero, suc, ◌+◌, ◌≤◌, ◌<◌, Bool, true, false, not, ◌||◌, List, [], ◌∷◌, ◌++◌, length, take, drop, get_or}
use Rattle.std.proofs.Common.{Some, None, Option, refl, sym, ap, ◌∙◌, arith, append_assoc}
use Rattle.std.specs.List.{list_any}
use Rattle.std.proofs.lemmas.Bool.{cond-true, cond-false}
use Rattle.std.proofs.lemmas.List.{take_more, drop_more}
use Rattle.nn_types.specs.declared.report.Message.{Message}
use Rattle.nn_postponed.specs.Places.{present, IsFreePlace}
use Rattle.nn_postponed.specs.Release.{same_source, must_wait, first_free, without_free}
use Rattle.nn_postponed.proofs.Steps.{any_append}
use Rattle.std.proofs.Math.Seq.{take-length}
use Rattle.nn_postponed.proofs.Places.{present_append, present_few}
use Rattle.nn_postponed.proofs.Passes.{found_before}

-- ---- Those before a place wait.

-- `before` are they, in some order
pub record Wait (due : Message → Bool) (ms : List Message) (i : ℕ) : Type 0 where
  pub before : List Message
  pub same : (p : Message → Bool) → list_any p before ≡ list_any p (take i ms)
  pub first : first_free due [] ms ≡ first_free due before (drop i ms)
  pub rest : without_free due [] ms ≡ take i ms ++ without_free due before (drop i ms)

pub none_yet : (due : Message → Bool) (ms : List Message) → Wait due ms 0
none_yet due [] = record { before = []; same = λ p. refl; first = refl; rest = refl }
none_yet due (x ∷ ms) = record { before = []; same = λ p. refl; first = refl; rest = refl }

or_turn : (a b : Bool) → (a || b) ≡ (b || (a || false))
or_turn true true = refl
or_turn true false = refl
or_turn false true = refl
or_turn false false = refl

drop_all : (ms : List Message) (n : ℕ) → length ms ≤ n → drop n ms ≡ []
drop_all [] zero le = refl
drop_all [] (suc n) le = refl
drop_all (x ∷ ms) zero le = absurd (omega (arith, le))
drop_all (x ∷ ms) (suc n) le = drop_all ms n (omega (arith, le))

same_item : (ms : List Message) (i : ℕ) (d e : Message) → i < length ms → get_or ms i d ≡ get_or ms i e
same_item [] i d e lt = absurd (omega (arith, lt))
same_item (x ∷ ms) zero d e lt = refl
same_item (x ∷ ms) (suc i) d e lt = same_item ms i d e (omega (arith, lt))

module _ (due : Message → Bool) (ms : List Message) (i : ℕ) (w : Wait due ms i) where
  pub all_wait : length ms ≤ i → first_free due [] ms ≡ None
  all_wait le = w.first ∙ ap (first_free due w.before) (drop_all ms i le)

  module _ (lt : i < length ms) (m : Message) (got : get_or ms i m ≡ m) where
    here : drop i ms ≡ m ∷ drop (i + 1) ms
    here = drop_more ms i m lt ∙ ap (λ x. x ∷ drop (i + 1) ms) got

    more : take (i + 1) ms ≡ take i ms ++ m ∷ []
    more = take_more ms i m lt ∙ ap (λ x. take i ms ++ x ∷ []) got

    waits_as : must_wait due w.before m ≡ must_wait due (take i ms) m
    waits_as = ap (λ t. not (due m) || t) (w.same (same_source m))

    pub wait_more : must_wait due (take i ms) m ≡ true → Wait due ms (i + 1)
    wait_more waits = record {
      before = m ∷ w.before;
      same = λ p. ap (λ t. p m || t) (w.same p) ∙ or_turn (p m) (list_any p (take i ms)) ∙ sym (ap (list_any p) more ∙ any_append p (take i ms) (m ∷ []));
      first = w.first ∙ ap (first_free due w.before) here ∙ cond-true (must_wait due w.before m) (first_free due (m ∷ w.before) (drop (i + 1) ms)) (Some m) (waits_as ∙ waits);
      rest = w.rest ∙ ap (λ l. take i ms ++ without_free due w.before l) here
          ∙ ap (λ l. take i ms ++ l) (cond-true (must_wait due w.before m) (m ∷ without_free due (m ∷ w.before) (drop (i + 1) ms)) (drop (i + 1) ms) (waits_as ∙ waits))
          ∙ sym (ap (λ l. l ++ without_free due (m ∷ w.before) (drop (i + 1) ms)) more ∙ append_assoc (take i ms) (m ∷ []) (without_free due (m ∷ w.before) (drop (i + 1) ms)));
    }

    pub free_here : must_wait due (take i ms) m ≡ false → IsFreePlace due ms i
    free_here free = record {
      in_range = lt;
      first = λ d. w.first ∙ ap (first_free due w.before) here ∙ cond-false (must_wait due w.before m) (first_free due (m ∷ w.before) (drop (i + 1) ms)) (Some m) (waits_as ∙ free)
          ∙ ap (λ (x : Message). Some x) (sym got ∙ same_item ms i m d lt);
      rest = w.rest ∙ ap (λ l. take i ms ++ without_free due w.before l) here
          ∙ ap (λ l. take i ms ++ l) (cond-false (must_wait due w.before m) (m ∷ without_free due (m ∷ w.before) (drop (i + 1) ms)) (drop (i + 1) ms) (waits_as ∙ free));
    }

-- ---- No place is a hole.

pub some_there : (xs : List (Option Message)) (i : ℕ) (d : Option Message) → length (present xs) ≡ length xs → i < length xs → get_or xs i d ≡ None → ⊥
some_there [] i d full lt none = absurd (omega (arith, lt))
some_there (None ∷ xs) i d full lt none = absurd (omega (arith, full, present_few xs))
some_there (Some m ∷ xs) zero d full lt none = absurd (cc)
some_there (Some m ∷ xs) (suc i) d full lt none = some_there xs i d (omega (arith, full)) (omega (arith, lt)) none

pub same_at : (xs : List (Option Message)) (i : ℕ) (d : Option Message) (e m : Message) → length (present xs) ≡ length xs → i < length xs → get_or xs i d ≡ Some m → get_or (present xs) i e ≡ m
same_at [] i d e m full lt got = absurd (omega (arith, lt))
same_at (None ∷ xs) i d e m full lt got = absurd (omega (arith, full, present_few xs))
same_at (Some x ∷ xs) zero d e m full lt got = (let same : x ≡ m = cc in same)
same_at (Some x ∷ xs) (suc i) d e m full lt got = same_at xs i d e m (omega (arith, full)) (omega (arith, lt)) got

pub before_at : (xs : List (Option Message)) (i : ℕ) → length (present xs) ≡ length xs → present (take i xs) ≡ take i (present xs)
before_at [] zero full = refl
before_at [] (suc i) full = refl
before_at (x ∷ xs) zero full = refl
before_at (None ∷ xs) (suc i) full = absurd (omega (arith, full, present_few xs))
before_at (Some m ∷ xs) (suc i) full = ap (λ l. m ∷ l) (before_at xs i (omega (arith, full)))

behind_at : (xs : List (Option Message)) (i : ℕ) → length (present xs) ≡ length xs → present (drop i xs) ≡ drop i (present xs)
behind_at [] zero full = refl
behind_at [] (suc i) full = refl
behind_at (None ∷ xs) i full = absurd (omega (arith, full, present_few xs))
behind_at (Some m ∷ xs) zero full = refl
behind_at (Some m ∷ xs) (suc i) full = behind_at xs i (omega (arith, full))

-- without the one at a place
pub left_at : (xs : List (Option Message)) (i : ℕ) → length (present xs) ≡ length xs → present (take i xs ++ drop (suc i) xs) ≡ take i (present xs) ++ drop (i + 1) (present xs)
left_at xs i full =
    present_append (take i xs) (drop (suc i) xs) ∙ (λ j. before_at xs i full j ++ behind_at xs (suc i) full j)
    ∙ ap (λ k. take i (present xs) ++ drop k (present xs)) (let e : suc i ≡ i + 1 = omega arith in e)

pub full_left : (xs : List (Option Message)) (i : ℕ) → length (present xs) ≡ length xs → i < length xs → length (present (take i xs ++ drop (suc i) xs)) ≡ length (take i xs ++ drop (suc i) xs)
full_left [] i full lt = absurd (omega (arith, lt))
full_left (None ∷ xs) i full lt = absurd (omega (arith, full, present_few xs))
full_left (Some m ∷ xs) zero full lt = omega (arith, full)
full_left (Some m ∷ xs) (suc i) full lt = (let r = full_left xs i (omega (arith, full)) (omega (arith, lt)) in omega (arith, r))

pub full_more : (xs new : List (Option Message)) (m : Message) → length (present xs) ≡ length xs → new ≡ xs ++ Some m ∷ [] → length (present new) ≡ length new
full_more xs new m full is = ap (λ l. length (present l)) is ∙ at xs full ∙ ap length (sym is)
  where
    at : (ys : List (Option Message)) → length (present ys) ≡ length ys → length (present (ys ++ Some m ∷ [])) ≡ length (ys ++ Some m ∷ [])
    at [] h = refl
    at (None ∷ ys) h = absurd (omega (arith, h, present_few ys))
    at (Some x ∷ ys) h = (let r = at ys (omega (arith, h)) in omega (arith, r))

-- without the last one
pub full_front : (xs : List (Option Message)) (o : Option Message) → length (present (xs ++ o ∷ [])) ≡ length (xs ++ o ∷ []) → length (present xs) ≡ length xs
full_front [] o full = refl
full_front (None ∷ xs) o full = absurd (omega (arith, full, present_few (xs ++ o ∷ [])))
full_front (Some x ∷ xs) o full = (let r = full_front xs o (omega (arith, full)) in omega (arith, r))

pub last_there : (xs : List (Option Message)) → length (present (xs ++ None ∷ [])) ≡ length (xs ++ None ∷ []) → ⊥
last_there [] full = absurd (omega (arith, full))
last_there (None ∷ xs) full = absurd (omega (arith, full, present_few (xs ++ None ∷ [])))
last_there (Some x ∷ xs) full = last_there xs (omega (arith, full))

-- ---- Scans to the end.

pub found_one : (p : Message → Bool) (xs : List (Option Message)) (i : ℕ) (d : Option Message) (m : Message) → i < length xs → get_or xs i d ≡ Some m → p m ≡ true → true ≡ list_any p (present xs)
found_one p xs i d m lt got hit = found_before p xs i (length xs) d m lt (omega arith) got hit ∙ ap (λ l. list_any p (present l)) (take-length xs)

pub found_none : (p : Message → Bool) (xs : List (Option Message)) (i : ℕ) → i ≡ length xs → list_any p (present (take i xs)) ≡ false → false ≡ list_any p (present xs)
found_none p xs i end none = sym none ∙ ap (λ l. list_any p (present l)) (ap (λ k. take k xs) end ∙ take-length xs)

-- ---- The scan for the first free one.

module _ (items slots : List (Option Message)) (view : List Message) (i : ℕ) (full : length (present items) ≡ length items) (is_view : present items ≡ view) (same : slots ≡ items) (lt : i < length slots) where
  in_items : i < length items
  in_items = omega (arith, lt, ap length same)

  pub never_hole : (d : Option Message) → get_or slots i d ≡ None → ⊥
  never_hole d none = some_there items i d full in_items (ap (λ l. get_or l i d) (sym same) ∙ none)

  module _ (due : Message → Bool) (d : Option Message) (m : Message) (got : get_or slots i d ≡ Some m) (r : Bool) (waits : r ≡ must_wait due (present (take i slots)) m) (w : Wait due view i) where
    in_view : i < length view
    in_view = omega (arith, in_items, full, ap length is_view)

    is_here : get_or view i m ≡ m
    is_here = ap (λ l. get_or l i m) (sym is_view) ∙ same_at items i d m m full in_items (ap (λ l. get_or l i d) (sym same) ∙ got)

    waits_is : r ≡ must_wait due (take i view) m
    waits_is =
        waits ∙ ap (λ l. must_wait due (present (take i l)) m) same ∙ ap (λ l. must_wait due l m) (before_at items i full)
        ∙ ap (λ l. must_wait due (take i l) m) is_view

    pub more_wait : r ≡ true → Wait due view (i + 1)
    more_wait h = wait_more due view i w in_view m is_here (sym waits_is ∙ h)

    pub free_place : r ≡ false → IsFreePlace due view i
    free_place h = free_here due view i w in_view m is_here (sym waits_is ∙ h)
