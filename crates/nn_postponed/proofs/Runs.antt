-- How many messages go, by their DataNodes.
use Rattle.std.proofs.Common.{◌≡◌, ◌≢◌, ℕ, zero, suc, ◌+◌, ◌<◌, ◌≤◌, Bool, true, false, cond, not, ◌&&◌, ◌||◌, List, [], ◌∷◌, length, drop, Some, None, Option, refl, sym, ap, subst, ◌∙◌, inl, inr, arith, eqb-true, eq-eqb, nat_cmp, is_some}
use Rattle.std.specs.Prelude.{◌==◌}
use Rattle.std.specs.List.{list_any, list_all, AllByRecursion}
use Rattle.std.specs.List.Sorted.{IsStrictlySortedBy}
use Rattle.std.specs.Map.{keys_of}
use Rattle.std.specs.declared.cmp.Ordering.TheVariants.{Less}
use Rattle.std.proofs.lemmas.Bool.{cases_Bool, both_ways, and_parts, and_from, or_from, or_right, or_left, cond-true, cond-false, ne_eqb, not_from_false, not_from_true, eqb-false}
use Rattle.std.proofs.lemmas.List.{drop_all}
use Rattle.nn_sorted.specs.Values.{value_at}
use Rattle.nn_types.specs.declared.report.Message.{Message}
use Rattle.nn_postponed.specs.declared.many.Ends.{Ends}
use Rattle.nn_postponed.specs.Queues.{held_from}
use Rattle.nn_postponed.specs.Release.{same_source, must_wait, freed}
use Rattle.nn_postponed.specs.Scans.{due_run}
use Rattle.nn_postponed.specs.Places.{present}
use Rattle.nn_postponed.specs.Links.{Slots, slot, is_of, NoneBehind, AreAbout, AreEnds, HasEnds, AreLinked}
use Rattle.nn_postponed.proofs.Places.{one_left}
use Rattle.nn_postponed.proofs.Flat.{eq_is, lt_of}
use Rattle.nn_postponed.proofs.Counting.{joined_first}
use Rattle.nn_postponed.proofs.Links.{in_places, own_of, all_about_it}

-- ---- Along the places.

module _ (dn : ℕ) (due : Message → Bool) where
  pub run_skip : (xs : Slots) (p n : ℕ) → p ≤ n → ((q : ℕ) → p ≤ q → q < n → is_of dn (slot xs q) ≡ false) → due_run dn due (present (drop p xs)) ≡ due_run dn due (present (drop n xs))
  run_skip [] zero zero le none = refl
  run_skip [] zero (suc n) le none = refl
  run_skip [] (suc p) zero le none = refl
  run_skip [] (suc p) (suc n) le none = refl
  run_skip (x ∷ xs) zero zero le none = refl
  run_skip (x ∷ xs) (suc p) zero le none = absurd (omega (arith, le))
  run_skip (x ∷ xs) (suc p) (suc n) le none = run_skip xs p n (omega (arith, le)) (λ q low high. none (suc q) (omega (arith, low)) (omega (arith, high)))
  run_skip (None ∷ xs) zero (suc n) le none = run_skip xs zero n (omega arith) (λ q low high. none (suc q) (omega arith) (omega (arith, high)))
  run_skip (Some m ∷ xs) zero (suc n) le none =
      cond-false (m.dn == dn) (cond (due m) (due_run dn due (present xs) + 1) 0) (due_run dn due (present xs)) (none zero (omega arith) (omega arith))
      ∙ run_skip xs zero n (omega arith) (λ q low high. none (suc q) (omega arith) (omega (arith, high)))

  pub run_end : (xs : Slots) (p : ℕ) → NoneBehind dn xs p → due_run dn due (present (drop (p + 1) xs)) ≡ 0
  run_end xs p none = run_skip xs (p + 1) (p + 1 + length xs) (omega arith) (λ q low high. none q (omega (arith, low)))
      ∙ ap (λ l. due_run dn due (present l)) (drop_all (p + 1 + length xs) xs (omega arith))

  pub run_here : (xs : Slots) (p : ℕ) (m : Message) → slot xs p ≡ Some m → m.dn ≡ dn → due m ≡ true → due_run dn due (present (drop p xs)) ≡ due_run dn due (present (drop (p + 1) xs)) + 1
  run_here xs p m here own is =
      ap (due_run dn due) (one_left xs p None (in_places xs p m here) m here)
      ∙ cond-true (m.dn == dn) (cond (due m) (due_run dn due (present (drop (p + 1) xs)) + 1) 0) (due_run dn due (present (drop (p + 1) xs))) (eq-eqb m.dn dn own)
      ∙ cond-true (due m) (due_run dn due (present (drop (p + 1) xs)) + 1) 0 is

  pub run_stops : (xs : Slots) (p : ℕ) (m : Message) → slot xs p ≡ Some m → m.dn ≡ dn → due m ≡ false → due_run dn due (present (drop p xs)) ≡ 0
  run_stops xs p m here own is =
      ap (due_run dn due) (one_left xs p None (in_places xs p m here) m here)
      ∙ cond-true (m.dn == dn) (cond (due m) (due_run dn due (present (drop (p + 1) xs)) + 1) 0) (due_run dn due (present (drop (p + 1) xs))) (eq-eqb m.dn dn own)
      ∙ cond-false (due m) (due_run dn due (present (drop (p + 1) xs)) + 1) 0 is

-- ---- What goes of a DataNode.

module _ (b : ℕ) (due : Message → Bool) where
  same_dn : (x : Message) (s : List Message) → x.block ≡ b → AreAbout b s → list_any (same_source x) s ≡ list_any (λ e. e.dn == x.dn) s
  same_dn x [] own about = refl
  same_dn x (e ∷ s) own about =
      let parts = and_parts (e.block == b) (list_all (λ z. z.block == b) s) about in
      let block : (e.block == x.block) ≡ true = eq-eqb e.block x.block (eqb-true e.block b parts.0 ∙ sym own) in
      ap (λ t. ((e.dn == x.dn) && t) || list_any (same_source x) s) block ∙ ap (λ t. t || list_any (same_source x) s) (and_one (e.dn == x.dn)) ∙ ap (λ t. (e.dn == x.dn) || t) (same_dn x s own parts.1)
    where
      and_one : (w : Bool) → (w && true) ≡ w
      and_one true = refl
      and_one false = refl

  one_of : (x : Message) (ms : List Message) (dn : ℕ) → x.dn ≡ dn → held_from dn (x ∷ ms) ≡ held_from dn ms + 1
  one_of x ms dn own = joined_first x ms dn ∙ ap (λ t. held_from dn ms + cond t 1 0) (eq-eqb x.dn dn own)

  none_of_it : (x : Message) (ms : List Message) (dn : ℕ) → x.dn ≢ dn → held_from dn (x ∷ ms) ≡ held_from dn ms
  none_of_it x ms dn other = joined_first x ms dn ∙ ap (λ t. held_from dn ms + cond t 1 0) (ne_eqb x.dn dn other) ∙ (let e : held_from dn ms + 0 ≡ held_from dn ms = omega arith in e)

  -- one of its messages waits: none goes
  stuck_runs : (dn : ℕ) (s ms : List Message) → AreAbout b s → AreAbout b ms → list_any (λ e. e.dn == dn) s ≡ true → held_from dn (freed due s ms) ≡ 0
  stuck_runs dn s [] held about has = refl
  stuck_runs dn s (x ∷ ms) held about has =
      let parts = and_parts (x.block == b) (list_all (λ z. z.block == b) ms) about in
      elim (must_wait due s x) as (λ t. must_wait due s x ≡ t → held_from dn (cond t (freed due (x ∷ s) ms) (x ∷ freed due s ms)) ≡ 0) [
        | true ↦ λ is. stuck_runs dn (x ∷ s) ms (and_from (x.block == b) (list_all (λ z. z.block == b) s) parts.0 held) parts.1 (or_right (x.dn == dn) (list_any (λ e. e.dn == dn) s) has)
        | false ↦ λ is. none_of_it x (freed due s ms) dn (λ own. both_ways _ is (or_right (not (due x)) (list_any (same_source x) s)
            (same_dn x s (eqb-true x.block b parts.0) held ∙ ap (λ k. list_any (λ e. e.dn == k) s) own ∙ has))) ∙ stuck_runs dn s ms held parts.1 has
      ] refl

  free_runs : (dn : ℕ) (s ms : List Message) → AreAbout b s → AreAbout b ms → list_any (λ e. e.dn == dn) s ≡ false → held_from dn (freed due s ms) ≡ due_run dn due ms
  free_runs dn s [] held about none = refl
  free_runs dn s (x ∷ ms) held about none =
      let parts = and_parts (x.block == b) (list_all (λ z. z.block == b) ms) about in
      let more = and_from (x.block == b) (list_all (λ z. z.block == b) s) parts.0 held in
      elim (cases_Bool (x.dn == dn)) [
        | inl own ↦
            let same = eqb-true x.dn dn own in
            let first : list_any (same_source x) s ≡ false = same_dn x s (eqb-true x.block b parts.0) held ∙ ap (λ k. list_any (λ e. e.dn == k) s) same ∙ none in
            elim (cases_Bool (due x)) [
              | inl is ↦
                  cond-false-of (or_from (not (due x)) (list_any (same_source x) s) (not_from_true (due x) is) first)
                  ∙ one_of x (freed due s ms) dn same ∙ ap (λ k. k + 1) (free_runs dn s ms held parts.1 none)
                  ∙ sym (cond-true (x.dn == dn) (cond (due x) (due_run dn due ms + 1) 0) (due_run dn due ms) own ∙ cond-true (due x) (due_run dn due ms + 1) 0 is)
              | inr late ↦
                  cond-true-of (or_left (not (due x)) (list_any (same_source x) s) (not_from_false (due x) late))
                  ∙ stuck_runs dn (x ∷ s) ms more parts.1 (or_left (x.dn == dn) (list_any (λ e. e.dn == dn) s) own)
                  ∙ sym (cond-true (x.dn == dn) (cond (due x) (due_run dn due ms + 1) 0) (due_run dn due ms) own ∙ cond-false (due x) (due_run dn due ms + 1) 0 late)
            ]
        | inr other ↦
            elim (must_wait due s x) as (λ t. held_from dn (cond t (freed due (x ∷ s) ms) (x ∷ freed due s ms)) ≡ due_run dn due ms) [
              | true ↦ free_runs dn (x ∷ s) ms more parts.1 (or_from (x.dn == dn) (list_any (λ e. e.dn == dn) s) other none)
              | false ↦ none_of_it x (freed due s ms) dn (eqb-false x.dn dn other) ∙ free_runs dn s ms held parts.1 none
            ]
            ∙ sym (cond-false (x.dn == dn) (cond (due x) (due_run dn due ms + 1) 0) (due_run dn due ms) other)
      ]
    where
      cond-false-of : must_wait due s x ≡ false → held_from dn (cond (must_wait due s x) (freed due (x ∷ s) ms) (x ∷ freed due s ms)) ≡ held_from dn (x ∷ freed due s ms)
      cond-false-of is = ap (held_from dn) (cond-false (must_wait due s x) (freed due (x ∷ s) ms) (x ∷ freed due s ms) is)

      cond-true-of : must_wait due s x ≡ true → held_from dn (cond (must_wait due s x) (freed due (x ∷ s) ms) (x ∷ freed due s ms)) ≡ held_from dn (freed due (x ∷ s) ms)
      cond-true-of is = ap (held_from dn) (cond-true (must_wait due s x) (freed due (x ∷ s) ms) (x ∷ freed due s ms) is)

-- ---- Over all DataNodes.

abbrev pub over : (ℕ → ℕ) → List (ℕ × Ends) → ℕ
over f [] = 0
over f (e ∷ es) = f e.0 + over f es

abbrev pub all_runs : (Message → Bool) → List Message → List (ℕ × Ends) → ℕ
all_runs due ms es = over (λ dn. due_run dn due ms) es

same_over : (f g : ℕ → ℕ) (es : List (ℕ × Ends)) → ((dn : ℕ) → f dn ≡ g dn) → over f es ≡ over g es
same_over f g [] same = refl
same_over f g (e ∷ es) same = (let here = same e.0 in let rest = same_over f g es same in omega (arith, here, rest))

added_over : (f g h : ℕ → ℕ) (es : List (ℕ × Ends)) → ((dn : ℕ) → f dn ≡ g dn + h dn) → over f es ≡ over g es + over h es
added_over f g h [] sum = refl
added_over f g h (e ∷ es) sum = (let here = sum e.0 in let rest = added_over f g h es sum in omega (arith, here, rest))

abbrev Above : ℕ → List (ℕ × Ends) → Type 0
Above k [] = Unit {0}
Above k (e ∷ es) = (k < e.0) × Above k es

abbrev pub Rise : List (ℕ × Ends) → Type 0
Rise [] = Unit {0}
Rise (e ∷ es) = Above e.0 es × Rise es

above_all : (k : ℕ) (es : List (ℕ × Ends)) → AllByRecursion (λ j. nat_cmp k j ≡ Less) (keys_of es) → Above k es
above_all k [] h = tt
above_all k (e ∷ es) h = (lt_of k e.0 h.0, above_all k es h.1)

pub rise_of : (es : List (ℕ × Ends)) → IsStrictlySortedBy nat_cmp (keys_of es) → Rise es
unfolding IsStrictlySortedBy
rise_of [] h = tt
rise_of (e ∷ es) h = (above_all e.0 es h.0, rise_of es h.1)

value_here : (e : ℕ × Ends) (es : List (ℕ × Ends)) → value_at nat_cmp (e ∷ es) e.0 ≡ Some e.1
value_here e es = ap (λ t. cond t (Some e.1) (value_at nat_cmp es e.0)) (eq_is e.0 e.0 ∙ eq-eqb e.0 e.0 refl)

value_later : (k : ℕ) (e : ℕ × Ends) (es : List (ℕ × Ends)) → k ≢ e.0 → value_at nat_cmp (e ∷ es) k ≡ value_at nat_cmp es k
value_later k e es other = ap (λ t. cond t (Some e.1) (value_at nat_cmp es k)) (eq_is k e.0 ∙ ne_eqb k e.0 other)

none_above : (k : ℕ) (es : List (ℕ × Ends)) → Above k es → value_at nat_cmp es k ≡ None
none_above k [] above = refl
none_above k (e ∷ es) above = (let lt = above.0 in value_later k e es (λ same. omega (arith, lt, same)) ∙ none_above k es above.1)

abbrev pub AllEnds : Slots → List (ℕ × Ends) → Type 0
AllEnds slots [] = Unit {0}
AllEnds slots (e ∷ es) = AreEnds e.0 slots e.1 × AllEnds slots es

all_ends : (slots : Slots) (es : List (ℕ × Ends)) → Rise es → ((k : ℕ) (v : Ends) → value_at nat_cmp es k ≡ Some v → AreEnds k slots v) → AllEnds slots es
all_ends slots [] rise fit = tt
all_ends slots (e ∷ es) rise fit = (
  fit e.0 e.1 (value_here e es),
  all_ends slots es rise.1 (λ k v found. fit k v (value_later k e es (λ same. (let none = none_above e.0 es rise.0 in let x : Some v ≡ None = sym found ∙ ap (value_at nat_cmp es) same ∙ none in absurd (cc))) ∙ found)),
)

pub ends_listed : (b : ℕ) (slots : Slots) (next : List ℕ) (es : List (ℕ × Ends)) (stamps : List ℕ) → AreLinked b slots next es stamps → IsStrictlySortedBy nat_cmp (keys_of es) → AllEnds slots es
ends_listed b slots next es stamps old sorted = all_ends slots es (rise_of es sorted) (λ k v found. subst (HasEnds k slots) found (old.has_ends k))

-- each message's DataNode is a key
abbrev Keyed : List (ℕ × Ends) → List Message → Type 0
Keyed es [] = Unit {0}
Keyed es (m ∷ ms) = (is_some (value_at nat_cmp es m.dn) ≡ true) × Keyed es ms

keyed_freed : (es : List (ℕ × Ends)) (due : Message → Bool) (s ms : List Message) → Keyed es ms → Keyed es (freed due s ms)
keyed_freed es due s [] keyed = tt
keyed_freed es due s (x ∷ ms) keyed = elim (must_wait due s x) as (λ t. Keyed es (cond t (freed due (x ∷ s) ms) (x ∷ freed due s ms))) [
  | true ↦ keyed_freed es due (x ∷ s) ms keyed.1
  | false ↦ (keyed.0, keyed_freed es due s ms keyed.1)
]

keyed_slots : (es : List (ℕ × Ends)) (xs : Slots) → ((q : ℕ) (m : Message) → slot xs q ≡ Some m → is_some (value_at nat_cmp es m.dn) ≡ true) → Keyed es (present xs)
keyed_slots es [] keys = tt
keyed_slots es (None ∷ xs) keys = keyed_slots es xs (λ q m. keys (suc q) m)
keyed_slots es (Some m ∷ xs) keys = (keys zero m refl, keyed_slots es xs (λ q x. keys (suc q) x))

zeros : (dn : ℕ) (es : List (ℕ × Ends)) → Above dn es → over (λ k. cond (dn == k) 1 0) es ≡ 0
zeros dn [] above = refl
zeros dn (e ∷ es) above =
    (let lt = above.0 in let here = ap {B = ℕ} (λ t. cond t 1 0) (ne_eqb dn e.0 (λ same. omega (arith, lt, same))) in let rest = zeros dn es above.1 in omega (arith, here, rest))

ones : (dn : ℕ) (es : List (ℕ × Ends)) → Rise es → is_some (value_at nat_cmp es dn) ≡ true → over (λ k. cond (dn == k) 1 0) es ≡ 1
ones dn [] rise key = absurd (both_ways _ refl key)
ones dn (e ∷ es) rise key = elim (cases_Bool (dn == e.0)) [
  | inl same ↦
      let here = ap {B = ℕ} (λ t. cond t 1 0) same in
      let rest = zeros dn es (subst (λ k. Above k es) (sym (eqb-true dn e.0 same)) rise.0) in omega (arith, here, rest)
  | inr other ↦
      let here = ap {B = ℕ} (λ t. cond t 1 0) other in
      let rest = ones dn es rise.1 (ap is_some (sym (value_later dn e es (eqb-false dn e.0 other))) ∙ key) in omega (arith, here, rest)
]

all_zero : (es : List (ℕ × Ends)) → over (λ k. 0) es ≡ 0
all_zero [] = refl
all_zero (e ∷ es) = omega (arith, all_zero es)

all_counted : (es : List (ℕ × Ends)) (ms : List Message) → Rise es → Keyed es ms → over (λ k. held_from k ms) es ≡ length ms
all_counted es [] rise keyed = all_zero es
all_counted es (m ∷ ms) rise keyed =
    let split = added_over (λ k. held_from k (m ∷ ms)) (λ k. held_from k ms) (λ k. cond (m.dn == k) 1 0) es (λ k. joined_first m ms k) in
    let rest = all_counted es ms rise keyed.1 in
    let one = ones m.dn es rise keyed.0 in omega (arith, split, rest, one)

pub runs_count : (b : ℕ) (xs : Slots) (next : List ℕ) (es : List (ℕ × Ends)) (stamps : List ℕ) (due : Message → Bool) → AreLinked b xs next es stamps → IsStrictlySortedBy nat_cmp (keys_of es)
    → all_runs due (present xs) es ≡ length (freed due [] (present xs))
runs_count b xs next es stamps due old sorted =
    let rise = rise_of es sorted in
    let keyed = keyed_slots es xs (λ q m here. key m.dn (value_at nat_cmp es m.dn) (old.has_ends m.dn) q (own_of (slot xs q) m here)) in
    same_over (λ k. due_run k due (present xs)) (λ k. held_from k (freed due [] (present xs))) es (λ k. sym (free_runs b due k [] (present xs) refl (all_about_it b xs old.about) refl))
    ∙ all_counted es (freed due [] (present xs)) rise (keyed_freed es due [] (present xs) keyed)
  where
    key : (dn : ℕ) (v : Option Ends) → HasEnds dn xs v → (q : ℕ) → is_of dn (slot xs q) ≡ true → is_some v ≡ true
    key dn None has q own = absurd (both_ways _ (has q) own)
    key dn (Some e) has q own = refl

-- one DataNode of those that are left
pub one_run : (due : Message → Bool) (xs : Slots) (left rest : List (ℕ × Ends)) (k : ℕ) (e : Ends) (r : ℕ) → left ≡ (k, e) ∷ rest → AllEnds xs left
    → ((dn : ℕ) → is_of dn (slot xs e.first) ≡ true → r ≡ due_run dn due (present (drop e.first xs))) → (r + all_runs due (present xs) rest ≡ all_runs due (present xs) left) × AllEnds xs rest
one_run due xs left rest k e r is fit run =
    let both : AllEnds xs ((k, e) ∷ rest) = subst (AllEnds xs) is fit in
    let here = run k both.0.first in
    let skip = run_skip k due xs 0 e.first (omega arith) (λ q low high. both.0.before q high) in
    let all = ap (all_runs due (present xs)) is in (omega (arith, here, skip, all), both.1)
