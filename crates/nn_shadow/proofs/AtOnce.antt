-- Messages about different blocks, taken in one after another: all that wait may be held first, and the others are processed then.
use Rattle.std.proofs.Common.{◌≡◌, ℕ, zero, suc, ◌<◌, length, get_or, arith, Bool, true, false, cond, not, List, [], ◌∷◌, map, refl, sym, ap, ◌∙◌, append_assoc, append-nil}
use Rattle.std.specs.Prelude.{◌==◌, ◌||◌, filter}
use Rattle.std.specs.List.{list_any}
use Rattle.std.proofs.lemmas.Bool.{or_parts, or_from, or_left, and_right, and_from, eq-eqb, ne_eqb, both_ways}
use Rattle.nn_types.specs.declared.report.Message.{Message}
use Rattle.nn_types.specs.declared.event.Cause.TheVariants.{Due}
use Rattle.nn_model.specs.History.{processed}
use Rattle.nn_model.specs.Stands.{StandbyState}
use Rattle.nn_postponed.specs.Queues.{queued, all_queued}
use Rattle.nn_postponed.specs.Release.{same_source, must_wait}
use Rattle.nn_postponed.proofs.Orders.{any_queued, any_all}
use Rattle.nn_shadow.specs.Calls.{is_due_in, processing, waits, all_taken_in}
use Rattle.nn_shadow.specs.Items.{taken_at_once, free_of, stuck_of}
use Rattle.nn_shadow.specs.Steps.{AreApart, not_held}
use Rattle.nn_model.specs.Namespace.{Namespace}

-- whether a message waits does not depend on one about another block
wait_alike : (due : Message → Bool) (held : List Message) (x m : Message) → (x.block == m.block) ≡ false → must_wait due (queued x held) m ≡ must_wait due held m
wait_alike due held x m apart =
    ap (λ t. not (due m) || t) (any_queued (same_source m) x held ∙ ap (λ t. t || list_any (same_source m) held) (and_right (x.dn == m.dn) (x.block == m.block) apart))

filter_alike : (p q : Message → Bool) (x : Message) (ms : List Message) → ((m : Message) → (x.block == m.block) ≡ false → p m ≡ q m) →
    list_any (λ m. x.block == m.block) ms ≡ false → filter p ms ≡ filter q ms
filter_alike p q x [] same apart = refl
filter_alike p q x (m ∷ ms) same apart =
    let parts = or_parts (x.block == m.block) (list_any (λ y. x.block == y.block) ms) apart in
    (λ j. cond (same m parts.0 j) (m ∷ filter_alike p q x ms same parts.1 j) (filter_alike p q x ms same parts.1 j))

pub at_once : (x : StandbyState) (ms : List Message) → AreApart ms → all_taken_in x ms ≡ taken_at_once x ms
at_once x [] apart = ap (λ h. record x { history = h }) (sym (append-nil x.history))
at_once x (m ∷ ms) apart =
    elim (waits x m) as (λ t. all_taken_in (cond t (record x { held = queued m x.held }) (processing Due (m ∷ []) x)) ms ≡
    processing Due (cond (not t) (m ∷ filter (λ y. not (waits x y)) ms) (filter (λ y. not (waits x y)) ms))
    (record x { held = all_queued x.held (cond t (m ∷ filter (waits x) ms) (filter (waits x) ms)) })) [
      | true ↦
          let y : StandbyState = record x { held = queued m x.held } in
          let alike = wait_alike (is_due_in x.namespace) x.held m in
          at_once y ms apart.1
          ∙ (λ j. processing Due (filter_alike (λ k. not (waits y k)) (λ k. not (waits x k)) m ms (λ k a. ap not (alike k a)) apart.0 j)
          (record x { held = all_queued (queued m x.held) (filter_alike (waits y) (waits x) m ms alike apart.0 j) }))
      | false ↦
          let y : StandbyState = processing Due (m ∷ []) x in
          let taken = filter (λ k. not (waits x k)) ms in
          at_once y ms apart.1
          ∙ ap (λ h. record (processing Due (m ∷ taken) (record x { held = all_queued x.held (filter (waits x) ms) })) { history = h })
          (append_assoc x.history (processed Due m ∷ []) (map (processed Due) taken))
    ]

none_left : (p : Message → Bool) (w : Message → Bool) (ms : List Message) → list_any p ms ≡ false → list_any p (filter w ms) ≡ false
none_left p w [] none = refl
none_left p w (k ∷ ms) none =
    let parts = or_parts (p k) (list_any p ms) none in
    elim (w k) as (λ t. list_any p (cond t (k ∷ filter w ms) (filter w ms)) ≡ false) [
      | true ↦ or_from (p k) (list_any p (filter w ms)) parts.0 (none_left p w ms parts.1)
      | false ↦ none_left p w ms parts.1
    ]

none_of_source : (m : Message) (ms : List Message) → list_any (λ y. m.block == y.block) ms ≡ false → list_any (same_source m) ms ≡ false
none_of_source m [] none = refl
none_of_source m (y ∷ ms) none =
    let parts = or_parts (m.block == y.block) (list_any (λ z. m.block == z.block) ms) none in
    or_from (same_source m y) (list_any (same_source m) ms) (and_right (y.dn == m.dn) (y.block == m.block)
    (ne_eqb y.block m.block (λ e. both_ways _ parts.0 (eq-eqb m.block y.block (sym e))))) (none_of_source m ms parts.1)

is_own : (m : Message) → same_source m m ≡ true
is_own m = and_from (m.dn == m.dn) (m.block == m.block) (eq-eqb m.dn m.dn refl) (eq-eqb m.block m.block refl)

own_alone : (w : Message → Bool) (ms : List Message) (i : ℕ) (m : Message) → AreApart ms → i < length ms → m ≡ get_or ms i m → list_any (same_source m) (filter w ms) ≡ w m
own_alone w [] i m apart lt got = absurd (omega (arith, lt))
own_alone w (k ∷ ms) zero m apart lt got =
    let none : list_any (same_source m) (filter w ms) ≡ false = none_left (same_source m) w ms (none_of_source m ms (ap (λ (y : Message). list_any (λ z. y.block == z.block) ms) got ∙ apart.0)) in
    ap (λ y. list_any (same_source m) (cond (w y) (y ∷ filter w ms) (filter w ms))) (sym got)
    ∙ (elim (w m) as (λ t. list_any (same_source m) (cond t (m ∷ filter w ms) (filter w ms)) ≡ t) [
      | true ↦ or_left (same_source m m) (list_any (same_source m) (filter w ms)) (is_own m)
      | false ↦ none
    ])
own_alone w (k ∷ ms) (suc i) m apart lt got =
    let later = own_alone w ms i m apart.1 (omega (arith, lt)) got in
    let other : same_source m k ≡ false = and_right (k.dn == m.dn) (k.block == m.block) (apart_at (λ z. k.block == z.block) ms i m (omega (arith, lt)) got apart.0) in
    (elim (w k) as (λ t. list_any (same_source m) (cond t (k ∷ filter w ms) (filter w ms)) ≡ w m) [
      | true ↦ ap (λ t. t || list_any (same_source m) (filter w ms)) other ∙ later
      | false ↦ later
    ])
  where
    apart_at : (p : Message → Bool) (xs : List Message) (j : ℕ) (y : Message) → j < length xs → y ≡ get_or xs j y → list_any p xs ≡ false → p y ≡ false
    apart_at p [] j y l g none = absurd (omega (arith, l))
    apart_at p (x ∷ xs) zero y l g none = ap p g ∙ (or_parts (p x) (list_any p xs) none).0
    apart_at p (x ∷ xs) (suc j) y l g none = apart_at p xs j y (omega (arith, l)) g (or_parts (p x) (list_any p xs) none).1

-- once all that wait are held, one of them is held where it had to wait
asked_again : (due : Message → Bool) (held ms : List Message) (i : ℕ) (m : Message) → AreApart ms → i < length ms → m ≡ get_or ms i m →
    list_any (same_source m) (all_queued held (filter (must_wait due held) ms)) ≡ must_wait due held m
asked_again due held ms i m apart lt got =
    any_all (same_source m) held (filter (must_wait due held) ms)
    ∙ ap (λ t. t || list_any (same_source m) held) (own_alone (must_wait due held) ms i m apart lt got)
    ∙ again (not (due m)) (list_any (same_source m) held)
  where
    again : (a b : Bool) → ((a || b) || b) ≡ (a || b)
    again true b = refl
    again false true = refl
    again false false = refl

filter_at : (p q : Message → Bool) (ms : List Message) → ((i : ℕ) (m : Message) → i < length ms → m ≡ get_or ms i m → p m ≡ q m) → filter p ms ≡ filter q ms
filter_at p q [] same = refl
filter_at p q (m ∷ ms) same =
    let rest = filter_at p q ms (λ i y lt got. same (suc i) y (omega (arith, lt)) got) in
    (λ j. cond (same zero m (omega arith) refl j) (m ∷ rest j) (rest j))

-- so those that are not held then are those that need not wait
pub free_then : (n : Namespace) (held ms : List Message) → AreApart ms → not_held (all_queued held (stuck_of n held ms)) ms ≡ free_of n held ms
free_then n held ms apart =
    filter_at (λ i. not (list_any (same_source i) (all_queued held (stuck_of n held ms)))) (λ i. not (must_wait (is_due_in n) held i)) ms
    (λ i m lt got. ap not (asked_again (is_due_in n) held ms i m apart lt got))
