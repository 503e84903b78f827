-- The steps of the two ends, each of which may hold the slot of its next message.
use Rattle.std.proofs.Common.{◌≡◌, ℕ, ◌+◌, ◌*◌, ◌%◌, ◌≤◌, [], ◌∷◌, length, Option, Some, None, Bool, true, false, refl, sym, ap, ap₂, ◌∙◌, subst, arith}
use Rattle.std.specs.Prelude.{◌==◌, bit_or}
use mathlib.Core.Option.{some, none}
use prog.Atomic.{either}
use Rattle.atomic_table.specs.Table.{step, Allows, rest}
use Rattle.atomic_table.specs.declared.shared.Seat.{Seat}
use Rattle.nn_types.specs.declared.report.Message.{Message}
use Rattle.nn_lane.specs.declared.view.View.{View}
use Rattle.nn_lane.specs.Lane.{Lane, saw_taken, saw_closed, gave_back, accepted, shut, saw_front}
use Rattle.nn_lane.specs.Intake.{front_word, taken_word}
use Rattle.nn_lane.specs.Parts.{Ready, KnowsRoom, KnowsNext}
use Rattle.nn_lane.proofs.Steps.{HoldsNext, HoldsFirst, loads_taken, loads_closed, gives_taken, exchanges, shuts_front, loads_front}

module _ (node slots : ℕ) (seat : Seat Message View) (count limit : ℕ) (same : seat.table_id.slots ≡ slots) (long : count ≡ length seat.me.0.sender.sent) where
  pub holds_next : (o : Bool) → KnowsRoom o seat count limit → HoldsNext node slots seat.id seat.me.0 o seat.me.1
  holds_next true h = (h.2.0, h.2.1 ∙ (λ i. (ap₂ (λ (a b : ℕ). a % b) long same i, h.2.0) ∷ sym (ap rest h.2.1) i))
  holds_next false h = tt

  pub loads : KnowsRoom seat.me.0.sender.out seat count limit → seat.me.0.sends ≡ true → seat.me.0.takes ≡ false → Allows (Lane node) slots seat.id seat.me taken_word (λ n. n) (saw_taken (step slots taken_word 0 0 none) seat.me)
  loads h on off = loads_taken node slots seat.id seat.me.0 seat.me.1 on off (holds_next seat.me.0.sender.out h)

  pub gives : KnowsRoom seat.me.0.sender.out seat count limit → seat.me.0.sends ≡ true → seat.me.0.takes ≡ false → Allows (Lane node) slots seat.id seat.me taken_word (λ n. n) (gave_back (step slots taken_word 0 0 none) seat.me)
  gives h on off = gives_taken node slots seat.id seat.me.0 seat.me.1 on off (holds_next seat.me.0.sender.out h)

  pub publishes : (x : Message) → Ready (Some x) seat count → seat.me.0.sends ≡ true → seat.me.0.takes ≡ false
      → Allows (Lane node) slots seat.id seat.me front_word (λ n. either (n == 2 * count) (2 * count + 2) n) (accepted (step slots front_word (2 * count) (2 * count + 2) (some x)) seat.me)
  publishes x h on off = subst (λ cs. Allows (Lane node) slots seat.id (seat.me.0, cs) front_word (λ n. either (n == 2 * count) (2 * count + 2) n) (accepted (step slots front_word (2 * count) (2 * count + 2) (some x)) (seat.me.0, cs)))
      (sym (h.1 ∙ (λ i. (ap₂ (λ (a b : ℕ). a % b) long same i, x) ∷ [])))
      (exchanges node slots seat.id seat.me.0 [] x (2 * count) (2 * count + 2) on off h.0 (h.2 ∙ ap (λ z. z + 1) long) h.3 (ap (λ z. 2 * z) long) (ap (λ z. 2 * z + 2) long))

module _ (node slots : ℕ) (seat : Seat Message View) (count : ℕ) (same : seat.table_id.slots ≡ slots) (long : count ≡ length seat.me.0.taker.got) where
  pub holds_first : (o : Option Message) → KnowsNext o seat count → HoldsFirst node slots seat.id seat.me.0 o seat.me.1
  holds_first None h = tt
  holds_first (Some x) h = (h.1 ∙ (λ i. (ap₂ (λ (a b : ℕ). a % b) long same i, x) ∷ sym (ap rest h.1) i), h.2 ∙ ap (λ z. z + 1) long, h.3)

  pub shuts : KnowsNext seat.me.0.taker.next seat count → seat.me.0.sends ≡ false → seat.me.0.takes ≡ true → Allows (Lane node) slots seat.id seat.me front_word (λ n. bit_or n 1) (shut (step slots front_word 1 0 none) seat.me)
  shuts h off on = shuts_front node slots seat.id seat.me.0 seat.me.1 off on (holds_first seat.me.0.taker.next h)

  pub looks : KnowsNext seat.me.0.taker.next seat count → seat.me.0.taker.seen ≤ count → seat.me.0.sends ≡ false → seat.me.0.takes ≡ true → Allows (Lane node) slots seat.id seat.me front_word (λ n. n) (saw_front (step slots front_word 0 0 none) seat.me)
  looks h low off on = loads_front node slots seat.id seat.me.0 seat.me.1 off on (none_out seat.me.0.taker.next h)
    where
      none_out : (o : Option Message) → KnowsNext o seat count → o ≡ None
      none_out None h = refl
      none_out (Some x) h = absurd (let lt = h.0 in omega arith)

-- the reporter looks for a close, whatever it holds
pub checks : (node slots : ℕ) (seat : Seat Message View) → seat.me.0.sends ≡ true → seat.me.0.takes ≡ false → Allows (Lane node) slots seat.id seat.me front_word (λ n. n) (saw_closed (step slots front_word 0 0 none) seat.me)
checks node slots seat on off = loads_closed node slots seat.id seat.me.0 seat.me.1 on off

-- a reporter that wrote the next message into its slot still holds the slot
pub still_holds : (s s' : Seat Message View) (count limit slot : ℕ) (x : Message) → s'.table_id ≡ s.table_id → s'.me ≡ (s.me.0, (slot, x) ∷ rest s.me.1) → slot ≡ count % s.table_id.slots → s.me.0.sender.out ≡ true → KnowsRoom true s count limit
    → KnowsRoom s'.me.0.sender.out s' count limit
still_holds s s' count limit slot x same is at_slot out h =
    subst (λ o. KnowsRoom o s' count limit) (sym (ap (λ m. m.0.sender.out) is ∙ out)) (
      h.0,
      h.1 ∙ (λ i. (sym is i).0.sender.seen + (sym same i).slots),
      (x, ap (λ m. m.1) is ∙ (λ i. ((at_slot ∙ ap (λ t. count % t.slots) (sym same)) i, x) ∷ rest (h.2.1 i))),
    )
