-- Reports come into memory step by step.
use Rattle.std.proofs.Common.{◌≡◌, ◌≢◌, ℕ, zero, suc, ◌+◌, ◌-◌, ◌<◌, ◌≤◌, ◌^◌, Bool, true, false, List, [], ◌∷◌, ◌++◌, length, get_or, set, replicate, refl, sym, ap, ◌∙◌, subst, arith, ⊎_elim}
use Rattle.std.specs.Prelude.{if◌then◌else◌, ◌==◌}
use Rattle.std.specs.List.{All}
use Rattle.std.proofs.lemmas.Bool.{eq-eqb, ne_eqb}
use Rattle.std.proofs.lemmas.Bool.Decides.{eqb_tells}
use Rattle.std.proofs.lemmas.List.{length-set, get_or-set_same, get_or-set_other}
use Rattle.std.proofs.lemmas.List.Elements.{All-head, All-tail}
use Rattle.nn_types.specs.declared.report.Message.{Message}
use Rattle.nn_types.specs.declared.report.Report.{Report}
use Rattle.nn_model.specs.Lanes.{Lanes, no_messages, followed_by}
use Rattle.nn_drive.specs.Reports.{message_of_report, sent_after}
use Rattle.nn_drive.proofs.Sends.{sent_more}
use Rattle.nn_scenario.specs.Steps.{lanes_after, lanes_of_steps, AreNextMessages, IsStepOf}
use Rattle.nn_scenario.specs.declared.steps.Step.{Step}
use Rattle.nn_scenario.specs.declared.steps.Step.TheVariants as step
use Rattle.nn_run.specs.InMemory.{report_of, with_step, AreFew, AreInMemory}

-- the reports of the steps so far are in memory, and these steps are left
pub record Filling (count : ℕ) (all : Lanes) (left : List Step) (sources : List (List Report)) : Type 0 where
  pub lanes : Lanes
  pub in_memory : AreInMemory count lanes sources
  pub in_turn : AreNextMessages lanes left
  pub within : All (IsStepOf count) left
  pub ahead : lanes_after lanes left ≡ all

empty_at : (n i : ℕ) → get_or (replicate {A = List Report} n []) i [] ≡ []
empty_at zero i = refl
empty_at (suc n) zero = refl
empty_at (suc n) (suc i) = empty_at n i

empty_size : (n : ℕ) → length (replicate {A = List Report} n []) ≡ n
empty_size zero = refl
empty_size (suc n) = ap suc (empty_size n)

none_few : (rs : List Report) → rs ≡ [] → length rs ≤ 2 ^ 62
none_few rs e = let q : length rs ≡ 0 = ap length e in omega (arith, q)

pub nothing_in_memory : (count : ℕ) (steps : List Step) (sources : List (List Report)) → sources ≡ replicate count [] → AreNextMessages no_messages steps → All (IsStepOf count) steps
    → Filling count (lanes_of_steps steps) steps sources
nothing_in_memory count steps sources e in_turn within = record {
  lanes = no_messages;
  in_memory = subst (AreInMemory count no_messages) (sym e) (record { size = empty_size count; each = λ i. ap (sent_after (i + 1) []) (empty_at count i); none = refl; few = λ i. none_few _ (empty_at count i) });
  in_turn = in_turn;
  within = within;
  ahead = refl;
}

-- the message's report, sent after those before it, is the message
is_message : (m : Message) (sent : List Message) (dn : ℕ) → m.dn ≡ dn → m.number ≡ length sent + 1 → message_of_report dn sent (report_of m) ≡ m
is_message m sent dn d n = (λ j. record { dn = sym d j; number = sym n j; block = m.block; stamp = m.stamp; len = m.len; kind = m.kind })

chosen : {A : Type 0} (b c : Bool) (x y : A) → b ≡ c → (if b then x else y) ≡ (if c then x else y)
chosen b c x y e = ap (λ z. if z then x else y) e

module _ (count : ℕ) (lanes : Lanes) (m : Message) (sources : List (List Report)) (h : AreInMemory count lanes sources) (known : (1 ≤ m.dn) × (m.dn ≤ count)) (next : m.number ≡ length (lanes m.dn) + 1) where
  -- the reports of the DataNode at this place, and this one
  abbrev grown : List Report
  grown = get_or sources (m.dn - 1) [] ++ report_of m ∷ []

  -- its own lane
  own_lane : (i : ℕ) → i ≡ m.dn - 1 → sent_after (i + 1) [] (get_or (set sources (m.dn - 1) grown) i []) ≡ followed_by lanes m (i + 1)
  own_lane i e =
      let dn : m.dn ≡ i + 1 = omega (arith, e, known.0) in
      let within : m.dn - 1 < length sources = omega (arith, known.0, known.1, h.size) in
      let P : ℕ → Type 0 = λ k. get_or (set sources (m.dn - 1) grown) k [] ≡ grown in
      let there : get_or (set sources (m.dn - 1) grown) i [] ≡ grown = subst P (sym e) (get_or-set_same sources (m.dn - 1) grown [] within) in
      let Q : ℕ → Type 0 = λ k. sent_after (i + 1) [] (get_or sources k []) ≡ lanes (i + 1) in
      let was : sent_after (i + 1) [] (get_or sources (m.dn - 1) []) ≡ lanes (i + 1) = subst Q e (h.each i) in
      let number : m.number ≡ length (lanes (i + 1)) + 1 = next ∙ ap (λ k. length (lanes k) + 1) dn in
      ap (sent_after (i + 1) []) there
      ∙ sent_more (i + 1) [] (get_or sources (m.dn - 1) []) (report_of m)
      ∙ (λ j. was j ++ message_of_report (i + 1) (was j) (report_of m) ∷ [])
      ∙ ap (λ z. lanes (i + 1) ++ z ∷ []) (is_message m (lanes (i + 1)) (i + 1) dn number)
      ∙ sym (chosen ((i + 1) == m.dn) true (lanes (i + 1) ++ m ∷ []) (lanes (i + 1)) (eq-eqb (i + 1) m.dn (sym dn)))

  -- any other
  other_lane : (i : ℕ) → i ≢ m.dn - 1 → sent_after (i + 1) [] (get_or (set sources (m.dn - 1) grown) i []) ≡ followed_by lanes m (i + 1)
  other_lane i apart =
      let dn : i + 1 ≢ m.dn = λ e. apart (omega (arith, e, known.0)) in
      ap (sent_after (i + 1) []) (get_or-set_other sources (m.dn - 1) i grown [] apart)
      ∙ h.each i
      ∙ sym (chosen ((i + 1) == m.dn) false (lanes (i + 1) ++ m ∷ []) (lanes (i + 1)) (ne_eqb (i + 1) m.dn dn))

  each_lane : (i : ℕ) → sent_after (i + 1) [] (get_or (set sources (m.dn - 1) grown) i []) ≡ followed_by lanes m (i + 1)
  each_lane i = ⊎_elim (λ e. own_lane i e.1) (λ e. other_lane i e.1) (eqb_tells i (m.dn - 1))

  no_lane : followed_by lanes m 0 ≡ []
  no_lane = let apart : 0 ≢ m.dn = λ e. let f : ⊥ = omega (arith, e, known.0) in f in chosen (0 == m.dn) false (lanes 0 ++ m ∷ []) (lanes 0) (ne_eqb 0 m.dn apart) ∙ h.none

  pub message_in_memory : AreFew (set sources (m.dn - 1) grown) → AreInMemory count (followed_by lanes m) (set sources (m.dn - 1) grown)
  message_in_memory few = record { size = length-set sources (m.dn - 1) grown ∙ h.size; each = each_lane; none = no_lane; few = few }

pub step_in_memory : (count : ℕ) (all : Lanes) (next : Step) (left : List Step) (sources new : List (List Report)) → new ≡ with_step sources next → (AreFew sources → AreFew new)
    → Filling count all (next ∷ left) sources → Filling count all left new
step_in_memory count all step.Edit left sources new e few h = record {
  lanes = h.lanes;
  in_memory = subst (AreInMemory count h.lanes) (sym e) h.in_memory;
  in_turn = h.in_turn;
  within = All-tail (IsStepOf count) step.Edit left h.within;
  ahead = h.ahead;
}
step_in_memory count all (step.Message m) left sources new e few h = record {
  lanes = followed_by h.lanes m;
  in_memory = subst (AreInMemory count (followed_by h.lanes m)) (sym e) (message_in_memory count h.lanes m sources h.in_memory (All-head (IsStepOf count) (step.Message m) left h.within) h.in_turn.0 (subst AreFew e (few h.in_memory.few)));
  in_turn = h.in_turn.1;
  within = All-tail (IsStepOf count) (step.Message m) left h.within;
  ahead = h.ahead;
}

pub first_within : (count : ℕ) (all : Lanes) (next : Step) (left : List Step) (sources : List (List Report)) → Filling count all (next ∷ left) sources → IsStepOf (length sources) next
first_within count all next left sources h = subst (λ n. IsStepOf n next) (sym h.in_memory.size) (All-head (IsStepOf count) next left h.within)

pub all_in_memory : (count : ℕ) (all : Lanes) (left : List Step) (sources : List (List Report)) → Filling count all left sources → left ≡ [] → AreInMemory count all sources
all_in_memory count all left sources h none = subst (λ ls. AreInMemory count ls sources) (ap (λ s. lanes_after h.lanes s) (sym none) ∙ h.ahead) h.in_memory

-- one list grew to so many
pub still_few : (sources : List (List Report)) (k : ℕ) (rs : List Report) → k < length sources → length rs ≤ 2 ^ 62 → AreFew sources → AreFew (set sources k rs)
still_few sources k rs l n few i =
    let same : i ≡ k → length (get_or (set sources k rs) i []) ≤ 2 ^ 62 = λ e.
    let q : length (get_or (set sources k rs) i []) ≡ length rs = ap (λ j. length (get_or (set sources k rs) j [])) e ∙ ap length (get_or-set_same sources k rs [] l) in omega (arith, q, n) in
    let other : i ≢ k → length (get_or (set sources k rs) i []) ≤ 2 ^ 62 = λ e.
    let q : length (get_or (set sources k rs) i []) ≡ length (get_or sources i []) = ap length (get_or-set_other sources k i rs [] e) in let f = few i in omega (arith, q, f) in
    ⊎_elim (λ e. same e.1) (λ e. other e.1) (eqb_tells i k)
