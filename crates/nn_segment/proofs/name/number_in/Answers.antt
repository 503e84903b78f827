use Rattle.std.proofs.Common.{◌≤◌, get_or, refl, subst, lit<, arith}
use Rattle.nn_segment.specs.Name.{digits}
use Rattle.nn_segment.proofs.Digits.{digit_at, fits, more_below, more_spelled}
use Rattle.nn_segment.proofs.name.number_in.Goals as goal
use Rattle.nn_segment.proofs.name.number_in.Goals.{then-b-lt48-via-then-b-lt48, then-b-lt48-via-else-b-lt48+then-b-gt57}

pub loop-b-init : goal.loop-b-init
unfolding digits
loop-b-init c = record { below = lit< tt; spelled = refl }

pub returns-then-b-lt48-clause-none : goal.returns-then-b-lt48-clause-none
returns-then-b-lt48-clause-none c =
    λ n e.
    let text = c.args.text.now in
    let i = c.loop-b.b-index in
    let digit = subst (λ ds. (48 ≤ get_or ds i 0) × (get_or ds i 0 ≤ 57)) e (digit_at 19 n i (omega (arith, c.requires, c.loop-b-test.true))) in
    elim c.then-b-lt48.branch [
      | then-b-lt48-via-then-b-lt48 w ↦ omega (arith, w.if-b-lt48.true, digit)
      | then-b-lt48-via-else-b-lt48+then-b-gt57 w ↦ omega (arith, w.if-b-gt57.true, digit)
    ]

pub overflow_mul-number : goal.overflow_mul-number
overflow_mul-number c =
    omega (arith, fits c.loop-b.number c.loop-b.b-index c.loop-b.invariant.below (omega (arith, c.requires, c.loop-b-test.true)))

pub overflow_add-number : goal.overflow_add-number
overflow_add-number c =
    omega (arith, fits c.loop-b.number c.loop-b.b-index c.loop-b.invariant.below (omega (arith, c.requires, c.loop-b-test.true)), c.from.ensures, c.if-b-gt57.false)

pub loop-b-preserved : goal.loop-b-preserved
loop-b-preserved c = record {
  below = more_below c.loop-b.number c.loop-b.b-index c.from.result c.loop-b.invariant.below (omega (arith, c.from.ensures, c.if-b-gt57.false));
  spelled = more_spelled c.args.text.now c.loop-b.number c.loop-b.b-index c.from.result c.loop-b-test.true c.loop-b.invariant.spelled c.from.ensures c.if-b-lt48.false c.if-b-gt57.false;
}
