use Rattle.std.proofs.Common.{length, refl, ap, ◌∙◌, arith}
use Rattle.serde_json.specs.Data.{boolean, number, string, unsigned}
use Rattle.nn_plain.specs.Ahead.{data_at}
use Rattle.nn_plain.proofs.FirstValue.{bool_ahead, number_ahead, string_ahead}
use Rattle.nn_plain.proofs.line.put_scalar.Goals as goal

pub returns-then-first-eq34 : goal.returns-then-first-eq34
returns-then-first-eq34 g c = λ _.
    let e = c.in-Some.ensures in
    let d = string c.in-Some.text.now in (
      d,
      λ depth. ap (data_at depth) e ∙ string_ahead depth c.in-Some.text.now c.text.new.self,
      omega (arith, ap length e),
      λ key ms named seen. c.put.ensures key ms d named refl seen,
    )

pub returns-then-first-le57 : goal.returns-then-first-le57
returns-then-first-le57 g c = λ _.
    let w = c.in-Some-whole.ensures in
    let d = number (unsigned c.in-Some-whole.number) in (
      d,
      λ depth. ap (data_at depth) w.1 ∙ number_ahead depth w.0 c.whole.new.self ∙ rw w.2 refl,
      omega (arith, ap length w.1),
      λ key ms named seen. c.put-then-first-le57.ensures key ms d named refl seen,
    )

pub returns : goal.returns
returns g c = λ _.
    let e = c.in-Some-truth.ensures in
    let d = boolean c.in-Some-truth.truth in (
      d,
      λ depth. ap (data_at depth) e ∙ bool_ahead depth c.in-Some-truth.truth c.truth.new.self,
      omega (arith, ap length e),
      λ key ms named seen. c.put-2.ensures key ms d named refl seen,
    )
