use Rattle.std.proofs.Common.{length, refl, ap, ◌∙◌, arith}
use Rattle.serde_json.specs.Data.{boolean, number, string, unsigned}
use Rattle.nn_plain.specs.Ahead.{data_at}
use Rattle.nn_plain.proofs.FirstValue.{string_ahead, number_ahead, bool_ahead}
use Rattle.nn_plain.proofs.blocks.plain_scalar.Goals as goal

pub returns-then-first-eq34 : goal.returns-then-first-eq34
returns-then-first-eq34 c =
    let e = c.in_ok-text.ensures in
    (string c.in_ok-text.text.now, λ depth. ap (data_at depth) e ∙ string_ahead depth c.in_ok-text.text.now c.text.new.self, refl, omega (arith, ap length e))

pub returns-then-first-le57 : goal.returns-then-first-le57
returns-then-first-le57 c =
    let w = c.in_ok-number.ensures in
    (number (unsigned c.in_ok-number.number), λ depth. ap (data_at depth) w.1 ∙ number_ahead depth w.0 c.whole.new.self ∙ rw w.2 refl, refl, omega (arith, ap length w.1))

pub returns : goal.returns
returns c =
    let e = c.in_ok-truth.ensures in
    (boolean c.in_ok-truth.truth, λ depth. ap (data_at depth) e ∙ bool_ahead depth c.in_ok-truth.truth c.truth.new.self, refl, omega (arith, ap length e))
