use Rattle.std.proofs.Common.{refl}
use Rattle.nn_plain.proofs.Digits.{value_read, digits_read, number_digits, number_value}
use Rattle.nn_plain.proofs.number.digits_at.Goals as goal

pub returns-clause-number : goal.returns-clause-number
returns-clause-number g c = number_digits _ (digits_read _ _ _ _ c.digits_from-end.ensures.read) (c.if-not-begins_well.ensures refl)

pub returns-clause-value : goal.returns-clause-value
returns-clause-value g c =
    let so = c.digits_from-end.ensures.read in
    number_value _ _ (digits_read _ _ _ _ so) (c.if-not-begins_well.ensures refl) (value_read _ _ _ _ so) c.digits_from-end.ensures.small
