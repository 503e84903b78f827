use Rattle.std.proofs.Common.{sym, arith}
use Rattle.itoa.proofs.Decimal.{length_one, length_two}
use Rattle.nn_text.proofs.Numbers.{three_digits, four_digits}
use Rattle.nn_text.proofs.digits.short_count.Goals as goal

pub returns-then-number-lt10 : goal.returns-then-number-lt10
returns-then-number-lt10 c = record { count = sym (length_one c.args.number c.if-number-lt10.true) }

pub returns-else-number-lt10 : goal.returns-else-number-lt10
returns-else-number-lt10 c = record { count = sym (length_two c.args.number (omega (arith, c.if-number-lt10.false)) c.if-number-lt100.true) }

pub returns-then-number-lt1000 : goal.returns-then-number-lt1000
returns-then-number-lt1000 c = record { count = three_digits c.args.number (omega (arith, c.if-number-lt100.false)) c.if-number-lt1000.true }

pub returns-else-number-lt1000 : goal.returns-else-number-lt1000
returns-else-number-lt1000 c = record { count = four_digits c.args.number (omega (arith, c.if-number-lt1000.false)) c.requires }
