-- How many digits a number has.
use Rattle.std.proofs.Common.{◌≡◌, ℕ, ◌+◌, ◌/◌, ◌<◌, ◌≤◌, ◌^◌, length, arith}
use Rattle.std.specs.Fmt.{decimal}
use Rattle.itoa.proofs.Decimal.{length_one, length_two, length_pair, length_four}

pub four_fewer : (n count all : ℕ) → 10000 ≤ n → n < 2 ^ 64 → count + length (decimal n) ≡ all → (count + 4) + length (decimal (n / 10000)) ≡ all
four_fewer n count all many small is = omega (arith, length_four n many small, is)

pub three_digits : (n : ℕ) → 100 ≤ n → n < 1000 → 3 ≡ length (decimal n)
three_digits n lo hi = omega (arith, length_pair n lo (omega (arith, hi)), length_one (n / 100) (omega (arith, hi)))

pub four_digits : (n : ℕ) → 1000 ≤ n → n < 10000 → 4 ≡ length (decimal n)
four_digits n lo hi = omega (arith, length_pair n (omega (arith, lo)) (omega (arith, hi)), length_two (n / 100) (omega (arith, lo)) (omega (arith, hi)))

pub none_yet : (n : ℕ) → 0 + length (decimal n) ≡ length (decimal n)
none_yet n = omega arith
