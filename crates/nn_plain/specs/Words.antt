-- Digits and keys in a word of eight bytes, the least byte first.
use Rattle.std.specs.Prelude.{◌≡◌, ℕ, ◌<◌, ◌+◌, ◌*◌, ◌/◌, ◌-◌, List, ◌++◌, length, take, replicate}
use Rattle.std.specs.Int.Bits.{bit_and}
use Rattle.std.specs.Simd.Lanes.{number_l, Each1}
use Rattle.std.specs.Str.Parse.{AllDigits, digits_value}

-- The first `count` bytes of a word write `n`, if they are digits.
abbrev pub Writes : ℕ → ℕ → ℕ → Type 0
Writes word count n = (bytes : List ℕ) → word ≡ number_l 256 bytes → length bytes ≡ 8 → AllDigits 10 (take count bytes) → n ≡ digits_value 10 (take count bytes)

-- The word begins with the bytes of a key.
pub record Begins (word : ℕ) (key : List ℕ) : Type 0 where
  pub bytes : List ℕ
  pub value : word ≡ number_l 256 bytes
  pub long : length bytes ≡ 8
  pub small : Each1 (λ b. b < 256) bytes
  pub front : take (length key) bytes ≡ key

-- A key of at most eight bytes as the high bytes of a word.
abbrev pub high_word : List ℕ → ℕ
high_word key = number_l 256 (replicate (8 - length key) 0 ++ key)

-- What eight digits write, each the number of a byte: two by two in lanes of 16 bits, then four by four in lanes of 32.
abbrev pub value_of_pairs : ℕ → ℕ
value_of_pairs digits =
    let pairs = bit_and (digits * 10 + digits / 256) 71777214294589695 in
    let fours = bit_and (pairs * 100 + pairs / 65536) 281470681808895 in
    bit_and (fours * 10000 + fours / 4294967296) 4294967295
