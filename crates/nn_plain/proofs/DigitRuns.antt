-- Digits that a block of 16 bytes begins with, and what they write.
use Rattle.std.proofs.Common.{◌≡◌, ℕ, zero, suc, ◌+◌, ◌-◌, ◌*◌, ◌^◌, ◌<◌, ◌≤◌, Bool, true, false, cond, List, [], ◌∷◌, ◌++◌, length, take, drop, refl, sym, ap, ap₂, ◌∙◌, subst, arith, leb-true, le-ltb, lt-ltb, add-mul, mul_assoc, take-add}
use Rattle.std.specs.List.{prefix_len}
use Rattle.std.specs.Char.{is_ascii_digit, digit_value}
use Rattle.std.specs.Str.Parse.{AllDigits, digits_value, digits_value_after}
use Rattle.std.proofs.Math.Nat.{pow-le-pow_right, pow-succ'}
use Rattle.std.proofs.lemmas.Bool.{and_parts}
use Rattle.std.proofs.lemmas.Nat.{mul-le}
use Rattle.std.proofs.lemmas.Int.Digits.{digits_value-lt}
use Rattle.std.proofs.lemmas.List.{drop-drop, length-drop, length-take-le, take-take}
use lib.Lanes.{number_l}
use Rattle.nn_plain.specs.Bytes.{DigitsRead}
use Rattle.nn_plain.specs.Words.{Writes}

-- ---- They are digits.

digit_ok : (c : ℕ) → is_ascii_digit c ≡ true → digit_value c < 10
digit_ok c e =
    let both = and_parts _ _ e in
    let least = leb-true 48 c both.0 in
    let most = leb-true c 57 both.1 in
    let is : digit_value c ≡ c - 48 = rw (le-ltb c 48 least, lt-ltb c 58 (omega (arith, most))) refl in
    omega (arith, is, least, most)

run_digits : (xs : List ℕ) (k : ℕ) → k ≤ prefix_len is_ascii_digit xs → AllDigits 10 (take k xs)
run_digits xs zero h = tt
run_digits [] (suc k) h = absurd (omega (arith, h))
run_digits (x ∷ xs) (suc k) h = at (is_ascii_digit x) refl (run_digits xs k) (omega (arith, h))
  where
    at : (b : Bool) → is_ascii_digit x ≡ b → (k ≤ prefix_len is_ascii_digit xs → AllDigits 10 (take k xs)) → suc k ≤ cond b (1 + prefix_len is_ascii_digit xs) 0 → AllDigits 10 (take (suc k) (x ∷ xs))
    at true e later l = (digit_ok x e, later (omega (arith, l)))
    at false e later l = absurd (omega (arith, l))

digits_append : (xs ys : List ℕ) → AllDigits 10 xs → AllDigits 10 ys → AllDigits 10 (xs ++ ys)
digits_append [] ys a b = b
digits_append (x ∷ xs) ys a b = (a.0, digits_append xs ys a.1 b)

digits_behind : (xs ys : List ℕ) → AllDigits 10 (xs ++ ys) → AllDigits 10 ys
digits_behind [] ys all = all
digits_behind (x ∷ xs) ys all = digits_behind xs ys all.1

-- ---- What they write.

value_append : (n : ℕ) (xs ys : List ℕ) → digits_value_after 10 n (xs ++ ys) ≡ digits_value_after 10 (digits_value_after 10 n xs) ys
value_append n [] ys = refl
value_append n (x ∷ xs) ys = value_append (n * 10 + digit_value x) xs ys

value_shift : (n : ℕ) (ys : List ℕ) → digits_value_after 10 n ys ≡ n * 10 ^ length ys + digits_value 10 ys
value_shift n [] = omega arith
value_shift n (y ∷ ys) =
    let v = digit_value y in
    value_shift (n * 10 + v) ys ∙ spread n v (10 ^ length ys) (10 ^ suc (length ys)) (digits_value 10 ys) (digits_value_after 10 (0 * 10 + v) ys) (pow-succ' 10 (length ys)) (value_shift (0 * 10 + v) ys)
  where
    spread : (n v q p r s : ℕ) → p ≡ 10 * q → s ≡ (0 * 10 + v) * q + r → (n * 10 + v) * q + r ≡ n * p + s
    spread n v q p r s e f =
        let a : (n * 10 + v) * q ≡ n * 10 * q + v * q = add-mul (n * 10) v q in
        let b : n * 10 * q ≡ n * (10 * q) = mul_assoc n 10 q in
        let c : n * p ≡ n * (10 * q) = ap (λ x. n * x) e in
        let d : (0 * 10 + v) * q ≡ v * q = (let z : 0 * 10 + v ≡ v = omega arith in ap (λ x. x * q) z) in
        omega (arith, a, b, c, d, f)

value_small : (cs : List ℕ) (k : ℕ) → AllDigits 10 cs → length cs ≤ k → digits_value 10 cs < 10 ^ k
value_small cs k all short =
    let ten : 0 < 10 = omega arith in
    omega (arith, digits_value-lt 10 cs all, pow-le-pow_right ten short)

ten_at_most : (m p : ℕ) → m ≤ 8 → p ≡ 10 ^ m → p ≤ 100_000_000
ten_at_most m p most is =
    let ten : 0 < 10 = omega arith in
    omega (arith, is, pow-le-pow_right ten most)

-- ---- A run of a text.

pub run_read : (d : List ℕ) (from m n : ℕ) → AllDigits 10 (take m (drop from d)) → n ≡ digits_value 10 (take m (drop from d)) → DigitsRead d from (from + m) n
run_read d from m n all is =
    let xs = drop from d in
    let on : (from + m) - from ≡ m = omega arith in
    let parts : (k : ℕ) → take m xs ++ take k (drop (from + m) d) ≡ take (((from + m) - from) + k) xs =
    λ k. ap (λ t. take m xs ++ take k t) (sym (drop-drop m from d)) ∙ sym (take-add m k xs) ∙ ap (λ j. take (j + k) xs) (sym on) in
    record {
      value = λ k. ap (λ x. digits_value_after 10 x (take k (drop (from + m) d))) is ∙ sym (value_append 0 (take m xs) (take k (drop (from + m) d))) ∙ ap (digits_value 10) (parts k);
      digits = λ k h. subst (AllDigits 10) (parts k) (digits_append (take m xs) (take k (drop (from + m) d)) all h);
    }

-- What a block's run says of the text that it was loaded from.
pub block_read : (d block : List ℕ) (from count n : ℕ) → block ≡ take 16 (drop from d) → count ≡ prefix_len is_ascii_digit block → count < 16 → n ≡ digits_value 10 (take count block) → DigitsRead d from (from + count) n
block_read d block from count n loaded run less is =
    let same : take count block ≡ take count (drop from d) = ap (take count) loaded ∙ take-take count 16 (drop from d) (omega (arith, less)) in
    run_read d from count n (subst (AllDigits 10) same (run_digits block count (omega (arith, run)))) (is ∙ ap (digits_value 10) same)

-- ---- A run of a block, by its words.

module _ (block : List ℕ) (count : ℕ) (long : length block ≡ 16) (run : count ≡ prefix_len is_ascii_digit block) where
  first_long : length (take 8 block) ≡ 8
  first_long = length-take-le 8 block (omega (arith, long))

  second_long : length (take 8 (drop 8 block)) ≡ 8
  second_long = length-take-le 8 (drop 8 block) (omega (arith, length-drop 8 block, long))

  -- Up to eight digits stand in the first word.
  pub one_word : (word n : ℕ) → count ≤ 8 → word ≡ number_l 256 (take 8 block) → Writes word count n → (n ≡ digits_value 10 (take count block)) × (n < 100_000_000)
  one_word word n most is writes =
      let same = take-take count 8 block most in
      let all = run_digits block count (omega (arith, run)) in
      let value = writes (take 8 block) is first_long (subst (AllDigits 10) (sym same) all) ∙ ap (digits_value 10) same in
      let short : length (take count block) ≤ 8 = omega (arith, length-take-le count block (omega (arith, long, most)), most) in
      (value, omega (arith, value, value_small (take count block) 8 all short))

  -- More of them stand in both.
  front_word : (word n : ℕ) → 8 < count → word ≡ number_l 256 (take 8 block) → Writes word 8 n → (n ≡ digits_value 10 (take 8 block)) × (n < 100_000_000)
  front_word word n more is writes =
      let same = take-take 8 8 block (omega arith) in
      let all = run_digits block 8 (omega (arith, run, more)) in
      let value = writes (take 8 block) is first_long (subst (AllDigits 10) (sym same) all) ∙ ap (digits_value 10) same in
      (value, omega (arith, value, value_small (take 8 block) 8 all (omega (arith, first_long))))

  both_parts : 8 < count → take count block ≡ take 8 block ++ take (count - 8) (drop 8 block)
  both_parts more =
      let e : count ≡ 8 + (count - 8) = omega (arith, more) in
      ap (λ j. take j block) e ∙ take-add 8 (count - 8) block

  back_word : (word n : ℕ) → 8 < count → count ≤ 16 → word ≡ number_l 256 (take 8 (drop 8 block)) → Writes word (count - 8) n → (n ≡ digits_value 10 (take (count - 8) (drop 8 block))) × (n < 100_000_000)
  back_word word n more most is writes =
      let m = count - 8 in
      let same = take-take m 8 (drop 8 block) (omega (arith, most)) in
      let all = digits_behind (take 8 block) (take m (drop 8 block)) (subst (AllDigits 10) (both_parts more) (run_digits block count (omega (arith, run)))) in
      let value = writes (take 8 (drop 8 block)) is second_long (subst (AllDigits 10) (sym same) all) ∙ ap (digits_value 10) same in
      let short : length (take m (drop 8 block)) ≤ 8 = omega (arith, length-take-le m (drop 8 block) (omega (arith, length-drop 8 block, long, most)), most) in
      (value, omega (arith, value, value_small (take m (drop 8 block)) 8 all short))

  two_words : (front back p : ℕ) → 8 < count → count ≤ 16 → front ≡ digits_value 10 (take 8 block) → back ≡ digits_value 10 (take (count - 8) (drop 8 block)) → p ≡ 10 ^ (count - 8)
      → front * p + back ≡ digits_value 10 (take count block)
  two_words front back p more most f b ten =
      let ys = take (count - 8) (drop 8 block) in
      let size : length ys ≡ count - 8 = length-take-le (count - 8) (drop 8 block) (omega (arith, length-drop 8 block, long, most)) in
      ap₂ (λ x y. x * p + y) f b
      ∙ ap (λ k. digits_value 10 (take 8 block) * k + digits_value 10 ys) (ten ∙ ap (λ k. 10 ^ k) (sym size))
      ∙ sym (value_shift (digits_value 10 (take 8 block)) ys)
      ∙ sym (value_append 0 (take 8 block) ys) ∙ ap (digits_value 10) (sym (both_parts more))

  value_fits : (n : ℕ) → count ≤ 16 → n ≡ digits_value 10 (take count block) → n < 10 ^ 16
  value_fits n most is =
      let all = run_digits block count (omega (arith, run)) in
      let short : length (take count block) ≤ 16 = omega (arith, length-take-le count block (omega (arith, long, most)), most) in
      omega (arith, is, value_small (take count block) 16 all short)

  -- What more than eight digits write, and that no step is too large for a word.
  pub both_words : (first second front back p : ℕ) → 8 < count → count ≤ 16
      → first ≡ number_l 256 (take 8 block) → Writes first 8 front
      → second ≡ number_l 256 (take 8 (drop 8 block)) → Writes second (count - 8) back → p ≡ 10 ^ (count - 8)
      → (front * p ≤ 10 ^ 16) × (back < 100_000_000) × (front * p + back ≡ digits_value 10 (take count block)) × (front * p + back < 10 ^ 16)
  both_words first second front back p more most is_first front_is is_second back_is ten =
      let f = front_word first front more is_first front_is in
      let b = back_word second back more most is_second back_is in
      let value = two_words front back p more most f.0 b.0 ten in
      let product = mul-le front p 100_000_000 100_000_000 (omega (arith, f.1)) (ten_at_most (count - 8) p (omega (arith, most)) ten) in
      (omega (arith, product), b.1, value, value_fits (front * p + back) most value)
