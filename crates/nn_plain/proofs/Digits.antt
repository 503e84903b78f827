-- Digits that are read one after another, and the number that they are.
use Rattle.std.proofs.Common.{◌≡◌, ◌⊎◌, ℕ, suc, ◌+◌, ◌-◌, ◌*◌, ◌<◌, ◌≤◌, List, [], ◌∷◌, length, take, drop, get_or, true, false, cond, ◌==◌, Some, option_and_then, refl, sym, ap, ◌∙◌, subst, inl, inr, le-ltb, lt-ltb, le-leb, arith}
use Rattle.std.proofs.lemmas.Bool.{ne_eqb}
use Rattle.std.proofs.lemmas.List.{drop_all, drop_more}
use Rattle.std.specs.List.{prefix_len}
use Rattle.std.specs.Char.{is_ascii_digit, digit_value}
use Rattle.std.specs.Str.Parse.{AllDigits, digits_value, digits_value_after}
use Rattle.std.proofs.lemmas.Str.Parse.{digit_from_value}
use Rattle.serde_json.specs.Data.{unsigned}
use Rattle.serde_json.specs.Read.{number_of}
use Rattle.nn_plain.specs.Bytes.{DigitsRead}
use Rattle.nn_plain.proofs.Numerals.{number_of-digits}
use Rattle.json.specs.Word.{head, after_whole, after_fraction, after_exponent, after_number}
use Rattle.json.specs.Print.{IsNumber}

-- ---- one digit after another

pub none_read : (d : List ℕ) (from : ℕ) → DigitsRead d from from 0
none_read d from =
    record {
      value = λ k. let none : k ≡ (from - from) + k = omega arith in ap (λ j. digits_value 10 (take j (drop from d))) none;
      digits = λ k h. let none : k ≡ (from - from) + k = omega arith in subst (λ j. AllDigits 10 (take j (drop from d))) none h;
    }

digit_is : (c : ℕ) → 48 ≤ c → c ≤ 57 → digit_value c ≡ c - 48
digit_is c lo hi = rw (le-ltb c 48 lo, lt-ltb c 58 (omega (arith, hi))) refl

pub one_read : (d : List ℕ) (from i n m : ℕ) → from ≤ i → i < length d → 48 ≤ get_or d i 0 → get_or d i 0 ≤ 57 → m ≡ n * 10 + (get_or d i 0 - 48) → DigitsRead d from i n → DigitsRead d from (i + 1) m
one_read d from i n m after within lo hi is so =
    let c = get_or d i 0 in
    let here : digit_value c ≡ c - 48 = digit_is c lo hi in
    let grown : m ≡ n * 10 + digit_value c = is ∙ ap (λ x. n * 10 + x) (sym here) in
    let there : drop i d ≡ c ∷ drop (i + 1) d = drop_more d i 0 within in
    let small : digit_value c < 10 = omega (arith, here, lo, hi) in
    record {
      value = λ k.
          let on : (i - from) + suc k ≡ (i + 1 - from) + k = omega (arith, after) in
          ap (λ x. digits_value_after 10 x (take k (drop (i + 1) d))) grown
          ∙ ap (λ t. digits_value_after 10 n (take (suc k) t)) (sym there)
          ∙ so.value (suc k)
          ∙ ap (λ j. digits_value 10 (take j (drop from d))) on;
      digits = λ k rest.
          let on : (i - from) + suc k ≡ (i + 1 - from) + k = omega (arith, after) in
          subst (λ j. AllDigits 10 (take j (drop from d))) on (so.digits (suc k) (subst (λ t. AllDigits 10 (take (suc k) t)) (sym there) (small, rest)));
    }

pub value_read : (d : List ℕ) (from i n : ℕ) → DigitsRead d from i n → n ≡ digits_value 10 (take (i - from) (drop from d))
value_read d from i n so =
    let all : (i - from) + 0 ≡ i - from = omega arith in
    so.value 0 ∙ ap (λ j. digits_value 10 (take j (drop from d))) all

pub digits_read : (d : List ℕ) (from i n : ℕ) → DigitsRead d from i n → AllDigits 10 (take (i - from) (drop from d))
digits_read d from i n so =
    let all : (i - from) + 0 ≡ i - from = omega arith in
    subst (λ j. AllDigits 10 (take j (drop from d))) all (so.digits 0 tt)

-- ---- digits with no leading zero, or a zero alone, are a number of JSON

abbrev BeginsWell : List ℕ → Type 0
BeginsWell ds = (48 < get_or ds 0 0) ⊎ (ds ≡ 48 ∷ [])

abbrev IsRun : List ℕ → Type 0
IsRun ds = prefix_len is_ascii_digit ds ≡ length ds

run : (ds : List ℕ) → AllDigits 10 ds → IsRun ds
run [] h = refl
run (c ∷ cs) h =
    let range = digit_from_value c h.0 in
    let one : is_ascii_digit c ≡ true = rw (le-leb 48 c range.0, le-leb c 57 range.1) refl in
    ap (λ b. cond b (1 + prefix_len is_ascii_digit cs) 0) one ∙ omega (arith, run cs h.1)

ended : (ds : List ℕ) → after_whole ds ≡ Some [] → (head ds == 45) ≡ false → IsNumber ds
unfolding after_number
ended ds w m = ap (λ o. option_and_then after_exponent (option_and_then after_fraction o)) (ap (λ b. after_whole (cond b (drop 1 ds) ds)) m ∙ w)

-- The first digit is no zero.
longer : (d : ℕ) (ds : List ℕ) → 48 < d → IsRun (d ∷ ds) → IsNumber (d ∷ ds)
longer d ds first all = ended (d ∷ ds) (rw (ne_eqb d 48 (λ e. omega (arith, e, first)), all, ne_eqb (suc (length ds)) 0 (λ e. omega (arith, e))) (ap Some (drop_all (length ds) ds (omega arith)))) (ne_eqb d 45 (λ e. omega (arith, e, first)))

zero_alone : IsNumber (48 ∷ [])
zero_alone = ended (48 ∷ []) refl refl

number_run : (ds : List ℕ) → IsRun ds → BeginsWell ds → IsNumber ds
number_run [] all (inl h) = absurd (omega (arith, h))
number_run (d ∷ ds) all (inl h) = longer d ds h all
number_run ds all (inr e) = subst IsNumber (sym e) zero_alone

not_empty : (ds : List ℕ) → BeginsWell ds → 0 < length ds
not_empty [] (inl h) = absurd (omega (arith, h))
not_empty (d ∷ ds) (inl h) = omega arith
not_empty ds (inr e) = omega (arith, ap length e)

pub number_digits : (ds : List ℕ) → AllDigits 10 ds → BeginsWell ds → IsNumber ds
number_digits ds all first = number_run ds (run ds all) first

pub number_value : (ds : List ℕ) (n : ℕ) → AllDigits 10 ds → BeginsWell ds → n ≡ digits_value 10 ds → n < 10_000_000_000_000_000_000 → number_of ds ≡ Some (unsigned n)
number_value ds n all first is small =
    number_of-digits ds (not_empty ds first, all) (omega (arith, is, small)) ∙ ap (λ x. Some (unsigned x)) (sym is)
