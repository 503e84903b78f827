-- Decimal digits with zeros before them.
use Rattle.std.proofs.Common.{◌≡◌, ℕ, zero, suc, ◌+◌, ◌-◌, ◌*◌, ◌/◌, ◌%◌, ◌^◌, ◌<◌, ◌≤◌, List, [], ◌∷◌, ◌++◌, length, get_or, take, replicate, refl, sym, ap, ◌∙◌, subst, arith, append_assoc, length-append, inl, inr, lit<, add-one}
use Rattle.std.specs.Fmt.{decimal}
use Rattle.std.proofs.lemmas.Fmt.{decimal_digit, decimal_step}
use Rattle.std.proofs.lemmas.Bool.{cases_lt}
use Rattle.std.proofs.lemmas.List.{take_more, get_or_append_left, get_or_push, replicate-append-replicate}
use Rattle.std.proofs.lemmas.List.Sums.{fold-append}
use Rattle.std.proofs.Math.Nat.{pow-suc, pow-le-pow_right}
use Rattle.nn_segment.specs.Name.{digits, number_spelled}

pub length-digits : (k n : ℕ) → length (digits k n) ≡ k
unfolding digits
length-digits zero n = refl
length-digits (suc k) n = length-append (digits k (n / 10)) _ ∙ omega (arith, length-digits k (n / 10))

-- one more digit
pub digits_more : (k n d : ℕ) → d < 10 → digits (suc k) (n * 10 + d) ≡ digits k n ++ (48 + d) ∷ []
unfolding digits
digits_more k n d small =
    let prefix : (n * 10 + d) / 10 ≡ n = omega arith in
    let last : (n * 10 + d) % 10 ≡ d = omega arith in
    ap (λ m. digits k m ++ (48 + (n * 10 + d) % 10) ∷ []) prefix ∙ ap (λ m. digits k n ++ (48 + m) ∷ []) last

-- each is a digit
pub digit_at : (k n i : ℕ) → i < k → (48 ≤ get_or (digits k n) i 0) × (get_or (digits k n) i 0 ≤ 57)
unfolding digits
digit_at zero n i h = absurd (omega arith)
digit_at (suc k) n i h =
    let P : ℕ → Type 0 = λ x. (48 ≤ x) × (x ≤ 57) in
    let size = length-digits k (n / 10) in
    elim (cases_lt i k) [
      | inl before ↦ subst P (sym (get_or_append_left (digits k (n / 10)) _ 0 i (omega (arith, size, before)))) (digit_at k (n / 10) i before)
      | inr last ↦ subst P (sym (get_or_push (digits k (n / 10)) (48 + n % 10) 0 i (omega (arith, size, last, h)))) (omega arith, omega arith)
    ]

ten_times : (k n : ℕ) → n < 10 ^ suc k → n / 10 < 10 ^ k
ten_times k n h = omega (arith, pow-suc 10 k, h)

-- what the digits spell
pub number_of-digits : (k n : ℕ) → n < 10 ^ k → number_spelled (digits k n) ≡ n
unfolding digits
number_of-digits zero n h = omega arith
number_of-digits (suc k) n h =
    let prefix = number_of-digits k (n / 10) (ten_times k n h) in
    fold-append (λ n digit. 10 * n + (digit - 48)) 0 (digits k (n / 10)) _ ∙ omega (arith, prefix)

zeros : (k : ℕ) → digits k 0 ≡ replicate k 48
unfolding digits
zeros zero = refl
zeros (suc k) = ap (λ ds. ds ++ 48 ∷ []) (zeros k) ∙ replicate-append-replicate k 1 48 ∙ ap (λ m. replicate {A = ℕ} m 48) (let same : k + 1 ≡ suc k = omega arith in same)

small_padded : (k n : ℕ) → n < 10 → digits (suc k) n ≡ replicate (suc k - length (decimal n)) 48 ++ decimal n
unfolding digits
small_padded k n small =
    let none : n / 10 ≡ 0 = omega arith in
    let itself : n % 10 ≡ n = omega arith in
    ap (λ m. digits k m ++ (48 + n % 10) ∷ []) none
    ∙ ap (λ m. digits k 0 ++ (48 + m) ∷ []) itself
    ∙ ap (λ ds. ds ++ (48 + n) ∷ []) (zeros k)
    ∙ ap (λ m. replicate {A = ℕ} m 48 ++ (48 + n) ∷ []) (let same : k ≡ suc k - 1 = omega arith in same)
    ∙ ap (λ ds. replicate {A = ℕ} (suc k - length ds) 48 ++ ds) (sym (decimal_digit n small))

more_padded : (k n : ℕ) → n < 2 ^ 64 → 10 ≤ n → digits (suc k) (n / 10) ≡ replicate (suc k - length (decimal (n / 10))) 48 ++ decimal (n / 10)
    → digits (suc (suc k)) n ≡ replicate (suc (suc k) - length (decimal n)) 48 ++ decimal n
unfolding digits
more_padded k n fits large before =
    let last : List ℕ = (48 + n % 10) ∷ [] in
    let size : length (decimal (n / 10) ++ last) ≡ length (decimal (n / 10)) + 1 = length-append (decimal (n / 10)) last in
    ap (λ ds. ds ++ last) before
    ∙ append_assoc (replicate (suc k - length (decimal (n / 10))) 48) (decimal (n / 10)) last
    ∙ ap (λ m. replicate {A = ℕ} m 48 ++ (decimal (n / 10) ++ last)) (let same : suc k - length (decimal (n / 10)) ≡ suc (suc k) - length (decimal (n / 10) ++ last) = omega (arith, size) in same)
    ∙ ap (λ ds. replicate {A = ℕ} (suc (suc k) - length ds) 48 ++ ds) (sym (decimal_step n large fits))

-- zeros, and then the digits that a number has
pub digits_padded : (k n : ℕ) → n < 10 ^ suc k → n < 2 ^ 64 → digits (suc k) n ≡ replicate (suc k - length (decimal n)) 48 ++ decimal n
digits_padded zero n h fits = small_padded zero n (omega (arith, pow-suc 10 0, h))
digits_padded (suc k) n h fits =
    let before = digits_padded k (n / 10) (ten_times (suc k) n h) (omega arith) in
    elim (cases_lt n 10) [
      | inl small ↦ small_padded (suc k) n small
      | inr large ↦ more_padded k n fits large before
    ]

-- nineteen digits fit
pub fits : (n k : ℕ) → n < 10 ^ k → k < 19 → n * 10 + 9 < 2 ^ 64
fits n k below few = let room : k ≤ 18 = omega arith in let most : 10 ^ k ≤ 10 ^ 18 = pow-le-pow_right {n = 10} (lit< tt) {i = k} {j = 18} room in omega arith

-- a digit that is read after others
pub more_below : (n k d : ℕ) → n < 10 ^ k → d < 10 → n * 10 + d < 10 ^ (k + 1)
more_below n k d below small = rw add-one (omega (arith, pow-suc 10 k))

pub more_spelled : (text : List ℕ) (n k d : ℕ) → k < length text → digits k n ≡ take k text → d ≡ get_or text k 0 - 48 → 48 ≤ get_or text k 0 → get_or text k 0 ≤ 57
    → digits (k + 1) (n * 10 + d) ≡ take (k + 1) text
more_spelled text n k d within so_far is low high =
    let glyph : 48 + d ≡ get_or text k 0 = omega arith in
    ap (λ m. digits m (n * 10 + d)) (add-one k)
    ∙ digits_more k n d (omega arith)
    ∙ ap (λ ds. ds ++ (48 + d) ∷ []) so_far
    ∙ ap (λ b. take k text ++ b ∷ []) glyph
    ∙ sym (take_more text k 0 within)
