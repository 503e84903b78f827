-- Eight digits in a word, and what they write.
use Rattle.std.proofs.Common.{◌≡◌, ℕ, zero, suc, ◌+◌, ◌-◌, ◌*◌, ◌/◌, ◌%◌, ◌^◌, ◌<◌, ◌≤◌, List, [], ◌∷◌, ◌++◌, length, take, drop, map, replicate, refl, sym, ap, ap₂, ◌∙◌, subst, arith, le-ltb, lt-ltb, mul_assoc}
use Rattle.std.specs.Str.Parse.{AllDigits, digits_value, digits_value_after}
use Rattle.std.specs.Char.{digit_value}
use Rattle.std.proofs.lemmas.Str.Parse.{digit_from_value}
use Rattle.std.proofs.lemmas.Nat.{and_block, and_mask, mod_low, pow-add}
use Rattle.std.proofs.lemmas.List.{length-append, length-map, length-replicate, length-take-le}
use Rattle.std.proofs.Math.Nat.{pow-succ', one-le-pow, mul-lt-mul_of_pos_left}
use lib.Bits.{bit_and}
use lib.Lanes.{number_l, Each1}
use Rattle.nn_plain.specs.Words.{value_of_pairs}

-- ---- a word of digits

abbrev AllSmall : List ℕ → Type 0
AllSmall [] = Unit {0}
AllSmall (z ∷ zs) = (z ≤ 9) × AllSmall zs

abbrev in_tens : ℕ → List ℕ → ℕ
in_tens n [] = n
in_tens n (z ∷ zs) = in_tens (n * 10 + z) zs

-- Of each two lanes a mask leaves the first.
and_16 : (l m n s : ℕ) → l < 256 → m < 256 → bit_and (l + 256 * m + 65536 * n) (255 + 65536 * s) ≡ l + 65536 * bit_and n s
and_16 l m n s a b =
    let x : l + 256 * m + 65536 * n ≡ n * 2 ^ 16 + (l + 256 * m) = omega arith in
    let y : 255 + 65536 * s ≡ s * 2 ^ 16 + 255 = omega arith in
    let low : bit_and (l + 256 * m) 255 ≡ (l + 256 * m) % 256 = and_mask (l + 256 * m) 8 in
    ap₂ bit_and x y ∙ and_block 16 n s (l + 256 * m) 255 (omega (arith, a, b)) (omega arith) ∙ omega (arith, low, a)

and_32 : (l m n s : ℕ) → l < 65536 → m < 65536 → bit_and (l + 65536 * m + 4294967296 * n) (65535 + 4294967296 * s) ≡ l + 4294967296 * bit_and n s
and_32 l m n s a b =
    let x : l + 65536 * m + 4294967296 * n ≡ n * 2 ^ 32 + (l + 65536 * m) = omega arith in
    let y : 65535 + 4294967296 * s ≡ s * 2 ^ 32 + 65535 = omega arith in
    let low : bit_and (l + 65536 * m) 65535 ≡ (l + 65536 * m) % 65536 = and_mask (l + 65536 * m) 16 in
    ap₂ bit_and x y ∙ and_block 32 n s (l + 65536 * m) 65535 (omega (arith, a, b)) (omega arith) ∙ omega (arith, low, a)

two_by_two : (z0 z1 z2 z3 z4 z5 z6 z7 : ℕ) → AllSmall (z0 ∷ z1 ∷ z2 ∷ z3 ∷ z4 ∷ z5 ∷ z6 ∷ z7 ∷ [])
    → let digits = number_l 256 (z0 ∷ z1 ∷ z2 ∷ z3 ∷ z4 ∷ z5 ∷ z6 ∷ z7 ∷ []) in
    bit_and (digits * 10 + digits / 256) 71777214294589695 ≡ (10 * z0 + z1) + 65536 * ((10 * z2 + z3) + 65536 * ((10 * z4 + z5) + 65536 * (10 * z6 + z7)))
two_by_two z0 z1 z2 z3 z4 z5 z6 z7 (h0, (h1, (h2, (h3, (h4, (h5, (h6, (h7, h8)))))))) =
    let digits = number_l 256 (z0 ∷ z1 ∷ z2 ∷ z3 ∷ z4 ∷ z5 ∷ z6 ∷ z7 ∷ []) in
    let n3 = (10 * z6 + z7) + 256 * (10 * z7) + 65536 * 0 in
    let n2 = (10 * z4 + z5) + 256 * (10 * z5 + z6) + 65536 * n3 in
    let n1 = (10 * z2 + z3) + 256 * (10 * z3 + z4) + 65536 * n2 in
    let n0 = (10 * z0 + z1) + 256 * (10 * z1 + z2) + 65536 * n1 in
    let e : digits * 10 + digits / 256 ≡ n0 = omega (arith, h0) in
    ap (λ x. bit_and x 71777214294589695) e
    ∙ and_16 (10 * z0 + z1) (10 * z1 + z2) n1 1095233372415 (omega (arith, h0, h1)) (omega (arith, h1, h2))
    ∙ ap (λ x. (10 * z0 + z1) + 65536 * x) (and_16 (10 * z2 + z3) (10 * z3 + z4) n2 16711935 (omega (arith, h2, h3)) (omega (arith, h3, h4)))
    ∙ ap (λ x. (10 * z0 + z1) + 65536 * ((10 * z2 + z3) + 65536 * x)) (and_16 (10 * z4 + z5) (10 * z5 + z6) n3 255 (omega (arith, h4, h5)) (omega (arith, h5, h6)))
    ∙ ap (λ x. (10 * z0 + z1) + 65536 * ((10 * z2 + z3) + 65536 * ((10 * z4 + z5) + 65536 * x))) (and_16 (10 * z6 + z7) (10 * z7) 0 0 (omega (arith, h6, h7)) (omega (arith, h7)) ∙ omega arith)

four_by_four : (a b c d : ℕ) → a < 100 → b < 100 → c < 100 → d < 100
    → let pairs = a + 65536 * (b + 65536 * (c + 65536 * d)) in
    bit_and (pairs * 100 + pairs / 65536) 281470681808895 ≡ (100 * a + b) + 4294967296 * (100 * c + d)
four_by_four a b c d ha hb hc hd =
    let pairs = a + 65536 * (b + 65536 * (c + 65536 * d)) in
    let n1 = (100 * c + d) + 65536 * (100 * d) + 4294967296 * 0 in
    let e : pairs * 100 + pairs / 65536 ≡ (100 * a + b) + 65536 * (100 * b + c) + 4294967296 * n1 = omega (arith, ha) in
    ap (λ x. bit_and x 281470681808895) e
    ∙ and_32 (100 * a + b) (100 * b + c) n1 65535 (omega (arith, ha, hb)) (omega (arith, hb, hc))
    ∙ ap (λ x. (100 * a + b) + 4294967296 * x) (and_32 (100 * c + d) (100 * d) 0 0 (omega (arith, hc, hd)) (omega (arith, hd)) ∙ omega arith)

all_eight : (a b : ℕ) → a < 10000 → b < 10000 → let fours = a + 4294967296 * b in bit_and (fours * 10000 + fours / 4294967296) 4294967295 ≡ 10000 * a + b
all_eight a b ha hb =
    let fours = a + 4294967296 * b in
    let low : bit_and (fours * 10000 + fours / 4294967296) 4294967295 ≡ (fours * 10000 + fours / 4294967296) % 4294967296 = and_mask (fours * 10000 + fours / 4294967296) 32 in
    low ∙ omega (arith, ha, hb)

of_eight : (z0 z1 z2 z3 z4 z5 z6 z7 : ℕ) → AllSmall (z0 ∷ z1 ∷ z2 ∷ z3 ∷ z4 ∷ z5 ∷ z6 ∷ z7 ∷ [])
    → value_of_pairs (number_l 256 (z0 ∷ z1 ∷ z2 ∷ z3 ∷ z4 ∷ z5 ∷ z6 ∷ z7 ∷ [])) ≡ in_tens 0 (z0 ∷ z1 ∷ z2 ∷ z3 ∷ z4 ∷ z5 ∷ z6 ∷ z7 ∷ [])
of_eight z0 z1 z2 z3 z4 z5 z6 z7 (h0, (h1, (h2, (h3, (h4, (h5, (h6, (h7, h8)))))))) =
    let a = 10 * z0 + z1 in
    let b = 10 * z2 + z3 in
    let c = 10 * z4 + z5 in
    let d = 10 * z6 + z7 in
    let ha : a < 100 = omega (arith, h0, h1) in
    let hb : b < 100 = omega (arith, h2, h3) in
    let hc : c < 100 = omega (arith, h4, h5) in
    let hd : d < 100 = omega (arith, h6, h7) in
    ap (λ pairs. let fours = bit_and (pairs * 100 + pairs / 65536) 281470681808895 in bit_and (fours * 10000 + fours / 4294967296) 4294967295)
    (two_by_two z0 z1 z2 z3 z4 z5 z6 z7 (h0, (h1, (h2, (h3, (h4, (h5, (h6, (h7, h8)))))))))
    ∙ ap (λ fours. bit_and (fours * 10000 + fours / 4294967296) 4294967295) (four_by_four a b c d ha hb hc hd)
    ∙ all_eight (100 * a + b) (100 * c + d) (omega (arith, ha, hb)) (omega (arith, hc, hd))
    ∙ omega arith

value_of_eight : (zs : List ℕ) → length zs ≡ 8 → AllSmall zs → value_of_pairs (number_l 256 zs) ≡ in_tens 0 zs
value_of_eight (z0 ∷ z1 ∷ z2 ∷ z3 ∷ z4 ∷ z5 ∷ z6 ∷ z7 ∷ []) long small = of_eight z0 z1 z2 z3 z4 z5 z6 z7 small
value_of_eight [] long small = absurd (omega (arith, long))
value_of_eight (_ ∷ []) long small = absurd (omega (arith, long))
value_of_eight (_ ∷ _ ∷ []) long small = absurd (omega (arith, long))
value_of_eight (_ ∷ _ ∷ _ ∷ []) long small = absurd (omega (arith, long))
value_of_eight (_ ∷ _ ∷ _ ∷ _ ∷ []) long small = absurd (omega (arith, long))
value_of_eight (_ ∷ _ ∷ _ ∷ _ ∷ _ ∷ []) long small = absurd (omega (arith, long))
value_of_eight (_ ∷ _ ∷ _ ∷ _ ∷ _ ∷ _ ∷ []) long small = absurd (omega (arith, long))
value_of_eight (_ ∷ _ ∷ _ ∷ _ ∷ _ ∷ _ ∷ _ ∷ []) long small = absurd (omega (arith, long))
value_of_eight (_ ∷ _ ∷ _ ∷ _ ∷ _ ∷ _ ∷ _ ∷ _ ∷ _ ∷ zs) long small = absurd (omega (arith, long))

-- ---- the bytes of digits

-- zeros before digits are worth nothing
zeros_first : (k : ℕ) (zs : List ℕ) → in_tens 0 (replicate k 0 ++ zs) ≡ in_tens 0 zs
zeros_first zero zs = refl
zeros_first (suc k) zs = zeros_first k zs

abbrev low : ℕ → ℕ
low c = c % 16

digit_is : (c : ℕ) → 48 ≤ c → c ≤ 57 → digit_value c ≡ c - 48
digit_is c lo hi = rw (le-ltb c 48 lo, lt-ltb c 58 (omega (arith, hi))) refl

digit_low : (c : ℕ) → digit_value c < 10 → (digit_value c ≡ c % 16) × (c % 16 ≤ 9) × (c < 256)
digit_low c h =
    let r = digit_from_value c h in
    let e = digit_is c r.0 r.1 in
    (omega (arith, r, e), omega (arith, r), omega (arith, r))

in_digits : (n : ℕ) (cs : List ℕ) → AllDigits 10 cs → digits_value_after 10 n cs ≡ in_tens n (map low cs)
in_digits n [] h = refl
in_digits n (c ∷ cs) h = in_digits (n * 10 + digit_value c) cs h.1 ∙ ap (λ x. in_tens (n * 10 + x) (map low cs)) (digit_low c h.0).0

all_small : (cs : List ℕ) → AllDigits 10 cs → AllSmall (map low cs)
all_small [] h = tt
all_small (c ∷ cs) h = ((digit_low c h.0).1, all_small cs h.1)

zeros_small : (k : ℕ) (zs : List ℕ) → AllSmall zs → AllSmall (replicate k 0 ++ zs)
zeros_small zero zs h = h
zeros_small (suc k) zs h = (omega arith, zeros_small k zs h)

-- ---- shifts of a word

abbrev All256 : List ℕ → Type 0
All256 zs = Each1 (λ z. z < 256) zs

digits_256 : (cs : List ℕ) → AllDigits 10 cs → All256 cs
digits_256 [] h = tt
digits_256 (c ∷ cs) h = ((digit_low c h.0).2, digits_256 cs h.1)

one_more : (j : ℕ) → 256 ^ suc j ≡ 256 * 256 ^ j
one_more j = pow-succ' 256 j

number_split : (m : ℕ) (bs : List ℕ) → number_l 256 bs ≡ number_l 256 (take m bs) + 256 ^ m * number_l 256 (drop m bs)
number_split zero bs = omega arith
number_split (suc m) [] = omega arith
number_split (suc m) (b ∷ bs) =
    let ih = number_split m bs in
    let e : 256 ^ suc m ≡ 256 * 256 ^ m = one_more m in
    let f : 256 ^ suc m * number_l 256 (drop m bs) ≡ 256 * (256 ^ m * number_l 256 (drop m bs)) = ap (λ x. x * number_l 256 (drop m bs)) e ∙ mul_assoc 256 (256 ^ m) (number_l 256 (drop m bs)) in
    omega (arith, ih, f)

number_below : (zs : List ℕ) → All256 zs → number_l 256 zs < 256 ^ length zs
number_below [] h = omega arith
number_below (z ∷ zs) h =
    let e : 256 ^ suc (length zs) ≡ 256 * 256 ^ length zs = one_more (length zs) in
    omega (arith, h.0, number_below zs h.1, e)

zeros_worth : (j : ℕ) (zs : List ℕ) → number_l 256 (replicate j 0 ++ zs) ≡ 256 ^ j * number_l 256 zs
zeros_worth zero zs = omega arith
zeros_worth (suc j) zs =
    let e : 256 ^ suc j * number_l 256 zs ≡ 256 * (256 ^ j * number_l 256 zs) = ap (λ x. x * number_l 256 zs) (one_more j) ∙ mul_assoc 256 (256 ^ j) (number_l 256 zs) in
    omega (arith, zeros_worth j zs, e)

eight_bits : (j : ℕ) → 2 ^ (8 * j) ≡ 256 ^ j
eight_bits zero = refl
eight_bits (suc j) =
    let e : 8 * suc j ≡ 8 + 8 * j = omega arith in
    let f : 256 ^ suc j ≡ 256 * 256 ^ j = one_more j in
    ap (λ k. 2 ^ k) e ∙ pow-add 2 8 (8 * j) ∙ ap (λ x. 256 * x) (eight_bits j) ∙ sym f

-- The bytes of a word from the first on, moved up to its end.
moved_up : (j m : ℕ) (bs : List ℕ) → j + m ≡ 8 → length (take m bs) ≡ m → All256 (take m bs)
    → (number_l 256 bs * 256 ^ j) % 2 ^ 64 ≡ number_l 256 (replicate j 0 ++ take m bs)
moved_up j m bs all long small =
    let lo = number_l 256 (take m bs) in
    let hi = number_l 256 (drop m bs) in
    let both : 256 ^ j * 256 ^ m ≡ 2 ^ 64 = sym (pow-add 256 j m) ∙ ap (λ k. 256 ^ k) all in
    let less : lo < 256 ^ m = subst (λ k. lo < 256 ^ k) long (number_below (take m bs) small) in
    let within : 256 ^ j * lo < 2 ^ 64 = subst (λ x. 256 ^ j * lo < x) both (mul-lt-mul_of_pos_left less (one-le-pow j 256 (omega arith))) in
    let whole : number_l 256 bs * 256 ^ j ≡ hi * 2 ^ 64 + 256 ^ j * lo =
    ap (λ x. x * 256 ^ j) (number_split m bs) ∙ spread lo hi (256 ^ j) (256 ^ m) ∙ ap (λ x. hi * x + 256 ^ j * lo) both in
    ap (λ x. x % 2 ^ 64) whole ∙ mod_low hi 64 (256 ^ j * lo) within ∙ sym (zeros_worth j (take m bs))
  where
    spread : (lo hi p q : ℕ) → (lo + q * hi) * p ≡ hi * (p * q) + p * lo
    spread lo hi p q = grind arith

-- The first bytes of a word, where nothing stands behind them.
pub first_bytes_up : (word m : ℕ) (bs : List ℕ) → m ≤ 8 → word ≡ number_l 256 bs → length bs ≡ 8 → All256 (take m bs)
    → (word * 2 ^ (64 - 8 * m)) % 2 ^ 64 ≡ number_l 256 (replicate (8 - m) 0 ++ take m bs)
first_bytes_up word m bs most is long small =
    let j = 8 - m in
    let all : j + m ≡ 8 = omega (arith, most) in
    let e : 64 - 8 * m ≡ 8 * j = omega (arith, most) in
    let l : length (take m bs) ≡ m = length-take-le m bs (omega (arith, long, most)) in
    ap₂ (λ w k. (w * 2 ^ k) % 2 ^ 64) is e ∙ ap (λ p. (number_l 256 bs * p) % 2 ^ 64) (eight_bits j) ∙ moved_up j m bs all l small

-- ---- a mask over the bytes of a word

and_byte : (x n r : ℕ) → x < 256 → bit_and (x + 256 * n) (15 + 256 * r) ≡ x % 16 + 256 * bit_and n r
and_byte x n r h =
    let a : x + 256 * n ≡ n * 2 ^ 8 + x = omega arith in
    let b : 15 + 256 * r ≡ r * 2 ^ 8 + 15 = omega arith in
    let m : bit_and x 15 ≡ x % 16 = and_mask x 4 in
    ap₂ bit_and a b ∙ and_block 8 n r x 15 h (omega arith) ∙ omega (arith, m)

and_bytes : (cs : List ℕ) → All256 cs → bit_and (number_l 256 cs) (number_l 256 (replicate (length cs) 15)) ≡ number_l 256 (map low cs)
and_bytes [] h = refl
and_bytes (c ∷ cs) h = and_byte c (number_l 256 cs) (number_l 256 (replicate (length cs) 15)) h.0 ∙ ap (λ x. c % 16 + 256 * x) (and_bytes cs h.1)

low_zeros : (j : ℕ) (zs : List ℕ) → map low (replicate j 0 ++ zs) ≡ replicate j 0 ++ map low zs
low_zeros zero zs = refl
low_zeros (suc j) zs = ap (λ r. 0 ∷ r) (low_zeros j zs)

zeros_256 : (j : ℕ) (zs : List ℕ) → All256 zs → All256 (replicate j 0 ++ zs)
zeros_256 zero zs h = h
zeros_256 (suc j) zs h = (omega arith, zeros_256 j zs h)

zeros_long : (j : ℕ) (zs : List ℕ) → length (replicate j 0 ++ zs) ≡ j + length zs
zeros_long j zs = length-append (replicate j 0) zs ∙ ap (λ n. n + length zs) (length-replicate j 0)

pub word_writes : (word m : ℕ) (bs : List ℕ) → 1 ≤ m → m ≤ 8 → word ≡ number_l 256 bs → length bs ≡ 8 → AllDigits 10 (take m bs)
    → value_of_pairs (bit_and ((word * 2 ^ (64 - 8 * m)) % 2 ^ 64) 1085102592571150095) ≡ digits_value 10 (take m bs)
word_writes word m bs one most is long digits =
    let j = 8 - m in
    let cs = take m bs in
    let all : j + m ≡ 8 = omega (arith, most) in
    let l : length cs ≡ m = length-take-le m bs (omega (arith, long, most)) in
    let up = first_bytes_up word m bs most is long (digits_256 cs digits) in
    let ys = replicate j 0 ++ cs in
    let eight : length ys ≡ 8 = omega (arith, zeros_long j cs, l, all) in
    let masked : bit_and (number_l 256 ys) 1085102592571150095 ≡ number_l 256 (map low ys) =
    ap (λ k. bit_and (number_l 256 ys) (number_l 256 (replicate k 15))) (sym eight) ∙ and_bytes ys (zeros_256 j cs (digits_256 cs digits)) in
    let zs = replicate j 0 ++ map low cs in
    ap (λ x. value_of_pairs (bit_and x 1085102592571150095)) up ∙ ap value_of_pairs masked ∙ ap (λ t. value_of_pairs (number_l 256 t)) (low_zeros j cs)
    ∙ value_of_eight zs (omega (arith, zeros_long j (map low cs), length-map cs low, l, all)) (zeros_small j (map low cs) (all_small cs digits))
    ∙ zeros_first j (map low cs) ∙ sym (in_digits 0 cs digits)
