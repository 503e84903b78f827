-- Keys in words.
use Rattle.std.proofs.Common.{◌≡◌, ℕ, zero, suc, ◌+◌, ◌-◌, ◌*◌, ◌%◌, ◌^◌, ◌<◌, ◌≤◌, min, List, [], ◌∷◌, ◌++◌, length, take, drop, get_or, replicate, refl, sym, ap, ap₂, ◌∙◌, subst, arith, w8, Fits}
use Rattle.std.proofs.Math.Seq.{take-append_seam}
use Rattle.std.proofs.Math.Nat.{pow-le-pow_right, pow-succ'}
use Rattle.std.proofs.lemmas.List.{drop_all, drop-drop, drop_more, get_or-take, length-append, length-drop, length-replicate, length-take, length-take-le, take_all, take-take}
use Rattle.std.proofs.lemmas.Simd.{chunk-fits}
use lib.Lanes.{number_l, Each1}
use Rattle.nn_plain.specs.Words.{Begins, high_word}
use Rattle.nn_plain.proofs.EightDigits.{first_bytes_up}

-- ---- From the last byte to the first.

pub none_left : (key : List ℕ) (i : ℕ) → i ≡ min (length key) 8 → 0 ≡ number_l 256 (drop i (take 8 key))
none_left key i is = ap (number_l 256) (sym (drop_all i (take 8 key) (omega (arith, is, length-take 8 key))))

pub one_more : (key : List ℕ) (i word : ℕ) → 0 < i → i ≤ min (length key) 8 → word ≡ number_l 256 (drop i (take 8 key)) → word * 256 + get_or key (i - 1) 0 ≡ number_l 256 (drop (i - 1) (take 8 key))
one_more key i word some within is =
    let j = i - 1 in
    let next : j + 1 ≡ i = omega (arith, some) in
    let here : drop j (take 8 key) ≡ get_or (take 8 key) j 0 ∷ drop (j + 1) (take 8 key) = drop_more (take 8 key) j 0 (omega (arith, some, within, length-take 8 key)) in
    let byte : get_or (take 8 key) j 0 ≡ get_or key j 0 = get_or-take 8 key j 0 (omega (arith, some, within)) in
    let whole : number_l 256 (drop j (take 8 key)) ≡ get_or key j 0 + 256 * number_l 256 (drop i (take 8 key)) =
    ap (number_l 256) here ∙ ap₂ (λ b k. b + 256 * number_l 256 (drop k (take 8 key))) byte next in
    omega (arith, whole, is)

pub fits_more : (i word : ℕ) → 0 < i → word < 256 ^ (8 - i) → word < 256 ^ 7
fits_more i word some less =
    let base : 0 < 256 = omega arith in
    let most : 8 - i ≤ 7 = omega (arith, some) in
    omega (arith, less, pow-le-pow_right base most)

pub small_more : (i word byte : ℕ) → 0 < i → i ≤ 8 → word < 256 ^ (8 - i) → byte < 256 → word * 256 + byte < 256 ^ (8 - (i - 1))
small_more i word byte some within less fits =
    let e : 8 - (i - 1) ≡ suc (8 - i) = omega (arith, some, within) in
    omega (arith, ap (λ k. 256 ^ k) e ∙ pow-succ' 256 (8 - i), less, fits)

-- ---- Zeros behind a key.

zeros_behind : (xs : List ℕ) (j : ℕ) → number_l 256 (xs ++ replicate j 0) ≡ number_l 256 xs
zeros_behind [] zero = refl
zeros_behind [] (suc j) = ap (λ n. 0 + 256 * n) (zeros_behind [] j)
zeros_behind (x ∷ xs) j = ap (λ n. x + 256 * n) (zeros_behind xs j)

zeros_small : (j : ℕ) → Each1 (λ b. b < 256) (replicate j 0)
zeros_small zero = tt
zeros_small (suc j) = (omega arith, zeros_small j)

small_behind : (xs : List ℕ) (j : ℕ) → ((i : ℕ) → get_or xs i 0 < 256) → Each1 (λ b. b < 256) (xs ++ replicate j 0)
small_behind [] j small = zeros_small j
small_behind (x ∷ xs) j small = (small 0, small_behind xs j (λ i. small (suc i)))

pub key_begins : (key : List ℕ) (word : ℕ) → ((i : ℕ) → get_or key i 0 < 256) → length key ≤ 8 → word ≡ number_l 256 (take 8 key) → Begins word key
key_begins key word small short is = record {
  bytes = key ++ replicate (8 - length key) 0;
  value = is ∙ ap (number_l 256) (take_all 8 key short) ∙ sym (zeros_behind key (8 - length key));
  long = omega (arith, length-append key (replicate (8 - length key) 0), length-replicate {A = ℕ} (8 - length key) 0, short);
  small = small_behind key (8 - length key) small;
  front = take-append_seam key (replicate (8 - length key) 0);
}

-- ---- A key in a block.

fits_small : (xs : List ℕ) → Each1 (Fits w8) xs → Each1 (λ b. b < 256) xs
fits_small [] h = tt
fits_small (x ∷ xs) h = (h.0.fits, fits_small xs h.1)

pub block_small : (text block : List ℕ) (from : ℕ) → block ≡ take 16 (drop from text) → ((i : ℕ) → Fits w8 (get_or text i 0)) → Each1 (λ b. b < 256) block
block_small text block from loaded fits = subst (Each1 (λ b. b < 256)) (sym loaded) (fits_small (take 16 (drop from text)) (chunk-fits w8 from 16 text fits))

pub block_begins : (text key block : List ℕ) (from word : ℕ) → block ≡ take 16 (drop from text) → from + 16 ≤ length text → word ≡ number_l 256 (take 8 block)
    → ((i : ℕ) → Fits w8 (get_or text i 0)) → take (length key) (drop from text) ≡ key → length key ≤ 8 → Begins word key
block_begins text key block from word loaded room is fits here short = record {
  bytes = take 8 (drop from text);
  value = is ∙ ap (λ b. number_l 256 (take 8 b)) loaded ∙ ap (number_l 256) (take-take 8 16 (drop from text) (omega arith));
  long = length-take-le 8 (drop from text) (omega (arith, length-drop from text, room));
  small = fits_small (take 8 (drop from text)) (chunk-fits w8 from 8 text fits);
  front = take-take (length key) 8 (drop from text) short ∙ here;
}

-- A key behind the quote that opens it.
pub behind_quote : (text key rest : List ℕ) (start : ℕ) → drop start text ≡ 34 ∷ (key ++ rest) → take (length key) (drop (start + 1) text) ≡ key
behind_quote text key rest start here = ap (take (length key)) (sym (drop-drop 1 start text) ∙ ap (drop 1) here) ∙ take-append_seam key rest

-- ---- Keys as high bytes.

small_front : (n : ℕ) (xs : List ℕ) → Each1 (λ b. b < 256) xs → Each1 (λ b. b < 256) (take n xs)
small_front zero xs h = tt
small_front (suc n) [] h = tt
small_front (suc n) (x ∷ xs) h = (h.0, small_front n xs h.1)

pub high_is : (word len : ℕ) (key : List ℕ) → len ≤ 8 → length key ≡ len → Begins word key → (word * 2 ^ (64 - 8 * len)) % 2 ^ 64 ≡ high_word key
high_is word len key most is begins =
    ap (λ m. (word * 2 ^ (64 - 8 * m)) % 2 ^ 64) (sym is)
    ∙ first_bytes_up word (length key) begins.bytes (omega (arith, is, most)) begins.value begins.long (small_front (length key) begins.bytes begins.small)
    ∙ ap (λ t. number_l 256 (replicate (8 - length key) 0 ++ t)) begins.front

pub key_small : (word : ℕ) (key : List ℕ) → Begins word key → Each1 (λ b. b < 256) key
key_small word key begins = subst (Each1 (λ b. b < 256)) begins.front (small_front (length key) begins.bytes begins.small)

first_same : (x y n m : ℕ) → x < 256 → y < 256 → x + 256 * n ≡ y + 256 * m → (x ≡ y) × (n ≡ m)
first_same x y n m a b e = (omega (arith, a, b, e), omega (arith, a, b, e))

numbers_same : (xs ys : List ℕ) → length xs ≡ length ys → Each1 (λ b. b < 256) xs → Each1 (λ b. b < 256) ys → number_l 256 xs ≡ number_l 256 ys → xs ≡ ys
numbers_same [] [] l a b e = refl
numbers_same [] (y ∷ ys) l a b e = absurd (omega (arith, l))
numbers_same (x ∷ xs) [] l a b e = absurd (omega (arith, l))
numbers_same (x ∷ xs) (y ∷ ys) l a b e =
    let both = first_same x y (number_l 256 xs) (number_l 256 ys) a.0 b.0 e in
    ap₂ (λ z zs. z ∷ zs) both.0 (numbers_same xs ys (omega (arith, l)) a.1 b.1 both.1)

small_up : (j : ℕ) (xs : List ℕ) → Each1 (λ b. b < 256) xs → Each1 (λ b. b < 256) (replicate j 0 ++ xs)
small_up zero xs h = h
small_up (suc j) xs h = (omega arith, small_up j xs h)

zeros_dropped : (j : ℕ) (xs : List ℕ) → drop j (replicate j 0 ++ xs) ≡ xs
zeros_dropped zero xs = refl
zeros_dropped (suc j) xs = zeros_dropped j xs

-- Two keys of one length that have the same high word are the same.
pub high_words_same : (a b : List ℕ) → length a ≡ length b → Each1 (λ x. x < 256) a → Each1 (λ x. x < 256) b → high_word a ≡ high_word b → a ≡ b
high_words_same a b l small_a small_b e =
    let j = 8 - length a in
    let zs = replicate {A = ℕ} j 0 in
    let same : number_l 256 (zs ++ a) ≡ number_l 256 (zs ++ b) = e ∙ ap (λ n. number_l 256 (replicate (8 - n) 0 ++ b)) (sym l) in
    let long : length (zs ++ a) ≡ length (zs ++ b) = omega (arith, length-append zs a, length-append zs b, l) in
    let whole = numbers_same (zs ++ a) (zs ++ b) long (small_up j a small_a) (small_up j b small_b) same in
    sym (zeros_dropped j a) ∙ ap (drop j) whole ∙ zeros_dropped j b
