-- Runs in a block of bytes, and of a text that is read block by block.
use Rattle.std.proofs.Common.{◌≡◌, ℕ, zero, suc, ◌+◌, ◌-◌, ◌*◌, ◌/◌, ◌<◌, ◌≤◌, ◌^◌, ◌%◌, List, [], ◌∷◌, ◌++◌, length, map, take, drop, Bool, true, false, cond, not, ◌&&◌, ◌==◌, eqb, ne_eqb, refl, sym, ap, ◌∙◌, arith, w8}
use Rattle.std.specs.List.{prefix_len}
use Rattle.std.proofs.lemmas.Simd.{bitmask_splat, first_set_mask_l}
use Rattle.std.proofs.lemmas.List.Folds.{prefix_len-append}
use Rattle.std.proofs.lemmas.List.{take-append-drop, drop-drop, drop-map, length-take-le, length-drop, take_all}
use Rattle.std.proofs.lemmas.Nat.{shl-shr, shr-shr}
use lib.Count.{count_trailing_zeros}
use lib.Lanes.{mask_l, zip2, top}
use lib.ListN.{replicate}
use Rattle.nn_bytes.specs.Runs.{is_other, is_neither}

-- ---- one byte in a block

abbrev mask : List ℕ → ℕ → ℕ
mask xs y = mask_l (map (λ x. x == y) xs)

pub masked : (xs : List ℕ) (y : ℕ) → length xs ≡ 16 → mask_l (map (top 7) (zip2 (λ a b. cond (a == b) 255 0) xs (replicate 16 y))) % 2 ^ 64 ≡ mask xs y
masked xs y long = bitmask_splat w8 eqb xs 16 y long (omega arith)

pub run_of : (xs : List ℕ) (y : ℕ) → length xs ≡ 16 → cond (mask xs y == 0) 16 (count_trailing_zeros 64 (mask xs y)) ≡ prefix_len (is_other y) xs
run_of xs y long = first_set_mask_l (λ x. x == y) xs 16 long (omega arith)

-- ---- the first of two bytes

-- One byte more, where n bytes come before the first of the two, and m before the first of both.
first_more : (p q : Bool) (n m k : ℕ) → (n ≤ m → n ≡ k) → cond (not p) (1 + n) 0 ≤ cond (not q) (1 + m) 0 → cond (not p) (1 + n) 0 ≡ cond (not p && not q) (1 + k) 0
first_more true q n m k ih le = refl
first_more false true n m k ih le = absurd (omega (arith, le))
first_more false false n m k ih le = ap (λ j. 1 + j) (ih (omega (arith, le)))

neither_first : (xs : List ℕ) (a b : ℕ) → prefix_len (is_other a) xs ≤ prefix_len (is_other b) xs → prefix_len (is_other a) xs ≡ prefix_len (is_neither a b) xs
neither_first [] a b le = refl
neither_first (x ∷ xs) a b le =
    first_more (x == a) (x == b) (prefix_len (is_other a) xs) (prefix_len (is_other b) xs) (prefix_len (is_neither a b) xs) (neither_first xs a b) le

second_more : (p q : Bool) (n m k : ℕ) → (m ≤ n → m ≡ k) → cond (not q) (1 + m) 0 ≤ cond (not p) (1 + n) 0 → cond (not q) (1 + m) 0 ≡ cond (not p && not q) (1 + k) 0
second_more true true n m k ih le = refl
second_more true false n m k ih le = absurd (omega (arith, le))
second_more false true n m k ih le = refl
second_more false false n m k ih le = ap (λ j. 1 + j) (ih (omega (arith, le)))

neither_second : (xs : List ℕ) (a b : ℕ) → prefix_len (is_other b) xs ≤ prefix_len (is_other a) xs → prefix_len (is_other b) xs ≡ prefix_len (is_neither a b) xs
neither_second [] a b le = refl
neither_second (x ∷ xs) a b le =
    second_more (x == a) (x == b) (prefix_len (is_other a) xs) (prefix_len (is_other b) xs) (prefix_len (is_neither a b) xs) (neither_second xs a b) le

pub first_is : (xs : List ℕ) (a b n m : ℕ) → n ≡ prefix_len (is_other a) xs → m ≡ prefix_len (is_other b) xs → n ≤ m → n ≡ prefix_len (is_neither a b) xs
first_is xs a b n m f g le = f ∙ neither_first xs a b (omega (arith, f, g, le))

pub second_is : (xs : List ℕ) (a b n m : ℕ) → n ≡ prefix_len (is_other a) xs → m ≡ prefix_len (is_other b) xs → m ≤ n → m ≡ prefix_len (is_neither a b) xs
second_is xs a b n m f g le = g ∙ neither_second xs a b (omega (arith, f, g, le))

pub twice : (xs : List ℕ) (a : ℕ) → prefix_len (is_neither a a) xs ≡ prefix_len (is_other a) xs
twice xs a = sym (neither_first xs a a (omega arith))

-- ---- block by block

module _ (p : ℕ → Bool) (d : List ℕ) (i : ℕ) (room : i + 16 ≤ length d) where
  abbrev block : List ℕ
  block = take 16 (drop i d)

  parts : prefix_len p (drop i d) ≡ cond (prefix_len p block == length block) (length block + prefix_len p (drop (i + 16) d)) (prefix_len p block)
  parts = ap (prefix_len p) (sym (take-append-drop 16 (drop i d)) ∙ ap (λ t. block ++ t) (drop-drop 16 i d)) ∙ prefix_len-append p block (drop (i + 16) d)

  block_long : length block ≡ 16
  block_long = length-take-le 16 (drop i d) (omega (arith, length-drop i d, room))

  pub whole_block : prefix_len p block ≡ 16 → prefix_len p (drop i d) ≡ 16 + prefix_len p (drop (i + 16) d)
  whole_block is = parts ∙ rw (block_long, is) refl

  pub in_block : prefix_len p block < 16 → prefix_len p (drop i d) ≡ prefix_len p block
  in_block less = parts ∙ ap (λ b. cond b (length block + prefix_len p (drop (i + 16) d)) (prefix_len p block)) (ne_eqb (prefix_len p block) (length block) (λ e. omega (arith, e, block_long, less)))

-- ---- a block whose first bytes are shifted out

zero_shr : (k : ℕ) → 0 / 2 ^ k ≡ 0
zero_shr k = let none : 0 * 2 ^ k ≡ 0 = omega arith in ap (λ n. n / 2 ^ k) (sym none) ∙ shl-shr 0 k

mask_drop : (k : ℕ) (ms : List Bool) → mask_l ms / 2 ^ k ≡ mask_l (drop k ms)
mask_drop zero ms = omega arith
mask_drop (suc k) [] = zero_shr (suc k)
mask_drop (suc k) (b ∷ ms) =
    let m = mask_l ms in
    let next : suc k ≡ 1 + k = omega arith in
    ap (λ j. mask_l (b ∷ ms) / 2 ^ j) next ∙ sym (shr-shr (mask_l (b ∷ ms)) 1 k) ∙ ap (λ n. n / 2 ^ k) (half b) ∙ mask_drop k ms
  where
    half : (b : Bool) → (cond b 1 0 + 2 * mask_l ms) / 2 ≡ mask_l ms
    half true = omega arith
    half false = omega arith

-- The last block, with the bytes before `from` shifted out of its mask, has the mask of the bytes from there on.
pub shifted_out : (d block : List ℕ) (y last from : ℕ) → last + 16 ≡ length d → last ≤ from → block ≡ take 16 (drop last d)
    → mask block y / 2 ^ (from - last) ≡ mask (drop from d) y
shifted_out d block y last from size less is =
    let p : ℕ → Bool = λ x. x == y in
    let k = from - last in
    let whole : block ≡ drop last d = is ∙ take_all 16 (drop last d) (omega (arith, length-drop last d, size)) in
    let there : last + k ≡ from = omega (arith, less) in
    ap (λ b. mask_l (map p b) / 2 ^ k) whole ∙ mask_drop k (map p (drop last d)) ∙ ap mask_l (drop-map p k (drop last d))
    ∙ ap (λ xs. mask_l (map p xs)) (drop-drop k last d ∙ ap (λ n. drop n d) there)

module _ (d : List ℕ) (y from found : ℕ) (short : length d < from + 16) (is : found ≡ mask (drop from d) y) where
  first_of : cond (found == 0) (length d - from) (count_trailing_zeros 64 found) ≡ prefix_len (is_other y) (drop from d)
  first_of =
      ap (λ m. cond (m == 0) (length d - from) (count_trailing_zeros 64 m)) is
      ∙ first_set_mask_l (λ x. x == y) (drop from d) (length d - from) (length-drop from d) (omega (arith, short))

  pub none_found : from ≤ length d → found ≡ 0 → length d ≡ from + prefix_len (is_other y) (drop from d)
  none_found within none =
      let first = ap (λ b. cond b (length d - from) (count_trailing_zeros 64 found)) (sym (ap (λ m. m == 0) none)) ∙ first_of in
      omega (arith, first, within)

  pub one_found : (found == 0) ≡ false → from + count_trailing_zeros 64 found ≡ from + prefix_len (is_other y) (drop from d)
  one_found some = ap (λ n. from + n) (ap (λ b. cond b (length d - from) (count_trailing_zeros 64 found)) (sym some) ∙ first_of)
