-- Runs of printable bytes, and of bytes that need no escape.
use Rattle.std.proofs.Common.{length, ◌==◌, ◌≡◌, ℕ, zero, suc, ◌+◌, ◌-◌, ◌<◌, Bool, true, false, cond, nat_le, nat_lt, ◌&&◌, List, [], ◌∷◌, get_or, take, ltb-true, ltb-false, arith, refl, sym, subst, ap, ap₂, ◌∙◌, drop, ◌≤◌}
use Rattle.std.specs.List.{list_all, prefix_len}
use Rattle.std.specs.Str.{IsUtf8}
use Rattle.std.proofs.lemmas.Bool.{and_from, and_parts, eqb-false, eqb-true}
use Rattle.std.proofs.lemmas.List.{drop-take, get_or-take, get_or_past, length-drop, length-take, take-append-drop, take-take, take_all}
use Rattle.std.proofs.lemmas.List.Folds.{list_all-append, list_all_at}
use Rattle.std.proofs.lemmas.List.Sums.{prefix_len-le-length, prefix_len_stops}
use Rattle.std.proofs.lemmas.Str.{IsUtf8-from_ascii}
use Rattle.nn_bytes.specs.Runs.{IsPrintableTo, is_printable, is_printable_byte, is_unescaped, is_unescaped_byte, is_unescaped_line}

-- ---- A run passes, and is UTF-8.

pub run_passes : (p : ℕ → Bool) (xs : List ℕ) → list_all p (take (prefix_len p xs) xs) ≡ true
run_passes p [] = refl
run_passes p (x ∷ xs) = at (p x) refl (run_passes p xs)
  where
    at : (b : Bool) → p x ≡ b → list_all p (take (prefix_len p xs) xs) ≡ true → list_all p (take (cond b (1 + prefix_len p xs) 0) (x ∷ xs)) ≡ true
    at true e ih =
        let next : 1 + prefix_len p xs ≡ suc (prefix_len p xs) = omega arith in
        ap (λ k. list_all p (take k (x ∷ xs))) next ∙ ap₂ (λ a b. a && b) e ih
    at false e ih = refl

ascii_byte : (x : ℕ) → is_printable_byte x ≡ true → x < 128
ascii_byte x e =
    let small = and_parts (nat_le 32 x && nat_lt x 127) _ e in
    let below = and_parts (nat_le 32 x) _ small.0 in
    omega (arith, ltb-true x 127 below.1)

pub all_ascii : (xs : List ℕ) → is_printable xs ≡ true → (i : ℕ) → get_or xs i 0 < 128
all_ascii [] e i = omega arith
all_ascii (x ∷ xs) e zero = ascii_byte x (and_parts (is_printable_byte x) _ e).0
all_ascii (x ∷ xs) e (suc i) = all_ascii xs (and_parts (is_printable_byte x) _ e).1 i

pub printable_utf8 : (xs : List ℕ) → is_printable xs ≡ true → IsUtf8 xs
printable_utf8 xs e = IsUtf8-from_ascii xs (all_ascii xs e)

-- ---- All bytes pass where the run is the whole text.

pub whole_run : (p : ℕ → Bool) (xs : List ℕ) → (prefix_len p xs == length xs) ≡ list_all p xs
whole_run p xs = at (prefix_len p xs == length xs) refl
  where
    at : (b : Bool) → (prefix_len p xs == length xs) ≡ b → (prefix_len p xs == length xs) ≡ list_all p xs
    at true e =
        let whole = eqb-true (prefix_len p xs) (length xs) e in
        e ∙ sym (run_passes p xs) ∙ ap (list_all p) (take_all (prefix_len p xs) xs (omega (arith, whole)))
    at false e =
        let less : prefix_len p xs < length xs = omega (arith, prefix_len-le-length p xs, eqb-false (prefix_len p xs) (length xs) e) in
        e ∙ sym (list_all_at p xs (prefix_len p xs) 0 less (prefix_len_stops p xs 0 less))

-- ---- The last block of a text, where all bytes before its front pass.

run_from : (p : ℕ → Bool) (xs : List ℕ) (k : ℕ) → k ≤ prefix_len p xs → prefix_len p xs ≡ k + prefix_len p (drop k xs)
run_from p xs zero le = omega arith
run_from p [] (suc k) le = absurd (omega (arith, le))
run_from p (x ∷ xs) (suc k) le = at (p x) (run_from p xs k) le
  where
    at : (b : Bool) → (k ≤ prefix_len p xs → prefix_len p xs ≡ k + prefix_len p (drop k xs)) → suc k ≤ cond b (1 + prefix_len p xs) 0
        → cond b (1 + prefix_len p xs) 0 ≡ suc k + prefix_len p (drop k xs)
    at true later le = omega (arith, later (omega (arith, le)))
    at false later le = absurd (omega (arith, le))

pub last_block : (p : ℕ → Bool) (d block : List ℕ) (i last run : ℕ) → last + 16 ≡ length d → last ≤ i → prefix_len p d ≡ i + prefix_len p (drop i d)
    → block ≡ take 16 (drop last d) → run ≡ prefix_len p block → last + run ≡ prefix_len p d
last_block p d block i last run size before so_far loaded is =
    let whole : take 16 (drop last d) ≡ drop last d = take_all 16 (drop last d) (omega (arith, length-drop last d, size)) in
    let here : run ≡ prefix_len p (drop last d) = is ∙ ap (prefix_len p) (loaded ∙ whole) in
    omega (arith, here, run_from p d last (omega (arith, so_far, before)))

-- ---- Where all bytes pass, those of each part do.

pub halves : (p : ℕ → Bool) (xs : List ℕ) (n : ℕ) → list_all p xs ≡ true → (list_all p (take n xs) ≡ true) × (list_all p (drop n xs) ≡ true)
halves p xs n e = and_parts (list_all p (take n xs)) _ (sym (list_all-append p (take n xs) (drop n xs)) ∙ ap (list_all p) (take-append-drop n xs) ∙ e)

pub both_halves : (p : ℕ → Bool) (xs : List ℕ) (n : ℕ) → list_all p (take n xs) ≡ true → list_all p (drop n xs) ≡ true → list_all p xs ≡ true
both_halves p xs n front rest =
    ap (list_all p) (sym (take-append-drop n xs)) ∙ list_all-append p (take n xs) (drop n xs) ∙ and_from _ _ front rest

-- ---- A line that needs no escape.

unescaped_if : (xs : List ℕ) → is_printable xs ≡ true → is_unescaped xs ≡ true
unescaped_if [] e = refl
unescaped_if (x ∷ xs) e =
    let p = and_parts (is_printable_byte x) _ e in
    let byte = and_parts (nat_le 32 x && nat_lt x 127) _ p.0 in
    let low = and_parts (nat_le 32 x) _ byte.0 in
    and_from _ _ (and_from _ _ low.0 byte.1) (unescaped_if xs p.1)

pub printable_line : (line : List ℕ) (n : ℕ) → length line - 1 ≤ n → is_printable (take n line) ≡ true → is_unescaped_line line ≡ true
printable_line line n most e =
    let last = length line - 1 in
    ap is_unescaped (sym (take-take last n line most)) ∙ (halves is_unescaped_byte (take n line) last (unescaped_if (take n line) e)).0

pub printable_whole : (line : List ℕ) → is_printable line ≡ true → is_unescaped_line line ≡ true
printable_whole line e = (halves is_unescaped_byte line (length line - 1) (unescaped_if line e)).0

-- The bytes up to one that is not printable need no escape, and those behind it up to the last.
pub unescaped_behind : (line : List ℕ) (n : ℕ) → n ≤ length line - 1 → is_printable (take n line) ≡ true
    → is_unescaped (take (length line - 1 - n) (drop n line)) ≡ true → is_unescaped_line line ≡ true
unescaped_behind line n less front rest =
    let last = length line - 1 in
    let all : n + (last - n) ≡ last = omega (arith, less) in
    let same : drop n (take last line) ≡ take (last - n) (drop n line) = ap (λ k. drop n (take k line)) (sym all) ∙ drop-take n (last - n) line in
    both_halves is_unescaped_byte (take last line) n
    (ap is_unescaped (take-take n last line less) ∙ unescaped_if (take n line) front)
    (ap is_unescaped same ∙ rest)

-- A carriage return behind printable bytes is ASCII as they are.
pub return_is_ascii : (line : List ℕ) (n : ℕ) → length line ≡ n + 1 → is_printable (take n line) ≡ true → get_or line n 0 ≡ 13
    → (i : ℕ) → get_or line i 0 < 128
return_is_ascii line n size front there i = at (nat_lt i n) (i == n) refl refl
  where
    at : (less same : Bool) → nat_lt i n ≡ less → (i == n) ≡ same → get_or line i 0 < 128
    at true same less is = subst (λ x. x < 128) (get_or-take n line i 0 (ltb-true i n less)) (all_ascii (take n line) front i)
    at false true less is = omega (arith, ap (λ k. get_or line k 0) (eqb-true i n is) ∙ there)
    at false false less is = omega (arith, get_or_past line i 0 (omega (arith, size, ltb-false i n less, eqb-false i n is)))

-- ---- The run of a line.

pub front_printable : (line : List ℕ) (n : ℕ) → n ≡ prefix_len is_printable_byte line → is_printable (take n line) ≡ true
front_printable line n is = ap (λ k. is_printable (take k line)) is ∙ run_passes is_printable_byte line

pub whole_printable : (line : List ℕ) (n : ℕ) → n ≡ length line → is_printable (take n line) ≡ true → is_printable line ≡ true
whole_printable line n whole e = ap is_printable (sym (take_all n line (omega (arith, whole)))) ∙ e

-- It goes on behind bytes that are printable.
pub longer_run : (line : List ℕ) (n more : ℕ) → IsPrintableTo n line → more ≡ prefix_len is_printable_byte (take (length line - n) (drop n line))
    → is_printable (take (n + more) line) ≡ true
longer_run line n more known is =
    let rest : take (length line - n) (drop n line) ≡ drop n line = take_all (length line - n) (drop n line) (omega (arith, length-drop n line)) in
    both_halves is_printable_byte (take (n + more) line) n
    (ap is_printable (take-take n (n + more) line (omega arith)) ∙ known.1)
    (ap is_printable (drop-take n more line) ∙ front_printable (drop n line) more (is ∙ ap (prefix_len is_printable_byte) rest))

-- A run of some bytes is one of the line that they begin with, if the line is as long.
pub run_of_line : (bytes : List ℕ) (n at : ℕ) → n ≡ prefix_len is_printable_byte bytes → n ≤ at → at ≤ length bytes → IsPrintableTo n (take at bytes)
run_of_line bytes n at is less within = (
  omega (arith, less, within, length-take at bytes),
  ap is_printable (take-take n at bytes less) ∙ front_printable bytes n is,
)
