-- A text in quotes in a line without escapes: its bytes are its content.
use Rattle.std.proofs.Common.{◌≡◌, ℕ, suc, ◌+◌, ◌-◌, ◌<◌, ◌≤◌, length, get_or, List, [], ◌∷◌, ◌++◌, take, drop, Bool, true, false, cond, not, nat_le, nat_lt, ◌&&◌, ◌||◌, ◌==◌, le-ltb, leb-true, refl, sym, ap, ◌∙◌, arith}
use Rattle.std.proofs.lemmas.Bool.{ne_eqb, and_parts, or_parts, not-false, not-true, eqb-false, eqb-true, ltb-false}
use Rattle.std.proofs.lemmas.List.{drop-take, get_or-drop, length-append, length-drop, length-take-le, take-append-drop, take-take}
use Rattle.std.proofs.lemmas.List.Sums.{prefix_len_stops}
use Rattle.std.proofs.lemmas.List.Folds.{prefix_len-append}
use Rattle.std.specs.List.{prefix_len}
use Rattle.std.specs.Str.{IsUtf8, IsCharBoundary}
use Rattle.std.proofs.lemmas.Str.{IsCharBoundary-after_ascii}
use Rattle.nn_bytes.specs.Runs.{is_unescaped, is_unescaped_byte, is_unescaped_line}
use Rattle.nn_bytes.proofs.PrintableRuns.{halves}
use Rattle.nn_plain.specs.Bytes.{is_no_quote}
use Rattle.nn_types.proofs.Lists.{between_places, byte_there}
use Rattle.json.specs.Print.{escape, escape_byte}
use Rattle.json.specs.Run.{is_plain}
use Rattle.json.proofs.Printed.Strings.{escape_byte_plain}

-- ---- bytes that need no escape

byte_plain : (x : ℕ) → true ≡ is_plain x → escape_byte x ≡ x ∷ []
byte_plain x e =
    let none = or_parts ((x == 34) || (x == 92)) _ (not-true _ (sym e)) in
    let tests = or_parts (x == 34) _ none.0 in
    escape_byte_plain x (eqb-false x 34 tests.0) (eqb-false x 92 tests.1) (ltb-false x 32 none.1)

run_more : (p : Bool) (x n : ℕ) (xs : List ℕ) → p ≡ is_plain x → escape (take n xs) ≡ take n xs
    → escape (take (cond p (1 + n) 0) (x ∷ xs)) ≡ take (cond p (1 + n) 0) (x ∷ xs)
run_more false x n xs e ih = refl
run_more true x n xs e ih =
    let next : suc n ≡ 1 + n = omega arith in
    let byte = byte_plain x e in
    ap (λ k. escape (take k (x ∷ xs))) (sym next) ∙ (λ i. byte i ++ ih i) ∙ ap (λ k. take k (x ∷ xs)) next

run_plain : (xs : List ℕ) → escape (take (prefix_len is_plain xs) xs) ≡ take (prefix_len is_plain xs) xs
run_plain [] = refl
run_plain (x ∷ xs) = run_more (is_plain x) x (prefix_len is_plain xs) xs refl (run_plain xs)

plain_text : (d : List ℕ) (i stop : ℕ) → stop ≡ i + prefix_len is_plain (drop i d) → escape (take (stop - i) (drop i d)) ≡ take (stop - i) (drop i d)
plain_text d i stop is =
    let n : prefix_len is_plain (drop i d) ≡ stop - i = omega (arith, is) in
    ap (λ k. escape (take k (drop i d))) (sym n) ∙ run_plain (drop i d) ∙ ap (λ k. take k (drop i d)) n

-- ---- in a line without escapes only a quote ends the run

same_stop : (x : ℕ) → is_unescaped_byte x ≡ true → is_no_quote x ≡ is_plain x
same_stop x e =
    let p = and_parts (nat_le 32 x) _ e in
    rw (not-true _ p.1, le-ltb x 32 (leb-true 32 x p.0)) (at (x == 34))
  where
    at : (b : Bool) → not b ≡ not ((b || false) || false)
    at true = refl
    at false = refl

same_run : (xs : List ℕ) → is_unescaped (take (prefix_len is_no_quote xs) xs) ≡ true → prefix_len is_no_quote xs ≡ prefix_len is_plain xs
same_run [] e = refl
same_run (x ∷ xs) e = at (x == 34) refl (same_run xs) e
  where
    at : (quote : Bool) → (x == 34) ≡ quote
        → (is_unescaped (take (prefix_len is_no_quote xs) xs) ≡ true → prefix_len is_no_quote xs ≡ prefix_len is_plain xs)
        → is_unescaped (take (cond (not quote) (1 + prefix_len is_no_quote xs) 0) (x ∷ xs)) ≡ true
        → cond (not quote) (1 + prefix_len is_no_quote xs) 0 ≡ prefix_len is_plain (x ∷ xs)
    at true is later e =
        let stop : is_plain x ≡ false = ap (λ b. not ((b || (x == 92)) || nat_lt x 32)) is in
        ap (λ b. cond b (1 + prefix_len is_plain xs) 0) (sym stop)
    at false is later e =
        let next : suc (prefix_len is_no_quote xs) ≡ 1 + prefix_len is_no_quote xs = omega arith in
        let bytes : (is_unescaped_byte x && is_unescaped (take (prefix_len is_no_quote xs) xs)) ≡ true = ap (λ k. is_unescaped (take k (x ∷ xs))) next ∙ e in
        let parts = and_parts (is_unescaped_byte x) _ bytes in
        let plain : true ≡ is_plain x = sym (ap not is) ∙ same_stop x parts.0 in
        (λ i. cond (plain i) (1 + later parts.1 i) 0)

-- The bytes of a text in quotes are none of the line's last one.
within_line : (d : List ℕ) (i n : ℕ) → is_unescaped_line d ≡ true → i + n < length d → is_unescaped (take n (drop i d)) ≡ true
within_line d i n unescaped less =
    let last = length d - 1 in
    let all : i + (last - i) ≡ last = omega (arith, less) in
    let same : take (last - i) (drop i d) ≡ drop i (take last d) = sym (drop-take i (last - i) d) ∙ ap (λ k. drop i (take k d)) all in
    let rest = ap is_unescaped same ∙ (halves is_unescaped_byte (take last d) i unescaped).1 in
    ap is_unescaped (sym (take-take n (last - i) (drop i d) (omega (arith, less)))) ∙ (halves is_unescaped_byte (take (last - i) (drop i d)) n rest).0

pub quoted_text : (d : List ℕ) (i stop : ℕ) → is_unescaped_line d ≡ true → stop < length d → stop ≡ i + prefix_len is_no_quote (drop i d)
    → escape (take (stop - i) (drop i d)) ≡ take (stop - i) (drop i d)
quoted_text d i stop unescaped within is =
    let bytes = within_line d i (prefix_len is_no_quote (drop i d)) unescaped (omega (arith, within, is)) in
    plain_text d i stop (is ∙ ap (λ n. i + n) (same_run (drop i d) bytes))

-- ---- a quote in the next 16 bytes

pub in_block : (p : ℕ → Bool) (d : List ℕ) (i : ℕ) → i + 16 ≤ length d → prefix_len p (take 16 (drop i d)) < 16 → prefix_len p (take 16 (drop i d)) ≡ prefix_len p (drop i d)
in_block p d i room less =
    let block = take 16 (drop i d) in
    let long : length block ≡ 16 = length-take-le 16 (drop i d) (omega (arith, length-drop i d, room)) in
    sym (
    ap (prefix_len p) (sym (take-append-drop 16 (drop i d)))
    ∙ prefix_len-append p block (drop 16 (drop i d))
    ∙ ap (λ b. cond b (length block + prefix_len p (drop 16 (drop i d))) (prefix_len p block)) (ne_eqb (prefix_len p block) (length block) (λ e. omega (arith, e, long, less)))
    )

-- ---- the two quotes

pub quote_there : (d : List ℕ) (i stop : ℕ) → stop ≡ i + prefix_len is_no_quote (drop i d) → stop < length d → get_or d stop 0 ≡ 34
quote_there d i stop is within =
    let run = prefix_len is_no_quote (drop i d) in
    let stops = prefix_len_stops is_no_quote (drop i d) 0 (omega (arith, length-drop i d, is, within)) in
    ap (λ n. get_or d n 0) is ∙ sym (get_or-drop i d run 0) ∙ eqb-true _ 34 (not-false _ stops)

pub between_quotes : (d : List ℕ) (from stop : ℕ) → get_or d from 0 ≡ 34 → get_or d stop 0 ≡ 34 → from < stop → drop from d ≡ 34 ∷ (take (stop - (from + 1)) (drop (from + 1) d) ++ 34 ∷ drop (stop + 1) d)
between_quotes d from stop first last less =
    byte_there d from 34 (omega arith) first
    ∙ ap (λ t. 34 ∷ t) (between_places d (from + 1) stop (omega (arith, less)) ∙ ap (λ t. take (stop - (from + 1)) (drop (from + 1) d) ++ t) (byte_there d stop 34 (omega arith) last))

pub after_quote : (d : List ℕ) (from stop : ℕ) → IsUtf8 d → get_or d from 0 ≡ 34 → from < stop → stop < length d → IsCharBoundary d (from + 1)
after_quote d from stop text first less within = IsCharBoundary-after_ascii d from text (omega (arith, less, within)) (omega (arith, first))

-- Where the text behind its last quote begins.
pub behind_quotes : (d s : List ℕ) (from to : ℕ) → to ≤ length d → drop from d ≡ 34 ∷ (s ++ 34 ∷ drop to d) → to ≡ from + 2 + length s
behind_quotes d s from to within is =
    omega (arith, within, ap length is, length-drop from d, length-append s (34 ∷ drop to d), length-drop to d)
