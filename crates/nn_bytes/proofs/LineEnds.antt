-- The first line feed stands behind the bytes that are printable.
use Rattle.std.proofs.Common.{◌≡◌, ℕ, ◌+◌, ◌-◌, ◌<◌, ◌≤◌, List, length, drop, get_or, Bool, true, false, nat_le, nat_lt, ◌&&◌, ◌==◌, leb-true, ltb-true, ltb-false, ne_eqb, refl, sym, ap, ◌∙◌, arith}
use Rattle.std.specs.List.{position_or_len, prefix_len}
use Rattle.std.proofs.lemmas.Bool.{and_parts, eq-eqb}
use Rattle.std.proofs.lemmas.List.{get_or-drop, length-drop}
use Rattle.std.proofs.lemmas.List.Sums.{fails_before_first, passes_at_first, position_or_len_is, prefix_len-le-length, prefix_len_passes}
use Rattle.nn_bytes.specs.Lines.{line_feed}
use Rattle.nn_bytes.specs.Runs.{is_printable_byte}

abbrev pub ends : ℕ → Bool
ends b = b == line_feed

no_feed : (x : ℕ) → is_printable_byte x ≡ true → ends x ≡ false
no_feed x e =
    let small = and_parts (nat_le 32 x && nat_lt x 127) _ e in
    let low = leb-true 32 x (and_parts (nat_le 32 x) _ small.0).0 in
    ne_eqb x line_feed (λ is. omega (arith, low, is))

none_within : (d : List ℕ) (n k : ℕ) → n ≡ prefix_len is_printable_byte d → k < n → ends (get_or d k 0) ≡ false
none_within d n k is less = no_feed (get_or d k 0) (prefix_len_passes is_printable_byte d k 0 (omega (arith, is, less)))

-- It stands at once behind them,
pub ends_there : (d : List ℕ) (n : ℕ) → n ≡ prefix_len is_printable_byte d → n < length d → get_or d n 0 ≡ line_feed → position_or_len ends d ≡ n
ends_there d n is within there = position_or_len_is ends d n 0 (omega (arith, within)) (λ k. none_within d n k is) (λ _. eq-eqb (get_or d n 0) line_feed there)

-- or further on.
pub ends_behind : (d : List ℕ) (n at : ℕ) → n ≡ prefix_len is_printable_byte d → at ≡ position_or_len ends (drop n d) → at ≤ length (drop n d) → position_or_len ends d ≡ n + at
ends_behind d n at is found within = position_or_len_is ends d (n + at) 0 bound before there
  where
    bound : n + at ≤ length d
    bound = omega (arith, within, length-drop n d, is, prefix_len-le-length is_printable_byte d)

    before : (k : ℕ) → k < n + at → ends (get_or d k 0) ≡ false
    before k less = by (nat_lt k n) refl
      where
        by : (b : Bool) → nat_lt k n ≡ b → ends (get_or d k 0) ≡ false
        by true near = none_within d n k is (ltb-true k n near)
        by false far =
            let reached = ltb-false k n far in
            let all : n + (k - n) ≡ k = omega (arith, reached) in
            ap (λ i. ends (get_or d i 0)) (sym all) ∙ ap ends (sym (get_or-drop n d (k - n) 0))
            ∙ fails_before_first ends (drop n d) (k - n) 0 (omega (arith, found, less, reached))

    there : n + at < length d → ends (get_or d (n + at) 0) ≡ true
    there less =
        let inside : position_or_len ends (drop n d) < length (drop n d) = omega (arith, found, less, length-drop n d) in
        ap ends (sym (get_or-drop n d at 0)) ∙ ap (λ i. ends (get_or (drop n d) i 0)) found ∙ passes_at_first ends (drop n d) 0 inside
