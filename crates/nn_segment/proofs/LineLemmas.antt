-- Lines, one after another.
use Rattle.std.proofs.Common.{◌≡◌, ℕ, suc, ◌+◌, ◌-◌, ◌<◌, List, [], ◌∷◌, ◌++◌, length, map, take, drop, get_or, Bool, true, false, cond, not, eqb, Result, Ok, refl, sym, ap, ◌∙◌, arith, append_assoc, count_by}
use Rattle.std.proofs.lemmas.Bool.{eqb-true}
use Rattle.std.proofs.lemmas.List.{map-append}
use Rattle.std.proofs.lemmas.List.Sums.{sum_by-cons}
use Rattle.std.specs.List.{onto_first, position_or_len}
use Rattle.nn_bytes.specs.Lines.{line_feed}
use Rattle.nn_edits.specs.Reading.{edit_of_line}
use Rattle.nn_edits.specs.declared.fault.LineFault.{LineFault}
use Rattle.nn_types.specs.declared.tx.Tx.{Tx}
use Rattle.nn_segment.specs.Lines.{lines_of, is_ended, reads_of}

abbrev pub ends : ℕ → Bool
ends b = eqb b line_feed

-- ---- the first line

onto : (b : ℕ) (c : ℕ) (bytes : List ℕ) (m : ℕ) → lines_of (c ∷ bytes) ≡ take m (c ∷ bytes) ∷ lines_of (drop (m + 1) (c ∷ bytes))
    → onto_first b (lines_of (c ∷ bytes)) ≡ take (1 + m) (b ∷ c ∷ bytes) ∷ lines_of (drop (1 + m + 1) (b ∷ c ∷ bytes))
onto b c bytes m later =
    ap (onto_first b) later
    ∙ ap (λ k. take k (b ∷ c ∷ bytes) ∷ lines_of (drop (m + 1) (c ∷ bytes))) (let one : suc m ≡ 1 + m = omega arith in one)
    ∙ ap (λ k. take (1 + m) (b ∷ c ∷ bytes) ∷ lines_of (drop k (b ∷ c ∷ bytes))) (let two : suc (m + 1) ≡ 1 + m + 1 = omega arith in two)

pub first_line : (bytes : List ℕ) → 0 < length bytes → lines_of bytes ≡ take (position_or_len ends bytes) bytes ∷ lines_of (drop (position_or_len ends bytes + 1) bytes)
first_line [] some = absurd (omega arith)
first_line (b ∷ []) some = at (ends b)
  where
    at : (t : Bool) → cond t ([] ∷ []) ((b ∷ []) ∷ []) ≡ take (cond (not t) (1 + 0) 0) (b ∷ []) ∷ lines_of (drop (cond (not t) (1 + 0) 0 + 1) (b ∷ []))
    at true = refl
    at false = refl
first_line (b ∷ c ∷ bytes) some = at (ends b) (onto b c bytes (position_or_len ends (c ∷ bytes)) (first_line (c ∷ bytes) (omega arith)))
  where
    m : ℕ
    m = position_or_len ends (c ∷ bytes)

    at : (t : Bool) → onto_first b (lines_of (c ∷ bytes)) ≡ take (1 + position_or_len ends (c ∷ bytes)) (b ∷ c ∷ bytes) ∷ lines_of (drop (1 + position_or_len ends (c ∷ bytes) + 1) (b ∷ c ∷ bytes))
        → cond t ([] ∷ lines_of (c ∷ bytes)) (onto_first b (lines_of (c ∷ bytes)))
        ≡ take (cond (not t) (1 + position_or_len ends (c ∷ bytes)) 0) (b ∷ c ∷ bytes) ∷ lines_of (drop (cond (not t) (1 + position_or_len ends (c ∷ bytes)) 0 + 1) (b ∷ c ∷ bytes))
    at true later = refl
    at false later = later

-- ---- reading line by line

pub reads-nil : reads_of [] ≡ []
unfolding reads_of
reads-nil = refl

pub first_read : (bytes : List ℕ) (n : ℕ) → 0 < length bytes → n ≡ position_or_len ends bytes → reads_of bytes ≡ edit_of_line (take n bytes) ∷ reads_of (drop (n + 1) bytes)
unfolding reads_of
first_read bytes n some is =
    ap (map edit_of_line) (first_line bytes some) ∙ ap (λ m. edit_of_line (take m bytes) ∷ map edit_of_line (lines_of (drop (m + 1) bytes))) (sym is)

-- one more line that was read
pub one_more : (txs : List Tx) (tx : Tx) (read : Result Tx LineFault) (rest : List (Result Tx LineFault)) → read ≡ Ok tx
    → map Ok txs ++ read ∷ rest ≡ map Ok (txs ++ tx ∷ []) ++ rest
one_more txs tx read rest is =
    ap (λ r. map Ok txs ++ r ∷ rest) is
    ∙ sym (append_assoc (map Ok txs) (Ok tx ∷ []) rest)
    ∙ ap (λ rs. rs ++ rest) (sym (map-append Ok txs (tx ∷ [])))

-- ---- the last byte

pub ended_last : (bytes : List ℕ) → 0 < length bytes → is_ended bytes ≡ ends (get_or bytes (length bytes - 1) 0)
ended_last [] some = absurd (omega arith)
ended_last (b ∷ []) some = refl
ended_last (b ∷ c ∷ bytes) some =
    ended_last (c ∷ bytes) (omega arith)
    ∙ ap (λ k. ends (get_or (b ∷ c ∷ bytes) k 0)) (let same : suc (suc (length bytes) - 1) ≡ suc (suc (length bytes)) - 1 = omega arith in same)

length-onto : (b : ℕ) (lines : List (List ℕ)) → 0 < length lines → length (onto_first b lines) ≡ length lines
length-onto b [] some = absurd (omega arith)
length-onto b (line ∷ lines) some = refl

count-cons : (b : ℕ) (bytes : List ℕ) → count_by ends (b ∷ bytes) ≡ cond (ends b) 1 0 + count_by ends bytes
count-cons b bytes = sum_by-cons (λ x. cond (ends x) 1 0) b bytes

-- a last line with no line feed is one more than there are line feeds
pub torn_lines : (bytes : List ℕ) → 0 < length bytes → is_ended bytes ≡ false → length (lines_of bytes) ≡ count_by ends bytes + 1
torn_lines [] some torn = absurd (omega arith)
torn_lines (b ∷ []) some torn =
    ap (λ t. length (cond t ([] ∷ []) ((b ∷ []) ∷ []))) torn ∙ sym (ap (λ n. n + 1) (count-cons b [] ∙ ap (λ t. cond t 1 0 + 0) torn))
torn_lines (b ∷ c ∷ bytes) some torn =
    at (ends b) (torn_lines (c ∷ bytes) (omega arith) torn) ∙ sym (ap (λ n. n + 1) (count-cons b (c ∷ bytes)))
  where
    at : (t : Bool) → length (lines_of (c ∷ bytes)) ≡ count_by ends (c ∷ bytes) + 1
        → length (cond t ([] ∷ lines_of (c ∷ bytes)) (onto_first b (lines_of (c ∷ bytes)))) ≡ cond t 1 0 + count_by ends (c ∷ bytes) + 1
    at true later = omega (arith, later)
    at false later = length-onto b (lines_of (c ∷ bytes)) (omega (arith, later)) ∙ omega (arith, later)

-- ---- tests for no bytes

pub some_bytes : (bytes : List ℕ) (r : Bool) → r ≡ eqb (length bytes) 0 → r ≡ false → 0 < length bytes
some_bytes [] r is none = absurd (cc)
some_bytes (b ∷ bytes) r is none = omega arith

pub no_bytes : (bytes : List ℕ) (r : Bool) → r ≡ eqb (length bytes) 0 → r ≡ true → bytes ≡ []
no_bytes [] r is none = refl
no_bytes (b ∷ bytes) r is none = let e = eqb-true (suc (length bytes)) 0 (sym is ∙ none) in absurd (omega (arith, e))
