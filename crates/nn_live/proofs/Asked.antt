-- The word by which a caller promotes a service at a txid.
use Rattle.std.proofs.Common.{◌≡◌, ℕ, ◌<◌, ◌≤◌, ◌+◌, ◌-◌, ◌==◌, ◌&&◌, ◌^◌, not, length, take, drop, List, [], ◌∷◌, ◌++◌, true, false, cond, bytes_eq, Option, Some, None, refl, ap, ap₂, ◌∙◌, zero, suc, arith}
use Rattle.std.specs.Prelude.{codes, decimal, option_map}
use Rattle.std.specs.List.{prefix_len}
use Rattle.std.specs.Char.{digit_value}
use Rattle.std.specs.Str.{is_utf8, chars}
use Rattle.std.specs.Str.Parse.{AllDigits}
use lib.Utf8.{encode}
use Rattle.std.proofs.lemmas.Bool.{le-leb, ne_eqb, eq-eqb}
use Rattle.std.proofs.lemmas.Fmt.{decimal_is_IsNumeral, length-decimal-le, IsAscii-decimal}
use Rattle.std.proofs.lemmas.Str.{is_utf8-from_IsUtf8, IsUtf8-from_ascii, IsUtf8-from_is_utf8, IsUtf8-append}
use Rattle.std.proofs.lemmas.Str.Parse.{digit_from_value}
use Rattle.std.proofs.Math.Seq.{take-length}
use Rattle.nn_bytes.specs.Runs.{is_other}
use Rattle.nn_bytes.specs.Pieces.{is_unbroken}
use Rattle.nn_live.specs.Words.{number_word, promotion_at, promotion_of, promotion_in, word_alone, behind_prefix, or_else, unknown_word, word_in}
use Rattle.nn_live.proofs.WordTexts.{written}
use Rattle.nn_live.specs.declared.word.Word.{Word}
use Rattle.nn_live.specs.declared.word.Word.TheVariants as kind

-- ---- Among digits there is no space.

no_space : (c : ℕ) → digit_value c < 10 → (c == 32) ≡ false
no_space c d = ne_eqb c 32 (λ e. absurd (let within = digit_from_value c d in omega (arith, e, within)))

all_others : (ds : List ℕ) → AllDigits 10 ds → prefix_len (is_other 32) ds ≡ length ds
all_others [] d = refl
all_others (c ∷ ds) d = ap (λ b. cond (not b) (1 + prefix_len (is_other 32) ds) 0) (no_space c d.0) ∙ ap (λ k. 1 + k) (all_others ds d.1) ∙ one_more (length ds)
  where
    one_more : (k : ℕ) → 1 + k ≡ suc k
    one_more k = omega arith

digits_behind : (n : ℕ) (ds : List ℕ) → AllDigits 10 ds → AllDigits 10 (drop n ds)
digits_behind zero ds d = d
digits_behind (suc n) [] d = tt
digits_behind (suc n) (c ∷ ds) d = digits_behind n ds d.1

no_lost : (ds : List ℕ) → AllDigits 10 ds → bytes_eq ds (codes " lost") ≡ false
no_lost [] d = refl
no_lost (c ∷ ds) d = ap (λ b. b && bytes_eq ds (codes "lost")) (no_space c d.0)

module _ (n : ℕ) (small : n < 2 ^ 63) where
  all_digits : AllDigits 10 (decimal n)
  all_digits = (decimal_is_IsNumeral n (omega (arith, small))).0.1

  at_its_end : promotion_of false (decimal n) ≡ Some (kind.Promote n 0 false)
  at_its_end =
      ap (λ k. promotion_at false k (number_word (take k (decimal n))) (decimal n)) (all_others (decimal n) all_digits)
      ∙ ap (λ t. promotion_at false (length (decimal n)) (number_word t) (decimal n)) (take-length (decimal n))
      ∙ ap (λ o. promotion_at false (length (decimal n)) o (decimal n)) (written (decimal n) n small refl)
      ∙ ap (λ b. cond b (Some (kind.Promote n 0 false)) (behind (length (decimal n)) (decimal n))) (eq-eqb (length (decimal n)) (length (decimal n)) refl)
    where
      behind : ℕ → List ℕ → Option Word
      behind space text = cond (bytes_eq (take 7 (drop space text)) (codes " epoch ")) (option_map (λ epoch. kind.Promote n epoch false) (number_word (drop 7 (drop space text)))) None

  alone : promotion_in (decimal n) ≡ Some (kind.Promote n 0 false)
  alone =
      ap (λ b. cond b (promotion_of true (take (length (decimal n) - 5) (decimal n))) (promotion_of false (decimal n)))
      (no_lost (drop (length (decimal n) - 5) (decimal n)) (digits_behind (length (decimal n) - 5) (decimal n) all_digits))
      ∙ at_its_end

  prefix_is_text : is_utf8 (codes "promote ") ≡ true
  unfolding is_utf8 chars encode
  prefix_is_text = refl

  is_text : is_utf8 (codes "promote " ++ decimal n) ≡ true
  is_text = is_utf8-from_IsUtf8 _ (IsUtf8-append (codes "promote ") (decimal n) (IsUtf8-from_is_utf8 (codes "promote ") prefix_is_text) (IsUtf8-from_ascii (decimal n) (IsAscii-decimal n (omega (arith, small)))))

  is_short : length (codes "promote " ++ decimal n) ≤ 65536
  is_short = (let few = length-decimal-le 20 n (omega arith) (omega (arith, small)) (omega (arith, small)) in omega (arith, few))

  pub promotion_is_read : word_in (codes "promote " ++ decimal n) ≡ Some (kind.Promote n 0 false)
  unfolding word_in word_alone
  promotion_is_read =
      ap₂ (λ s u. cond s (or_else (cond u (or_else (word_alone text) (behind_prefix text)) None) (unknown_word text)) None) (le-leb (length text) 65536 is_short) is_text
      ∙ ap (λ o. or_else o (Some kind.Unknown)) alone
    where
      text : List ℕ
      text = codes "promote " ++ decimal n

  no_line_feed : (ds : List ℕ) → AllDigits 10 ds → is_unbroken ds ≡ true
  no_line_feed [] d = refl
  no_line_feed (c ∷ ds) d =
      let within = digit_from_value c d.0 in
      ap₂ (λ a b. not a && b) (ne_eqb c 10 (λ e. absurd (omega (arith, e, within)))) (no_line_feed ds d.1)

  pub promotion_is_unbroken : is_unbroken (codes "promote " ++ decimal n) ≡ true
  promotion_is_unbroken = no_line_feed (decimal n) all_digits
