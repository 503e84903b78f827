-- The tokens of the rest of a line, by its first bytes. After each token blanks may stand.
use Rattle.std.proofs.Common.{◌≡◌, ◌⊎◌, ℕ, ◌+◌, List, [], ◌∷◌, ◌++◌, length, drop, get_or, Bool, true, false, refl, sym, ap, ◌∙◌, inl, inr, arith, ◌<◌, lt_of_not-le}
use Rattle.std.proofs.lemmas.List.{drop_all, get_or_past}
use Rattle.json.specs.Token.{key, begin_object, end_object, begin_array, end_array}
use Rattle.json.specs.Lex.{colon, begins_colon, between, lex, fresh, after_value, after_comma, punctuate}
use Rattle.json.specs.Print.{escape}
use Rattle.json.specs.Word.{ends_word}
use Rattle.nn_plain.specs.Bytes.{NextBegins, AtStop, EndsValue, Skips, tokens_left}
use Rattle.nn_types.proofs.Lists.{byte_there}
use Rattle.nn_plain.proofs.FirstToken.{key_then, blank_next, colon_next, no_colon, ends, comma_here, open_here, open_after_comma, open_array_here}

pub none_left : (b : Bool) → tokens_left b [] ≡ []
unfolding lex punctuate
none_left true = refl
none_left false = refl

return_here : (b : Bool) → tokens_left b (13 ∷ []) ≡ []
unfolding lex punctuate
return_here true = refl
return_here false = refl

close_here : (b : Bool) (r : List ℕ) → tokens_left b (125 ∷ r) ≡ end_object ∷ punctuate after_value (lex between r)
unfolding lex punctuate
close_here true r = refl
close_here false r = refl

close_array_here : (b : Bool) (r : List ℕ) → tokens_left b (93 ∷ r) ≡ end_array ∷ punctuate after_value (lex between r)
unfolding lex punctuate
close_array_here true r = refl
close_array_here false r = refl

-- ---- blanks

pub one_more : (d : List ℕ) (from i : ℕ) → get_or d i 0 ≡ 32 → Skips d from i → Skips d from (i + 1)
one_more d from i e so = so ∙ ap (lex between) (byte_there d i 32 (omega arith) e) ∙ blank_next (drop (i + 1) d)

pub blank_within : (d : List ℕ) (i : ℕ) → get_or d i 0 ≡ 32 → i < length d
blank_within d i e = lt_of_not-le (λ h. omega (arith, get_or_past d i 0 h, e))

word_ends : (d : List ℕ) (end next : ℕ) → (next ≡ end) ⊎ (get_or d end 0 ≡ 32) → AtStop (drop next d) → ends_word (drop end d) ≡ true
word_ends d end next (inl e) stop = ap (λ k. ends_word (drop k d)) (sym e) ∙ ap ends_word stop.2 ∙ ends stop.0 stop.1 stop.3
word_ends d end next (inr e) stop = ap ends_word (byte_there d end 32 (omega arith) e)

pub ends_value : (d : List ℕ) (end next : ℕ) → Skips d end next → (next ≡ end) ⊎ (get_or d end 0 ≡ 32) → AtStop (drop next d) → EndsValue d end next
ends_value d end next skips first stop = record {
  word = word_ends d end next first stop;
  no_key = ap begins_colon (skips ∙ ap (lex between) stop.2) ∙ no_colon stop.0 stop.1 stop.3;
  skips = skips;
}

-- ---- at a place of the line

module _ (b : Bool) (d : List ℕ) (at : ℕ) where
  pub return_left : at + 1 ≡ length d → get_or d at 0 ≡ 13 → tokens_left b (drop at d) ≡ []
  return_left last e =
      ap (tokens_left b) (byte_there d at 13 (omega arith) e ∙ ap (λ t. 13 ∷ t) (drop_all (at + 1) d (omega (arith, last)))) ∙ return_here b

  pub close_left : (next : ℕ) → get_or d at 0 ≡ 125 → Skips d (at + 1) next → tokens_left b (drop at d) ≡ end_object ∷ tokens_left false (drop next d)
  close_left next e skips =
      ap (tokens_left b) (byte_there d at 125 (omega arith) e) ∙ close_here b (drop (at + 1) d) ∙ ap (λ ls. end_object ∷ punctuate after_value ls) skips

  pub close_array_left : (next : ℕ) → get_or d at 0 ≡ 93 → Skips d (at + 1) next → tokens_left b (drop at d) ≡ end_array ∷ tokens_left false (drop next d)
  close_array_left next e skips =
      ap (tokens_left b) (byte_there d at 93 (omega arith) e) ∙ close_array_here b (drop (at + 1) d) ∙ ap (λ ls. end_array ∷ punctuate after_value ls) skips

  -- The place of a comma is left, and the key or item comes next.
  after_the_comma : (start : ℕ) → get_or d at 0 ≡ 44 → Skips d (at + 1) start → tokens_left false (drop at d) ≡ punctuate after_comma (lex between (drop start d))
  after_the_comma start e skips =
      ap (λ t. punctuate after_value (lex between t)) (byte_there d at 44 (omega arith) e) ∙ comma_here (drop (at + 1) d) ∙ ap (punctuate after_comma) skips

  pub key_left : (start end sep next : ℕ) (s : List ℕ) → NextBegins b d at start → escape s ≡ s → drop start d ≡ 34 ∷ (s ++ 34 ∷ drop end d)
      → Skips d end sep → get_or d sep 0 ≡ 58 → Skips d (sep + 1) next → tokens_left b (drop at d) ≡ key s ∷ tokens_left true (drop next d)
  key_left start end sep next s begins e is before there after = first begins
    where
      lexemes : lex between (drop end d) ≡ colon ∷ lex between (drop next d)
      lexemes = before ∙ ap (lex between) (byte_there d sep 58 (omega arith) there) ∙ colon_next (drop (sep + 1) d) ∙ ap (λ ls. colon ∷ ls) after

      first : NextBegins b d at start → tokens_left b (drop at d) ≡ key s ∷ tokens_left true (drop next d)
      first (inl h) =
          ap (λ x. tokens_left x (drop at d)) h.0
          ∙ key_then fresh s (drop at d) (drop end d) (lex between (drop next d)) refl e (ap (λ k. drop k d) (sym h.1) ∙ is) lexemes
      first (inr h) =
          ap (λ x. tokens_left x (drop at d)) h.0 ∙ after_the_comma start h.1 h.2
          ∙ key_then after_comma s (drop start d) (drop end d) (lex between (drop next d)) refl e is lexemes

  pub open_left : (start next : ℕ) → NextBegins b d at start → get_or d start 0 ≡ 123 → Skips d (start + 1) next → tokens_left b (drop at d) ≡ begin_object ∷ tokens_left true (drop next d)
  open_left start next begins e skips = first begins ∙ ap (λ ls. begin_object ∷ punctuate fresh ls) skips
    where
      there : drop start d ≡ 123 ∷ drop (start + 1) d
      there = byte_there d start 123 (omega arith) e

      first : NextBegins b d at start → tokens_left b (drop at d) ≡ begin_object ∷ punctuate fresh (lex between (drop (start + 1) d))
      first (inl h) =
          ap (λ x. tokens_left x (drop at d)) h.0 ∙ ap (λ k. punctuate fresh (lex between (drop k d))) (sym h.1)
          ∙ ap (λ t. punctuate fresh (lex between t)) there ∙ open_here (drop (start + 1) d)
      first (inr h) =
          ap (λ x. tokens_left x (drop at d)) h.0 ∙ after_the_comma start h.1 h.2
          ∙ ap (λ t. punctuate after_comma (lex between t)) there ∙ open_after_comma (drop (start + 1) d)

pub open_array_left : (d : List ℕ) (at next : ℕ) → get_or d at 0 ≡ 91 → Skips d (at + 1) next → tokens_left true (drop at d) ≡ begin_array ∷ tokens_left true (drop next d)
open_array_left d at next e skips =
    ap (λ t. punctuate fresh (lex between t)) (byte_there d at 91 (omega arith) e) ∙ open_array_here (drop (at + 1) d) ∙ ap (λ ls. begin_array ∷ punctuate fresh ls) skips
