-- The first token of a text, by the bytes that it begins with.
use Rattle.std.proofs.Common.{◌≡◌, ℕ, List, ◌∷◌, ◌++◌, Bool, true, false, cond, refl, sym, ap, ap₂, ◌∙◌, inl, inr, subst}
use Rattle.json.specs.Token.{bad, key, string, number, boolean, begin_object, begin_array}
use Rattle.json.specs.Lex.{Lexeme, token, colon, between, lex, string_token, Place, fresh, after_value, after_comma, after_key, may_begin, begins_colon, punctuate}
use Rattle.json.specs.Print.{escape, IsNumber}
use Rattle.json.specs.Word.{ends_word, word}
use Rattle.nn_plain.specs.Bytes.{Stops, truth_text}
use Rattle.json.proofs.Printed.Strings.{content-escape, lex-escape}
use Rattle.json.proofs.Printed.Numbers.{lex-number, in_word-ended}

-- ---- lexemes and places

lex_string : (s r : List ℕ) → escape s ≡ s → lex between (34 ∷ (s ++ 34 ∷ r)) ≡ token (string s) ∷ lex between r
unfolding lex
lex_string s r e =
    ap (λ l. lex between (34 ∷ (l ++ 34 ∷ r))) (sym e)
    ∙ ap₂ (λ o l. token (string_token o) ∷ l) (content-escape s r) (lex-escape s r)

lex_truth : (b : Bool) (r : List ℕ) → ends_word r ≡ true → lex between (truth_text b ++ r) ≡ token (boolean b) ∷ lex between r
unfolding lex word
lex_truth true r ended = ap₂ (λ b l. token (cond b (boolean true) bad) ∷ l) ended (in_word-ended r ended)
lex_truth false r ended = ap₂ (λ b l. token (cond b (boolean false) bad) ∷ l) ended (in_word-ended r ended)

pub blank_next : (r : List ℕ) → lex between (32 ∷ r) ≡ lex between r
unfolding lex
blank_next r = refl

pub colon_next : (r : List ℕ) → lex between (58 ∷ r) ≡ colon ∷ lex between r
unfolding lex
colon_next r = refl

pub no_colon : (c : ℕ) (r : List ℕ) → Stops c → begins_colon (lex between (c ∷ r)) ≡ false
unfolding lex
no_colon c r (inl e) = subst (λ x. begins_colon (lex between (x ∷ r)) ≡ false) (sym e) refl
no_colon c r (inr (inl e)) = subst (λ x. begins_colon (lex between (x ∷ r)) ≡ false) (sym e) refl
no_colon c r (inr (inr e)) = subst (λ x. begins_colon (lex between (x ∷ r)) ≡ false) (sym e) refl

pub ends : (c : ℕ) (r : List ℕ) → Stops c → ends_word (c ∷ r) ≡ true
ends c r (inl e) = subst (λ x. ends_word (x ∷ r) ≡ true) (sym e) refl
ends c r (inr (inl e)) = subst (λ x. ends_word (x ∷ r) ≡ true) (sym e) refl
ends c r (inr (inr e)) = subst (λ x. ends_word (x ∷ r) ≡ true) (sym e) refl

keyed : (p : Place) (s : List ℕ) (ls : List Lexeme) → may_begin p ≡ true → punctuate p (token (string s) ∷ colon ∷ ls) ≡ key s ∷ punctuate fresh ls
unfolding punctuate
keyed fresh s ls h = refl
keyed after_value s ls h = absurd (cc)
keyed after_comma s ls h = refl
keyed after_key s ls h = absurd (cc)

texted : (p : Place) (s : List ℕ) (ls : List Lexeme) → may_begin p ≡ true → begins_colon ls ≡ false → punctuate p (token (string s) ∷ ls) ≡ string s ∷ punctuate after_value ls
unfolding punctuate
texted fresh s ls h n = rw n refl
texted after_value s ls h n = absurd (cc)
texted after_comma s ls h n = rw n refl
texted after_key s ls h n = absurd (cc)

numbered : (p : Place) (s : List ℕ) (ls : List Lexeme) → may_begin p ≡ true → punctuate p (token (number s) ∷ ls) ≡ number s ∷ punctuate after_value ls
unfolding punctuate
numbered fresh s ls h = refl
numbered after_value s ls h = absurd (cc)
numbered after_comma s ls h = refl
numbered after_key s ls h = absurd (cc)

truthful : (p : Place) (b : Bool) (ls : List Lexeme) → may_begin p ≡ true → punctuate p (token (boolean b) ∷ ls) ≡ boolean b ∷ punctuate after_value ls
unfolding punctuate
truthful fresh b ls h = refl
truthful after_value b ls h = absurd (cc)
truthful after_comma b ls h = refl
truthful after_key b ls h = absurd (cc)

-- ---- at the beginning of a text

-- A key in quotes, and its colon.
pub key_then : (p : Place) (s old rest : List ℕ) (ls : List Lexeme) → may_begin p ≡ true → escape s ≡ s → old ≡ 34 ∷ (s ++ 34 ∷ rest) → lex between rest ≡ colon ∷ ls
    → punctuate p (lex between old) ≡ key s ∷ punctuate fresh ls
key_then p s old rest ls h e is after =
    ap (λ t. punctuate p (lex between t)) is ∙ ap (punctuate p) (lex_string s rest e ∙ ap (λ ls. token (string s) ∷ ls) after) ∙ keyed p s ls h

-- A text in quotes, and what comes after it.
pub text_then : (p : Place) (s old rest : List ℕ) → may_begin p ≡ true → escape s ≡ s → old ≡ 34 ∷ (s ++ 34 ∷ rest) → begins_colon (lex between rest) ≡ false
    → punctuate p (lex between old) ≡ string s ∷ punctuate after_value (lex between rest)
text_then p s old rest h e is no_key = ap (λ t. punctuate p (lex between t)) is ∙ ap (punctuate p) (lex_string s rest e) ∙ texted p s (lex between rest) h no_key

-- A number, and what comes after it.
pub number_then : (p : Place) (s old rest : List ℕ) → may_begin p ≡ true → IsNumber s → old ≡ s ++ rest → ends_word rest ≡ true
    → punctuate p (lex between old) ≡ number s ∷ punctuate after_value (lex between rest)
number_then p s old rest h n is ends = ap (λ t. punctuate p (lex between t)) is ∙ ap (punctuate p) (lex-number s rest n ends) ∙ numbered p s (lex between rest) h

-- A truth value, and what comes after it.
pub truth_then : (p : Place) (b : Bool) (old rest : List ℕ) → may_begin p ≡ true → old ≡ truth_text b ++ rest → ends_word rest ≡ true
    → punctuate p (lex between old) ≡ boolean b ∷ punctuate after_value (lex between rest)
truth_then p b old rest h is ends = ap (λ t. punctuate p (lex between t)) is ∙ ap (punctuate p) (lex_truth b rest ends) ∙ truthful p b (lex between rest) h

pub comma_here : (r : List ℕ) → punctuate after_value (lex between (44 ∷ r)) ≡ punctuate after_comma (lex between r)
unfolding lex punctuate
comma_here r = refl

pub open_here : (r : List ℕ) → punctuate fresh (lex between (123 ∷ r)) ≡ begin_object ∷ punctuate fresh (lex between r)
unfolding lex punctuate
open_here r = refl

pub open_after_comma : (r : List ℕ) → punctuate after_comma (lex between (123 ∷ r)) ≡ begin_object ∷ punctuate fresh (lex between r)
unfolding lex punctuate
open_after_comma r = refl

pub open_array_here : (r : List ℕ) → punctuate fresh (lex between (91 ∷ r)) ≡ begin_array ∷ punctuate fresh (lex between r)
unfolding lex punctuate
open_array_here r = refl
