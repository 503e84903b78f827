-- Numbers as they are written, and paths as JSON spells them.
use Rattle.std.proofs.Common.{◌≡◌, ℕ, ◌<◌, ◌≤◌, ◌==◌, ◌^◌, length, ltb, leb, ◌&&◌, List, [], ◌∷◌, Bool, true, false, cond, bytes_eq, Option, Some, None, Result, Ok, refl, sym, ap, ap₂, ◌∙◌, ltb-true, leb-true, arith}
use Rattle.std.specs.Prelude.{is_some, MatchOption, option_and_then}
use Rattle.std.specs.List.{slice_get}
use Rattle.std.specs.Fmt.{decimal}
use Rattle.std.specs.Str.{IsUtf8, is_utf8}
use Rattle.std.specs.Str.Parse.{digits_value, ParsesUnsigned}
use Rattle.std.proofs.lemmas.Bool.{lt-ltb, lt-leb, le-leb, ne_eqb}
use Rattle.std.proofs.lemmas.Fmt.{parse-decimal, decimal_is_IsNumeral}
use Rattle.std.proofs.lemmas.Slice.Eq.{bytes_eq-Decides}
use Rattle.std.proofs.lemmas.Str.{IsUtf8-from_is_utf8, is_utf8-from_IsUtf8}
use Rattle.json.specs.Json.{value}
use Rattle.json.specs.Lex.{tokens}
use Rattle.json.specs.Reads.{token_of}
use Rattle.json.specs.Token.{Token}
use Rattle.json.specs.declared.token.Token.{Token as Read}
use Rattle.serde_json.specs.Data.{Data}
use Rattle.serde_json.specs.Find.{as_str}
use Rattle.serde_json.specs.Read.{read}
use Rattle.nn_types.specs.Path.{path_of}
use Rattle.nn_plain.specs.Ahead.{data_at}
use Rattle.nn_plain.proofs.Turns.{whole_read, whole_and_more, whole_refused}
use Rattle.nn_edits.specs.Reading.{value_of}
use Rattle.nn_edits.proofs.JsonLines.{value_of_text}
use Rattle.nn_live.specs.declared.word.Word.TheVariants as word
use Rattle.nn_live.specs.Words.{number_word, path_word, word_alone, behind_prefix, or_else, known_word, unknown_word, word_in}

pub written : (text : List ℕ) (n : ℕ) → n < 2 ^ 63 → text ≡ decimal n → number_word text ≡ Some n
written text n small is =
    let value : digits_value 10 text ≡ n = ap (digits_value 10) is ∙ (decimal_is_IsNumeral n (omega (arith, small))).1 in
    let same : bytes_eq text (decimal n) ≡ true = (bytes_eq-Decides text (decimal n)).1 is in
    rw (value, lt-ltb n (2 ^ 63) small, same) refl

pub not_written : (text : List ℕ) → ((n : ℕ) → n < 2 ^ 63 → text ≡ decimal n → ⊥) → number_word text ≡ None
not_written text never = at (ltb (digits_value 10 text) (2 ^ 63)) refl (bytes_eq text (decimal (digits_value 10 text))) refl
  where
    at : (a : Bool) → ltb (digits_value 10 text) (2 ^ 63) ≡ a → (b : Bool) → bytes_eq text (decimal (digits_value 10 text)) ≡ b
        → cond (a && b) (Some (digits_value 10 text)) None ≡ None
    at true small true same = absurd (never (digits_value 10 text) (ltb-true (digits_value 10 text) (2 ^ 63) small) ((bytes_eq-Decides text (decimal (digits_value 10 text))).0 same))
    at true small false same = refl
    at false small b same = refl

pub parsed : {E : Type 0} (text : List ℕ) (n : ℕ) (r : Result ℕ E) → n < 2 ^ 63 → text ≡ decimal n → ParsesUnsigned 64 10 text r → r ≡ Ok n
parsed text n r small is parses = parse-decimal 64 n text r (omega (arith, small)) (omega (arith, small)) is parses

-- what is parsed is the number that is written, if one is
pub parses_it : {E : Type 0} (text : List ℕ) (m n : ℕ) (r : Result ℕ E) → r ≡ Ok m → n < 2 ^ 63 → text ≡ decimal n → ParsesUnsigned 64 10 text r → m ≡ n
parses_it text m n r got small is parses = own r r refl got (parsed text n r small is parses)
  where
    own : {F : Type 0} (a b : Result ℕ F) → a ≡ b → a ≡ Ok m → b ≡ Ok n → m ≡ n
    own a b e f g = cc

-- ---- The path that a text of JSON spells.

pub no_value : (text : List ℕ) → (IsUtf8 text → read text ≡ None) → path_word text ≡ None
unfolding value_of
no_value text none = at (is_utf8 text) refl
  where
    at : (t : Bool) → is_utf8 text ≡ t → option_and_then path_of (option_and_then as_str (cond t (read text) None)) ≡ None
    at true e = ap (λ o. option_and_then path_of (option_and_then as_str o)) (none (IsUtf8-from_is_utf8 text e))
    at false e = refl

pub value_there : (text : List ℕ) (d : Data) → IsUtf8 text → read text ≡ Some d → path_word text ≡ option_and_then path_of (as_str d)
value_there text d utf8 is = ap (λ o. option_and_then path_of (option_and_then as_str o)) (value_of_text text d utf8 is)

pub nothing_ahead : (text : List ℕ) → data_at 127 (tokens text) ≡ None → read text ≡ None
nothing_ahead text none = whole_refused (value 127 (tokens text)) none

pub more_ahead : (text : List ℕ) (d : Data) (t : Token) (ts : List Token) → data_at 127 (tokens text) ≡ Some (d, t ∷ ts) → read text ≡ None
more_ahead text d t ts is = whole_and_more (value 127 (tokens text)) d t ts is

pub all_ahead : (text : List ℕ) (d : Data) → data_at 127 (tokens text) ≡ Some (d, []) → read text ≡ Some d
all_ahead text d is = whole_read (value 127 (tokens text)) d is

pub token_there : (r : Option Read) (old new : List Token) → true ≡ is_some r → MatchOption r ((old ≡ []) × (new ≡ [])) (λ t. old ≡ token_of t ∷ new) → (t : Token) × (old ≡ t ∷ new)
token_there None old new e h = absurd (cc)
token_there (Some t) old new e h = (token_of t, h)

pub no_token : (r : Option Read) (old new : List Token) → false ≡ is_some r → MatchOption r ((old ≡ []) × (new ≡ [])) (λ t. old ≡ token_of t ∷ new) → old ≡ []
no_token None old new e h = h.0
no_token (Some t) old new e h = absurd (cc)

-- ---- Lines.

pub long_line : (line : List ℕ) → 65536 < length line → word_in line ≡ None
unfolding word_in
long_line line long = rw (lt-leb (length line) 65536 long) refl

pub begins : (line : List ℕ) (b : ℕ) → Some b ≡ slice_get line 0 → (rest : List ℕ) × (line ≡ b ∷ rest)
begins [] b is = absurd (cc)
begins (x ∷ line) b is = let same : b ≡ x = cc in (line, ap (λ y. y ∷ line) (sym same))

-- a line that begins with no letter
pub no_letter : (b : ℕ) (rest : List ℕ) → (97 ≤ b → b ≤ 122 → ⊥) → word_in (b ∷ rest) ≡ None
unfolding word_in word_alone
no_letter b rest none = at (leb (length (b ∷ rest)) 65536) (is_utf8 (b ∷ rest))
  where
    isnt : (x : ℕ) → 97 ≤ x → x ≤ 122 → (b == x) ≡ false
    isnt x low high = ne_eqb b x (λ same. absurd (none (omega (arith, same, low)) (omega (arith, same, high))))

    unknown : (a c : Bool) → leb 97 b ≡ a → leb b 122 ≡ c → cond (leb 97 b && leb b 122) (Some word.Unknown) None ≡ None
    unknown true true e f = absurd (none (leb-true 97 b e) (leb-true b 122 f))
    unknown true false e f = ap₂ (λ a c. cond (a && c) (Some word.Unknown) None) e f
    unknown false c e f = ap (λ a. cond (a && leb b 122) (Some word.Unknown) None) e

    known : (u : Bool) → cond u (or_else (word_alone (b ∷ rest)) (behind_prefix (b ∷ rest))) None ≡ None
    known true = rw (isnt 115 (omega arith) (omega arith), isnt 104 (omega arith) (omega arith), isnt 117 (omega arith) (omega arith), isnt 116 (omega arith) (omega arith), isnt 99 (omega arith) (omega arith), isnt 112 (omega arith) (omega arith), isnt 98 (omega arith) (omega arith), isnt 103 (omega arith) (omega arith), isnt 101 (omega arith) (omega arith), isnt 114 (omega arith) (omega arith)) refl
    known false = refl

    at : (s u : Bool) → cond s (or_else (cond u (or_else (word_alone (b ∷ rest)) (behind_prefix (b ∷ rest))) None) (unknown_word (b ∷ rest))) None ≡ None
    at true u = ap (λ o. or_else o (unknown_word (b ∷ rest))) (known u) ∙ unknown (leb 97 b) (leb b 122) refl refl
    at false u = refl

-- one that begins above all letters
pub no_word : (line : List ℕ) (b : ℕ) (rest : List ℕ) → line ≡ b ∷ rest → 122 < b → word_in line ≡ None
no_word line b rest is above = ap word_in is ∙ no_letter b rest (λ low high. omega (arith, high, above))

pub no_text : (line : List ℕ) → (IsUtf8 line → ⊥) → known_word line ≡ None
no_text line never = at (is_utf8 line) refl
  where
    at : (u : Bool) → is_utf8 line ≡ u → cond u (or_else (word_alone line) (behind_prefix line)) None ≡ None
    at true e = absurd (never (IsUtf8-from_is_utf8 line e))
    at false e = refl

pub text_line : (line : List ℕ) → IsUtf8 line → known_word line ≡ or_else (word_alone line) (behind_prefix line)
text_line line utf8 = rw (is_utf8-from_IsUtf8 line utf8) refl

pub short_line : (line : List ℕ) → length line ≤ 65536 → word_in line ≡ or_else (known_word line) (unknown_word line)
unfolding word_in
short_line line short = rw (le-leb (length line) 65536 short) refl
