-- What the reader of plain lines goes by.
use Rattle.std.specs.Prelude.{◌≡◌, ◌⊎◌, ℕ, ◌+◌, ◌-◌, List, ◌∷◌, take, drop, get_or, codes, Bool, true, false, not, ◌==◌}
use Rattle.std.specs.Str.Parse.{AllDigits, digits_value, digits_value_after}
use Rattle.json.specs.Token.{Token}
use Rattle.json.specs.Lex.{between, lex, fresh, after_value, begins_colon, punctuate}
use Rattle.json.specs.Word.{ends_word}

-- The tokens of the rest of a line. True: a key or a value comes next. False: a value has just ended.
abbrev pub tokens_left : Bool → List ℕ → List Token
tokens_left true text = punctuate fresh (lex between text)
tokens_left false text = punctuate after_value (lex between text)

-- Blanks alone stand from `from` to `to`, or nothing: the lexemes are the same.
abbrev pub Skips : List ℕ → ℕ → ℕ → Type 0
Skips text from to = lex between (drop from text) ≡ lex between (drop to text)

-- The next key or item begins at `start`. The first one begins at once, any other one after a comma.
abbrev pub NextBegins : Bool → List ℕ → ℕ → ℕ → Type 0
NextBegins first text at start = ((first ≡ true) × (start ≡ at)) ⊎ ((first ≡ false) × (get_or text at 0 ≡ 44) × Skips text (at + 1) start)

-- A comma or a bracket that closes. One of them comes after each value in an object or array.
abbrev pub Stops : ℕ → Type 0
Stops c = (c ≡ 44) ⊎ ((c ≡ 125) ⊎ (c ≡ 93))

-- The text begins with one.
abbrev pub AtStop : List ℕ → Type 0
AtStop text = (c : ℕ) × (rest : List ℕ) × (text ≡ c ∷ rest) × Stops c

-- A number may end at `end`, and a text there is no key. What comes next stands at `next`.
pub record EndsValue (text : List ℕ) (end next : ℕ) : Type 0 where
  pub word : ends_word (drop end text) ≡ true
  pub no_key : begins_colon (lex between (drop end text)) ≡ false
  pub skips : Skips text end next

-- ---- texts

-- A text in quotes in a line without escapes has none, and ends at the next one.
abbrev pub is_no_quote : ℕ → Bool
is_no_quote b = not (b == 34)

-- ---- numbers

-- From `from` to `i` stand digits alone, and they write `n`. Each fact is said for the `k` bytes after them too: then one digit
-- more is one step.
pub record DigitsRead (text : List ℕ) (from i n : ℕ) : Type 0 where
  pub value : (k : ℕ) → digits_value_after 10 n (take k (drop i text)) ≡ digits_value 10 (take ((i - from) + k) (drop from text))
  pub digits : (k : ℕ) → AllDigits 10 (take k (drop i text)) → AllDigits 10 (take ((i - from) + k) (drop from text))

-- ---- truth values

-- The word of each.
abbrev pub truth_text : Bool → List ℕ
truth_text true = codes "true"
truth_text false = codes "false"
