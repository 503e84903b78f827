-- The words by which a caller asks something of a standby in service.
use Rattle.std.specs.Prelude.{ℕ, ◌-◌, ◌^◌, Bool, true, false, ◌==◌, ◌&&◌, nat_lt, nat_le, if◌then◌else◌, List, [], ◌∷◌, length, drop, take, Option, Some, None, option_and_then, option_map, codes, decimal}
use Rattle.std.specs.List.{prefix_len}
use Rattle.std.specs.Str.{bytes_eq, is_utf8}
use Rattle.std.specs.Str.Parse.{digits_value}
use Rattle.serde_json.specs.Find.{as_str}
use Rattle.nn_bytes.specs.Runs.{is_other}
use Rattle.nn_types.specs.Path.{path_of}
use Rattle.nn_types.specs.Limits.{max_line}
use Rattle.nn_edits.specs.Reading.{value_of}
use Rattle.nn_model.specs.Namespace.{Path}
use Rattle.nn_live.specs.declared.word.Word.{Word}
use Rattle.nn_live.specs.declared.word.Word.TheVariants as word

-- a number is written in decimal digits, without leading zeros, and is below 2^63
abbrev pub number_word : List ℕ → Option ℕ
number_word text =
    if nat_lt (digits_value 10 text) (2 ^ 63) && bytes_eq text (decimal (digits_value 10 text)) then Some (digits_value 10 text) else None

-- a path is written as in the tables, as a text of JSON
abbrev pub path_word : List ℕ → Option Path
path_word text = option_and_then path_of (option_and_then as_str (value_of text))

-- words that stand alone
abbrev pub named : List ℕ → List (List ℕ × Word) → Option Word
named line [] = None
named line (row ∷ rows) = if bytes_eq line row.0 then Some row.1 else named line rows

unfoldable pub word_alone : List ℕ → Option Word
word_alone line = named line (
    (codes "sync", word.Sync) ∷ (codes "status", word.Status) ∷ (codes "held", word.Held None) ∷ (codes "unsafe", word.Unsafe None)
    ∷ (codes "tables", word.Tables) ∷ (codes "checkpoint", word.Checkpoint) ∷ (codes "help", word.Help) ∷ []
    )

-- a txid, and behind ` epoch ` the epoch in which it is asked; without one it is asked in epoch 0
abbrev pub promotion_at : Bool → ℕ → Option ℕ → List ℕ → Option Word
promotion_at losing space (Some txid) text =
    if space == length text then Some (word.Promote txid 0 losing)
    else if bytes_eq (take 7 (drop space text)) (codes " epoch ") then option_map (λ epoch. word.Promote txid epoch losing) (number_word (drop 7 (drop space text)))
    else None
promotion_at losing space None text = None

-- where the first space of a text stands, or its length
abbrev pub first_space : List ℕ → ℕ
first_space text = prefix_len (is_other 32) text

abbrev pub promotion_of : Bool → List ℕ → Option Word
promotion_of losing text = promotion_at losing (first_space text) (number_word (take (first_space text) text)) text

-- `T` or `T epoch E`, and ` lost` behind it where what lies above T is given up
abbrev pub gives_up : List ℕ → Bool
gives_up text = bytes_eq (drop (length text - 5) text) (codes " lost")

abbrev pub promotion_in : List ℕ → Option Word
promotion_in text = if gives_up text then promotion_of true (take (length text - 5) text) else promotion_of false text

-- a prefix of a line, and what the text behind it makes of it
abbrev pub prefixed : List (List ℕ × (List ℕ → Option Word)) → List ℕ → Option Word
prefixed [] line = None
prefixed (row ∷ rows) line = if bytes_eq (take (length row.0) line) row.0 then row.1 (drop (length row.0) line) else prefixed rows line

-- words before a number
abbrev pub asking : List (List ℕ × (List ℕ → Option Word))
asking =
    (codes "held ", λ text. option_map (λ n. word.Held (Some n)) (number_word text))
    ∷ (codes "unsafe ", λ text. option_map (λ n. word.Unsafe (Some n)) (number_word text))
    ∷ (codes "block ", λ text. option_map (λ n. word.Block n) (number_word text))
    ∷ (codes "replicas ", λ text. option_map (λ n. word.Replicas n) (number_word text))
    ∷ (codes "gone ", λ text. option_map (λ n. word.Gone n) (number_word text))
    ∷ (codes "seen ", λ text. option_map (λ n. word.Seen n) (number_word text))
    ∷ (codes "epoch ", λ text. option_map (λ n. word.Epoch n) (number_word text))
    ∷ (codes "promote ", promotion_in) ∷ []

-- and the one before a path
abbrev pub behind_prefix : List ℕ → Option Word
behind_prefix line = prefixed ((codes "path ", λ text. option_map (λ p. word.Path p) (path_word text)) ∷ asking) line

abbrev pub or_else : Option Word → Option Word → Option Word
or_else None other = other
or_else (Some w) other = Some w

-- the word that a line of UTF-8 is, with nothing before or behind it, and one space between two parts of it
abbrev pub known_word : List ℕ → Option Word
known_word line = if is_utf8 line then or_else (word_alone line) (behind_prefix line) else None

-- the first byte is a letter from a to z
abbrev pub begins_as_word : List ℕ → Bool
begins_as_word [] = false
begins_as_word (first ∷ rest) = nat_le 97 first && nat_le first 122

-- what a line is that is no word
abbrev pub unknown_word : List ℕ → Option Word
unknown_word line = if begins_as_word line then Some word.Unknown else None

-- The word that a line of at most 65,536 bytes is, or that it begins as, whatever bytes follow. Each word begins with a letter, and no line
-- of data does.
unfoldable pub word_in : List ℕ → Option Word
word_in line = if nat_le (length line) max_line then or_else (known_word line) (unknown_word line) else None
