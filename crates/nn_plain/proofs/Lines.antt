-- A line that is an object, by its tokens.
use Rattle.std.proofs.Common.{◌≡◌, ℕ, List, [], ◌∷◌, length, Some, ap, ◌∙◌, arith}
use Rattle.json.specs.Token.{Token}
use Rattle.json.specs.Json.{parse_map, value}
use Rattle.json.specs.Lex.{tokens}
use Rattle.serde_json.specs.Data.{Members, object, no_members}
use Rattle.serde_json.specs.Read.{read, of_json, converted}
use Rattle.nn_plain.specs.Ahead.{data_at, members_at}
use Rattle.nn_plain.proofs.FirstValue.{object_ahead}
use Rattle.nn_plain.proofs.Turns.{whole_read}

pub opened : (line : List ℕ) (ts : List Token) → tokens line ≡ Token.begin_object ∷ ts → converted of_json (value 127 (tokens line)) ≡ parse_map object (members_at 126 (length ts) no_members ts)
opened line ts all = ap (data_at 127) all ∙ object_ahead 127 ts (omega arith)

pub object_line : (line : List ℕ) (ts : List Token) (ms : Members) → tokens line ≡ Token.begin_object ∷ ts → members_at 126 (length ts) no_members ts ≡ Some (ms, []) → read line ≡ Some (object ms)
object_line line ts ms all e = whole_read (value 127 (tokens line)) (object ms) (opened line ts all ∙ ap (parse_map object) e)
