-- The value that comes next, by its first token.
use Rattle.std.proofs.Common.{◌≡◌, ℕ, ◌-◌, ◌<◌, List, [], ◌∷◌, length, Bool, Some, None, option_map, ap, ◌∙◌}
use Rattle.json.specs.Token.{Token}
use Rattle.json.specs.Json.{parse_map, items, members, value}
use Rattle.json.proofs.Grammar.{value_is, value-begin_array, value-begin_object}
use Rattle.serde_json.specs.Data.{Data, null, boolean, number, string, array, object, no_members}
use Rattle.serde_json.specs.Read.{of_json, number_of, converted}
use Rattle.nn_plain.specs.Ahead.{data_at, items_at, members_at}
use Rattle.nn_plain.proofs.Turns.{converted-array, converted-object}

pub none_ahead : (depth : ℕ) → data_at depth [] ≡ None
none_ahead depth = ap (converted of_json) (value_is depth [])

pub string_ahead : (depth : ℕ) (s : List ℕ) (ts : List Token) → data_at depth (Token.string s ∷ ts) ≡ Some (string s, ts)
string_ahead depth s ts = ap (converted of_json) (value_is depth (Token.string s ∷ ts))

pub bool_ahead : (depth : ℕ) (b : Bool) (ts : List Token) → data_at depth (Token.boolean b ∷ ts) ≡ Some (boolean b, ts)
bool_ahead depth b ts = ap (converted of_json) (value_is depth (Token.boolean b ∷ ts))

pub null_ahead : (depth : ℕ) (ts : List Token) → data_at depth (Token.null ∷ ts) ≡ Some (null, ts)
null_ahead depth ts = ap (converted of_json) (value_is depth (Token.null ∷ ts))

pub number_ahead : (depth : ℕ) (s : List ℕ) (ts : List Token) → data_at depth (Token.number s ∷ ts) ≡ option_map {U = Data × List Token} (λ b. (b, ts)) (option_map number (number_of s))
number_ahead depth s ts = ap (converted of_json) (value_is depth (Token.number s ∷ ts))

pub array_ahead : (depth : ℕ) (ts : List Token) → 0 < depth → data_at depth (Token.begin_array ∷ ts) ≡ parse_map array (items_at (depth - 1) (length ts) ts)
array_ahead depth ts h = ap (converted of_json) (value-begin_array depth ts h) ∙ converted-array (items (value (depth - 1)) (length ts) ts)

pub object_ahead : (depth : ℕ) (ts : List Token) → 0 < depth → data_at depth (Token.begin_object ∷ ts) ≡ parse_map object (members_at (depth - 1) (length ts) no_members ts)
object_ahead depth ts h = ap (converted of_json) (value-begin_object depth ts h) ∙ converted-object (members (value (depth - 1)) (length ts) ts)
