-- What comes next in the tokens of a text, as the JSON crate reads it.
use Rattle.std.specs.Prelude.{◌≡◌, ℕ, ◌≤◌, List, length, Bool, true, false, Option, Some, None}
use Rattle.json.specs.Token.{Token}
use Rattle.json.specs.Json.{items, members, value}
use Rattle.serde_json.specs.Data.{Data, Items, Members, array, object, no_items, item}
use Rattle.serde_json.specs.Find.{as_array, as_object}
use Rattle.serde_json.specs.Read.{of_json, of_items, of_members, converted, read}

-- A value, with what follows it.
abbrev pub data_at : ℕ → List Token → Option (Data × List Token)
data_at depth ts = converted of_json (value depth ts)

-- The items up to the bracket that closes their array; `n` bounds their number.
abbrev pub items_at : ℕ → ℕ → List Token → Option (Items × List Token)
items_at depth n ts = converted of_items (items (value depth) n ts)

-- The members up to the brace that closes their object, put to those that were found.
abbrev pub members_at : ℕ → ℕ → Members → List Token → Option (Members × List Token)
members_at depth n found ts = converted (λ ms. of_members ms found) (members (value depth) n ts)

-- Items come next, and `new` follows them.
abbrev pub PassesItems : ℕ → List Token → List Token → Type 0
PassesItems depth old new = (n : ℕ) → length old ≤ n → (ds : Items) × (items_at depth n old ≡ Some (ds, new))

-- No items come next.
abbrev pub LacksItems : ℕ → List Token → Type 0
LacksItems depth old = (n : ℕ) → length old ≤ n → items_at depth n old ≡ None

-- A line that is no object.
abbrev pub LacksObject : List ℕ → Type 0
LacksObject line = (ms : Members) → read line ≡ Some (object ms) → ⊥

-- The items with one behind them.
abbrev pub with_last_item : Items → Data → Items
with_last_item no_items e = item e no_items
with_last_item (item d ds) e = item d (with_last_item ds e)

-- The answer to whether a value is an object; of its members this holds.
abbrev pub IsObjectIf : Bool → Data → (Members → Type 0) → Type 0
IsObjectIf true d holds = (ms : Members) × (d ≡ object ms) × holds ms
IsObjectIf false d holds = as_object d ≡ None

-- And whether it is an array.
abbrev pub IsArrayIf : Bool → Data → (Items → Type 0) → Type 0
IsArrayIf true d holds = (ds : Items) × (d ≡ array ds) × holds ds
IsArrayIf false d holds = as_array d ≡ None
