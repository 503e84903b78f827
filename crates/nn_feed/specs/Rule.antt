-- What was put is what was got and then what the channel holds. One pass puts and one gets.
use Rattle.std.specs.Prelude.{◌≡◌, ℕ, Bool, true, List, ◌++◌}
use mathlib.Core.Option.{some}
use lib.ListN.{get_elem?}
use Rattle.nn_feed.specs.declared.rule.Log.{Log}
use Rattle.nn_feed.specs.declared.rule.Placed.{Placed}
use Rattle.nn_feed.specs.Feeds.{IsFeed}

abbrev pub log : Bool → Bool → List Placed → List Placed → Log
log puts gets put got = record { puts = puts; gets = gets; put = put; got = got }

-- the pass that may put knows all that was put, the pass that may get all that was got
abbrev pub Fits : ℕ → ℕ → List Placed → List Placed → ℕ → Log → Type 0
Fits writer reader put got pass v = (v.puts ≡ true → (pass ≡ writer) × (v.put ≡ put)) × (v.gets ≡ true → (pass ≡ reader) × (v.got ≡ got))

-- the channel holds these items, and the passes know this
abbrev pub IsFed : List Placed → List Log → Type 0
IsFed items views =
    (writer : ℕ) × (reader : ℕ) × (put : List Placed) × (got : List Placed)
    × (put ≡ got ++ items) × IsFeed 0 put
    × ((pass : ℕ) (v : Log) → get_elem? views pass ≡ some v → Fits writer reader put got pass v)
