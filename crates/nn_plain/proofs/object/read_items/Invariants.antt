use Rattle.std.proofs.Common.{◌≡◌, ℕ, ◌≤◌, length}
use Rattle.json.specs.Json.{parse_map}
use Rattle.serde_json.specs.Data.{Items}
use Rattle.nn_plain.specs.Ahead.{items_at}
use Rattle.nn_plain.proofs.ItemLists.{onto}
use Rattle.nn_plain.proofs.object.read_items.Given as goal

abbrev pub invariant-items : goal.invariant-items
invariant-items g l = record {
  rest : (n : ℕ) × (done : Items) × (length l.reader ≤ n)
      × (items_at l.depth (length l.initial.reader) l.initial.reader ≡ parse_map (onto done) (items_at l.depth n l.reader))
      × g.S.ItemSink.seen l.sink done;
  left : length l.reader ≤ length l.initial.reader;
}

abbrev pub decreases-items : goal.decreases-items
decreases-items g l = length l.reader
