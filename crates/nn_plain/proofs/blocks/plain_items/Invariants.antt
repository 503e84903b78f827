use Rattle.std.proofs.Common.{◌≡◌, ℕ, ◌≤◌, List, length, Some}
use Rattle.json.specs.Token.{Token}
use Rattle.serde_json.specs.Data.{Items}
use Rattle.nn_plain.specs.Ahead.{items_at}
use Rattle.nn_plain.proofs.BlockItems.{GoesOn}
use Rattle.nn_plain.proofs.blocks.plain_items.Given as goal

abbrev pub invariant-items : goal.invariant-items
invariant-items l = record {
  rest : (n : ℕ) × (length l.tokens ≤ n)
      × ((ds : Items) (r : List Token) → items_at 125 n l.tokens ≡ Some (ds, r)
      → (es : Items) × (items_at 125 (length l.initial.tokens) l.initial.tokens ≡ Some (es, r)) × GoesOn es l.blocks ds);
  left : length l.tokens ≤ length l.initial.tokens;
}

abbrev pub decreases-items : goal.decreases-items
decreases-items l = length l.tokens
