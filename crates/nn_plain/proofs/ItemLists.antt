-- Items that were read, and those that follow them.
use Rattle.std.proofs.Common.{◌≡◌, List, Option, Some, None, refl, ap}
use Rattle.json.specs.Token.{Token}
use Rattle.json.specs.Json.{parse_map}
use Rattle.serde_json.specs.Data.{Data, Items, no_items, item}
use Rattle.nn_plain.specs.Ahead.{with_last_item}

abbrev pub onto : Items → Items → Items
onto no_items es = es
onto (item d ds) es = item d (onto ds es)

one_more : (done : Items) (d : Data) (es : Items) → onto done (item d es) ≡ onto (with_last_item done d) es
one_more no_items d es = refl
one_more (item e ds) d es = ap (item e) (one_more ds d es)

pub onto_none : (done : Items) → onto done no_items ≡ done
onto_none no_items = refl
onto_none (item d ds) = ap (item d) (onto_none ds)

pub none_done : (o : Option (Items × List Token)) → o ≡ parse_map (onto no_items) o
none_done None = refl
none_done (Some p) = refl

pub item_done : (done : Items) (d : Data) (o : Option (Items × List Token)) → parse_map (onto done) (parse_map (item d) o) ≡ parse_map (onto (with_last_item done d)) o
item_done done d None = refl
item_done done d (Some p) = ap (λ ds. Some (ds, p.1)) (one_more done d p.0)
