use Rattle.std.proofs.Common.{◌≡◌, ◌-◌, ◌<◌, length, Some, None, ap, ◌∙◌, arith}
use Rattle.json.specs.Json.{parse_map, after_end_array, value}
use Rattle.serde_json.specs.Data.{no_items}
use Rattle.nn_plain.specs.Ahead.{items_at, with_last_item}
use Rattle.nn_plain.proofs.ItemLists.{item_done, none_done, onto, onto_none}
use Rattle.nn_plain.proofs.Turns.{item_read, item_refused, items_over}
use Rattle.nn_plain.proofs.object.read_items.Goals as goal

pub items-init : goal.items-init
items-init g c =
    let ts = c.args.reader.now in
    record { rest = (length ts, no_items, omega arith, none_done (items_at c.args.depth (length ts) ts), c.requires); left = omega arith }

pub returns-in_err-read-clause-err : goal.returns-in_err-read-clause-err
returns-in_err-read-clause-err g c =
    let ts = c.items.reader in
    let rest = c.items.invariant.rest in
    let going : (after_end_array ts ≡ None) × (c.take_end_array.new.self ≡ ts) = grind arith in
    λ is. rest.3 ∙ ap (parse_map (onto rest.1)) (item_refused (value c.args.depth) rest.0 ts going.0 (rw (← going.1) (c.read.ensures.err (grind arith))))

pub items-preserved : goal.items-preserved
items-preserved g c =
    let ts = c.items.reader in
    let rest = c.items.invariant.rest in
    let going : (after_end_array ts ≡ None) × (c.take_end_array.new.self ≡ ts) = grind arith in
    let done = c.in_ok-read.ensures in
    let d = done.ok.0 in
    let r = c.read.new.reader in
    let less : length r < length ts = rw (← going.1) done.shorter in
    let turn = item_read (value c.args.depth) rest.0 ts r d (omega (arith, rest.2, less)) going.0 (rw (← going.1) done.ok.1) in
    record {
      rest = (
        rest.0 - 1,
        with_last_item rest.1 d,
        omega (arith, rest.2, less),
        rest.3 ∙ ap (parse_map (onto rest.1)) turn ∙ item_done rest.1 d (items_at c.args.depth (rest.0 - 1) r),
        done.ok.2 rest.1 rest.4,
      );
      left = omega (arith, c.items.invariant.left, less);
    }

pub returns-clause-ok : goal.returns-clause-ok
returns-clause-ok g c =
    let ts = c.items.reader in
    let rest = c.items.invariant.rest in
    let r = c.take_end_array.new.self in
    (rest.1, rest.3 ∙ ap (parse_map (onto rest.1)) (items_over (value c.args.depth) rest.0 ts r rest.2 (grind arith)) ∙ ap (λ ds. Some (ds, r)) (onto_none rest.1), rest.4)
