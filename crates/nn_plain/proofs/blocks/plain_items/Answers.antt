use Rattle.std.proofs.Common.{◌≡◌, ◌-◌, ◌<◌, ◌∷◌, length, sym, ap, ◌∙◌, subst, arith}
use Rattle.json.specs.Token.{begin_object, end_array}
use Rattle.json.specs.Json.{parse_map, after_end_array, value}
use Rattle.serde_json.specs.Data.{object, no_items, item}
use Rattle.nn_plain.specs.Ahead.{data_at}
use Rattle.nn_plain.proofs.BlockItems.{GoesOn, item_more, items_done}
use Rattle.nn_plain.proofs.FirstValue.{object_ahead}
use Rattle.nn_plain.proofs.Turns.{item_read, items_over}
use Rattle.nn_plain.proofs.blocks.plain_items.Goals as goal

pub items-init : goal.items-init
items-init c = record { rest = (length c.args.tokens.now, omega arith, λ ds r e. (ds, e, subst (λ prefix. GoesOn ds prefix ds) (sym c.new-blocks.ensures) (λ bs all. all))); left = omega arith }

pub items-preserved : goal.items-preserved
items-preserved c =
    let ts = c.items.tokens in
    let rest = c.items.invariant.rest in
    let us = c.next_object.new.self in
    let first : ts ≡ begin_object ∷ us = grind arith in
    let done = c.in-Some-plain_numbers.ensures in
    let d = object done.ok.0 in
    let r = c.plain_numbers.new.tokens in
    let b = c.in-Some-plain_numbers.block in
    let less : length r < length ts = omega (arith, done.shorter, ap length first) in
    let read = ap (data_at 125) first ∙ object_ahead 125 us (omega arith) ∙ ap (parse_map object) done.ok.1 in
    let turn = item_read (value 125) rest.0 ts r d (omega (arith, rest.1, less)) (ap after_end_array first) read in
    record {
      rest = (
        rest.0 - 1,
        omega (arith, rest.1, less),
        λ ds after e.
            let all = rest.2 (item d ds) after (turn ∙ ap (parse_map (item d)) e) in
            (all.0, all.1, subst (λ prefix. GoesOn all.0 prefix ds) (sym c.in-Ok.ensures.ok) (item_more all.0 c.items.blocks d ds b done.ok.2 all.2)),
      );
      left = omega (arith, c.items.invariant.left, less);
    }

pub returns-then-not-more-clause-ok : goal.returns-then-not-more-clause-ok
returns-then-not-more-clause-ok c =
    let ts = c.items.tokens in
    let rest = c.items.invariant.rest in
    let us = c.next_object.new.self in
    let first : ts ≡ end_array ∷ us = grind arith in
    let all = rest.2 no_items us (items_over (value 125) rest.0 ts us rest.1 (ap after_end_array first)) in
    (all.0, all.1, items_done all.0 c.items.blocks all.2)
