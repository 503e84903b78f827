use Rattle.std.proofs.Common.{◌≡◌, ◌∷◌, ap, ◌∙◌, arith}
use Rattle.json.specs.Token.{begin_array}
use Rattle.json.specs.Json.{parse_map}
use Rattle.serde_json.specs.Data.{array}
use Rattle.nn_plain.specs.Ahead.{data_at}
use Rattle.nn_plain.proofs.FirstValue.{array_ahead}
use Rattle.nn_plain.proofs.blocks.plain_blocks.Goals as goal

pub returns-clause-ok : goal.returns-clause-ok
returns-clause-ok c =
    let us = c.begin_array.new.self in
    let first : c.args.tokens.now ≡ begin_array ∷ us = grind arith in
    let found = c.in_ok-blocks.ensures.ok in
    (found.0, ap (data_at 126) first ∙ array_ahead 126 us (omega arith) ∙ ap (parse_map array) found.1, found.2)
