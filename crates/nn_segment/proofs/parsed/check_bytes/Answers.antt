use Rattle.std.proofs.Common.{◌∙◌, sym, ap, Some}
use Rattle.std.proofs.lemmas.Bool.{ne_eqb, eq-eqb}
use Rattle.nn_segment.proofs.LineLemmas.{ended_last, some_bytes}
use Rattle.nn_segment.proofs.ReadingLemmas.{bytes_good, bytes_torn}
use Rattle.nn_segment.proofs.parsed.check_bytes.Goals as goal

pub torn_line-requires-clause-torn : goal.torn_line-requires-clause-torn
torn_line-requires-clause-torn c =
    let bytes = c.args.bytes.now in
    ended_last bytes (some_bytes bytes c.is_empty.result c.is_empty.ensures c.if-is_empty.false) ∙ ne_eqb _ _ c.if-bytes-ne10.true

pub returns-then-bytes-ne10 : goal.returns-then-bytes-ne10
returns-then-bytes-ne10 c =
    let bytes = c.args.bytes.now in
    let torn = ended_last bytes (some_bytes bytes c.is_empty.result c.is_empty.ensures c.if-is_empty.false) ∙ ne_eqb _ _ c.if-bytes-ne10.true in
    bytes_torn bytes c.if-bytes-gt-MAX_INPUT.false (sym c.is_empty.ensures ∙ c.if-is_empty.false) torn ∙ ap Some (sym c.torn_line.ensures)

pub returns : goal.returns
returns c =
    let bytes = c.args.bytes.now in
    let ended = ended_last bytes (some_bytes bytes c.is_empty.result c.is_empty.ensures c.if-is_empty.false) ∙ eq-eqb _ _ c.if-bytes-ne10.false in
    bytes_good bytes c.if-bytes-gt-MAX_INPUT.false (sym c.is_empty.ensures ∙ c.if-is_empty.false) ended
