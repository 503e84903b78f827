use Rattle.std.proofs.lemmas.Result.{IfOk-weaker}
use Rattle.std.specs.Prelude.{string_bytes}
use Rattle.nn_segment.proofs.Names.{names, written, written_ok}
use Rattle.nn_segment.proofs.name.segment_name.Goals as goal

pub returns-clause-ok : goal.returns-clause-ok
returns-clause-ok c =
    let text = rw (c.laid_out.ensures, c.laid_out-2.ensures, c.get.ensures.value, c.get-2.ensures.value) at c.format.ensures.ok in
    written_ok string_bytes c.format.result _ _ (written c.args.first c.args.last c.get.ensures.limit c.get-2.ensures.limit) text

pub returns-clause-named : goal.returns-clause-named
returns-clause-named c =
    let ordered = c.requires in
    IfOk-weaker c.format.result _ _
    (λ name spelled. names (string_bytes name) c.args.first c.args.last (record { from_one = ordered.from_one; in_order = ordered.in_order; in_range = c.get-2.ensures.limit; spelled = spelled }))
    (returns-clause-ok c)
