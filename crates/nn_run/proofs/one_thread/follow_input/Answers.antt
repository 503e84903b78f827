use Rattle.std.proofs.Common.{◌++◌, Ok, ap, ◌∙◌}
use Rattle.std.proofs.lemmas.Result.{IfOk-weaker, IfErr-weaker}
use Rattle.nn_input.specs.Cut.{ahead}
use Rattle.nn_image.specs.declared.front.FrontImage.TheVariants.{Ended}
use Rattle.nn_run.proofs.EndLemmas.{run_of_lines}
use Rattle.nn_run.proofs.InputLemmas.{begins_behind, lines_unread, read_to_end}
use Rattle.nn_run.proofs.StartLemmas.{starts_from_image}
use Rattle.nn_run.proofs.one_thread.follow_input.Goals as goal

pub returns-in-Err-clause-why : goal.returns-in-Err-clause-why
returns-in-Err-clause-why g c =
    let x = begins_behind c.if-not-options.false c.in_ok-lines.ensures.fresh.0 (c.in-Ended-Err.is ∙ ap Ended c.in-Ended-Err.field-0-is) c.in_ok-load_front.ensures.front in
    lines_unread x c.pass_to_end.new.input c.in-Err.unread c.in-Err.ensures.why

pub returns-in-Ended-Err-clause-whole : goal.returns-in-Ended-Err-clause-whole
returns-in-Ended-Err-clause-whole g c =
    let x = begins_behind c.if-not-options.false c.in_ok-lines.ensures.fresh.0 (c.in-Ended-Err.is ∙ ap Ended c.in-Ended-Err.field-0-is) c.in_ok-load_front.ensures.front in
    let r = c.in_default.ensures.read in
    read_to_end x r.0 r.1 (λ input read rest. starts_from_image c.args.options.now.from_image input _ read)

pub returns-clause-whole : goal.returns-clause-whole
returns-clause-whole g c =
    let options = c.args.options.now in
    let x = begins_behind c.if-not-options.false c.in_ok-lines.ensures.fresh.0 (c.in-Ended-Ok.is ∙ ap Ended c.in-Ended-Ok.field-0-is) c.in_ok-load_front.ensures.front in
    IfOk-weaker c.follow_from-in-Ended-Ok.result _ _ (λ r h. read_to_end x h.0 h.1 (λ input read rest.
    run_of_lines options input (Ok (record { namespace = c.in-Ended-Ok.namespace; txid = c.in-Ended-Ok.txid })) (ahead c.load_front.new.lines ++ h.0) r
    (starts_from_image options.from_image input _ read) rest h.2)) c.follow_from-in-Ended-Ok.ensures.read

pub returns-clause-why : goal.returns-clause-why
returns-clause-why g c =
    let x = begins_behind c.if-not-options.false c.in_ok-lines.ensures.fresh.0 (c.in-Ended-Ok.is ∙ ap Ended c.in-Ended-Ok.field-0-is) c.in_ok-load_front.ensures.front in
    IfErr-weaker c.follow_from-in-Ended-Ok.result _ _ (lines_unread x c.follow_from-in-Ended-Ok.new.input) c.follow_from-in-Ended-Ok.ensures.why
