use Rattle.std.proofs.Common.{List, ℕ, subst}
use Rattle.std.specs.Prelude.{flat_map}
use Rattle.nn_types.specs.declared.report.Message.{Message}
use Rattle.nn_device.specs.Page.{PutsAllBut}
use Rattle.nn_device.proofs.Pages.{one_more}
use Rattle.nn_live.specs.Answers.{held_line}
use Rattle.nn_live.proofs.one_block.put_waiting.Goals as goal

pub loop-message-preserved : goal.loop-message-preserved
loop-message-preserved g c =
    let lines : List Message → List ℕ = λ messages. flat_map held_line messages in
    one_more (lines c.args.waiting) (held_line c.in-Some.message) (lines c.next.new.self) c.args.page.now c.loop-message.page c.put_held.new.page c.args.writer.now c.loop-message.writer c.put_held.new.writer
    (subst (λ left. PutsAllBut (lines c.args.waiting) (lines left) c.args.page.now c.args.writer.now c.loop-message.page c.loop-message.writer) c.in-Some.ensures.steps c.loop-message.invariant) c.put_held.ensures
