use Rattle.std.proofs.Common.{◌==◌, Bool, List, ℕ, filter, ap, subst, ◌∙◌}
use Rattle.std.specs.Prelude.{flat_map}
use Rattle.nn_types.specs.declared.block.Block.{Block}
use Rattle.nn_device.specs.Page.{PutsAllBut}
use Rattle.nn_device.proofs.Pages.{one_more}
use Rattle.nn_tree.specs.Listing.{lent_names}
use Rattle.nn_live.specs.Answers.{block_line}
use Rattle.nn_live.proofs.Pieces.{first_kept}
use Rattle.nn_live.proofs.one_block.put_holder_blocks.Goals as goal

pub rest-preserved-then-eq : goal.rest-preserved-then-eq
rest-preserved-then-eq g c =
    let line : Block → List ℕ = block_line (lent_names c.args.names.now) in
    let its : Block → Bool = λ b. b.id == c.args.id in
    let lines : List Block → List ℕ = λ bs. flat_map line (filter its bs) in
    let are = ap lines c.in-Some.ensures.cases.0 ∙ first_kept its line c.in-Some.block.now c.in-Some.later.now c.if-eq.ensures in
    one_more (lines c.args.blocks.now) (line c.in-Some.block.now) (lines c.in-Some.later.now) c.args.page.now c.rest.page c.put_block.new.page c.args.writer.now c.rest.writer c.put_block.new.writer
    (subst (λ text. PutsAllBut (lines c.args.blocks.now) text c.args.page.now c.args.writer.now c.rest.page c.rest.writer) are c.rest.invariant) c.put_block.ensures
