use Rattle.std.proofs.Common.{subst, ap, ◌∙◌}
use Rattle.std.specs.Prelude.{IfSome, option_map}
use Rattle.nn_tree.specs.Blocks.{IsInFile}
use Rattle.nn_sorted.specs.Values.{value_at}
use Rattle.std.specs.Ordering.{nat_cmp}
use Rattle.nn_model.specs.Namespace.{Namespace}
use Rattle.nn_model.specs.Status.{block_at}
use Rattle.nn_tree.specs.View.{seen}
use Rattle.nn_tree.proofs.Named.{block_known, row_in_file}
use Rattle.nn_tree.proofs.namespace.Namespace.block.Goals as goal

pub returns-clause-block : goal.returns-clause-block
returns-clause-block c =
    let i = c.self.inside in
    ap (option_map (λ row. row.block)) (c.copied.ensures ∙ c.get.ensures.value)
    ∙ block_known (seen i.root i.issued) (λ id. value_at nat_cmp i.index id) c.args.id c.self.invariant.0 ∙ ap (λ (n : Namespace). block_at n c.args.id) c.self.view_is

pub returns-clause-file : goal.returns-clause-file
returns-clause-file c =
    let i = c.self.inside in
    let s = seen i.root i.issued in
    subst (λ (n : Namespace). IfSome c.copied.result (IsInFile n)) c.self.view_is
    (row_in_file s (λ id. value_at nat_cmp i.index id) c.copied.result c.args.id c.self.invariant.0 (c.copied.ensures ∙ c.get.ensures.value))
