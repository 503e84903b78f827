use Rattle.std.proofs.Common.{◌≡◌, None, sym, ap, ◌∙◌, subst}
use Rattle.std.specs.Prelude.{option_map}
use Rattle.nn_sorted.specs.Values.{value_at}
use Rattle.std.specs.Ordering.{nat_cmp}
use Rattle.nn_types.specs.declared.status.Status.TheVariants.{Named}
use Rattle.nn_model.specs.Namespace.{Namespace}
use Rattle.nn_model.specs.Status.{block_at, status_of, status_unheld}
use Rattle.nn_tree.specs.View.{seen}
use Rattle.nn_tree.proofs.Named.{block_known, status_named, status_other}
use Rattle.nn_tree.proofs.namespace.Namespace.status.Goals as goal

pub returns-in-Some : goal.returns-in-Some
returns-in-Some c =
    let i = c.self.inside in
    let s = seen i.root i.issued in
    subst (λ (n : Namespace). Named c.in-Some.row.now.block.stamp ≡ status_of n c.args.id) c.self.view_is
    (status_named s c.args.id c.in-Some.row.now.block (sym (block_known s (λ id. value_at nat_cmp i.index id) c.args.id c.self.invariant.0) ∙ ap (option_map (λ row. row.block)) (sym c.in-Some.ensures.value)))

pub returns : goal.returns
returns c =
    let i = c.self.inside in
    let s = seen i.root i.issued in
    let none : block_at s c.args.id ≡ None = sym (block_known s (λ id. value_at nat_cmp i.index id) c.args.id c.self.invariant.0) ∙ ap (option_map (λ row. row.block)) (sym c.in_default.ensures.value) in
    c.unheld_status.ensures ∙ subst (λ (n : Namespace). status_unheld n c.args.id ≡ status_of n c.args.id) c.self.view_is (status_other s c.args.id none)
