use Rattle.std.proofs.Common.{is_some, ap, ◌∙◌, None}
use Rattle.std.specs.Option.{option_copied}
use Rattle.nn_tree.specs.At.{at}
use Rattle.nn_tree.proofs.Subtree.{subtree_below}
use Rattle.nn_tree.proofs.Walk.{walk_below, same_answer, if_ok}
use Rattle.nn_tree.proofs.Step.{on_err}
use Rattle.nn_tree.proofs.tree.Tree.+reach.Goals as goal

pub returns-clause-walked : goal.returns-clause-walked
returns-clause-walked t c =
    same_answer c.reach.result _ _ (walk_below c.args.self.now c.in-Some-child.child.now c.in-Some.first.now c.in-Some.rest c.args.names.now c.in-Some.ensures.some c.in-Some-child.ensures.dir c.in-Some-child.ensures.found) c.reach.ensures.walked

pub returns-clause-found : goal.returns-clause-found
returns-clause-found t c =
    if_ok c.reach.result (λ o. subtree_below c.args.self.now c.in-Some-child.child.now c.in-Some.first.now c.in-Some.rest c.args.names.now (option_copied o) c.in-Some.ensures.some c.in-Some-child.ensures.found) c.reach.ensures.found

pub returns-clause-free : goal.returns-clause-free
returns-clause-free t c =
    on_err c.reach.result (subtree_below c.args.self.now c.in-Some-child.child.now c.in-Some.first.now c.in-Some.rest c.args.names.now None c.in-Some.ensures.some c.in-Some-child.ensures.found) c.reach.ensures.free

pub returns-clause-present : goal.returns-clause-present
returns-clause-present t c =
    if_ok c.reach.result (λ o h. ap (λ p. is_some (at c.args.self.now p)) c.in-Some.ensures.some ∙ ap is_some (c.in-Some-child.ensures.found c.in-Some.rest) ∙ h) c.reach.ensures.present
