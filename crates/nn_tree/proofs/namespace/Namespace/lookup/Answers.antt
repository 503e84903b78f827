use Rattle.std.proofs.Common.{Some, sym, ap, ◌∙◌, subst}
use Rattle.std.specs.Option.{option_copied}
use Rattle.nn_tree.specs.At.{at, IsSubtree}
use Rattle.nn_tree.specs.Found.{form_of}
use Rattle.nn_tree.proofs.Bridge.{looks}
use Rattle.nn_tree.proofs.Files.{at_found}
use Rattle.nn_tree.proofs.Prefix.{free_top}
use Rattle.nn_tree.proofs.namespace.Namespace.lookup.Goals as goal

pub returns-in_default : goal.returns-in_default
returns-in_default c =
    let i = c.self.inside in
    let h = subst (λ o. IsSubtree i.root (c.names.result) (option_copied o)) c.in_default.is c.node.ensures in
    sym (sym (λ j. looks i.root c.args.self.now (ap (λ n. n.rows) c.self.view_is) j (c.names.ensures.names j)) ∙ free_top (at i.root) (c.names.result) h)

pub returns : goal.returns
returns c =
    let i = c.self.inside in
    let h = subst (λ o. IsSubtree i.root (c.names.result) (option_copied o)) c.in-Some.is c.node.ensures in
    sym (sym (λ j. looks i.root c.args.self.now (ap (λ n. n.rows) c.self.view_is) j (c.names.ensures.names j)) ∙ at_found i.root c.in-Some.tree.now (c.names.result) (Some (form_of c.top.result)) h c.top.ensures)
