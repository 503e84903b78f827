use Rattle.std.proofs.Common.{◌≡◌, IfOk, true, sym, ap, ◌∙◌, subst}
use Rattle.std.specs.FinMap.Entries.{is_sorted}
use Rattle.nn_model.specs.Namespace.{path_cmp}
use Rattle.nn_tree.specs.At.{names_of}
use Rattle.nn_tree.specs.Rows.{rows_from}
use Rattle.nn_tree.proofs.Listings.{in_order_already}
use Rattle.nn_tree.proofs.Resumed.{resumes}
use Rattle.nn_tree.proofs.namespace.Namespace.rows_from.Goals as goal

pub returns : goal.returns
returns c =
    let place = names_of c.args.place.now in
    let rows : c.self.inside.root ≡ c.args.self.now.rows = sym (in_order_already c.self.inside.root c.recall_invariant.ensures) ∙ ap (λ n. n.rows) c.self.view_is in
    record {
      left = subst (λ all. IfOk c.from.result (λ walk. walk.left ≡ rows_from place all)) rows c.from.ensures;
      resumes = resumes c.args.self.now.rows (subst (λ all. is_sorted path_cmp all ≡ true) rows c.recall_invariant.ensures);
    }
