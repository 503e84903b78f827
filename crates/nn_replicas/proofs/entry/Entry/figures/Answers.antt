use Rattle.std.proofs.Common.{ℕ, length, sym, ap, ◌∙◌}
use Rattle.std.specs.Prelude.{count_by}
use Rattle.nn_replicas.specs.Figures.{figures_in, classes_in, standing_of}
use Rattle.nn_replicas.specs.declared.entry.Cell.{Cell}
use Rattle.nn_replicas.proofs.Written.{entry}
use Rattle.nn_replicas.proofs.Classed.{byte_if, live_are}
use Rattle.nn_replicas.proofs.entry.Entry.figures.Goals as goal

pub returns : goal.returns
returns c =
    let cells = c.self.inside.cells.items in
    let file = c.in-Some.file in
    let classes = c.classes_of-classes.ensures ∙ ap (classes_in file.block) c.as_slice-cells.ensures in
    let live = ap (λ x. x.live) classes ∙ live_are file.block cells in
    let standing = c.of-standing.ensures ∙ ap (standing_of file.closed file.replication c.args.min) live in
    (λ i. record {
      blocks = 1;
      total = byte_if _ _ c.from.ensures i;
      safe = ap (λ x. x.safe) standing i;
      missing = ap (λ x. x.missing) standing i;
      missing_of_one = ap (λ x. x.missing_of_one) standing i;
      under_replicated = ap (λ x. x.under_replicated) standing i;
      over_replicated = ap (λ x. x.over_replicated) standing i;
      stale = ap (λ x. x.stale) classes i;
      ahead = ap (λ x. x.ahead) classes i;
      wrong_length = ap (λ x. x.wrong_length) classes i;
      orders = (c.ordered-orders.ensures ∙ ap (λ xs. count_by (λ (x : ℕ × Cell). x.1.ordered) xs) c.as_slice-cells.ensures) i;
      places = ap length c.as_slice-cells.ensures i;
    })
    ∙ ap (λ f. figures_in c.args.min (entry f cells)) (sym c.in-Some.is) ∙ ap (figures_in c.args.min) c.self.view_is
