use Rattle.std.proofs.Common.{rules, ◌≡◌, ◌≤◌, length, sym, ap, subst, ◌∙◌}
use Rattle.nn_model.specs.Namespace.{Namespace}
use Rattle.nn_replicas.specs.Agreement.{Shows}
use Rattle.nn_replicas.specs.Calls.{replica_at}
use Rattle.nn_replicas.specs.SafeMode.{counts_of}
use Rattle.nn_tree.specs.Rows.{greatest_depth}
use Rattle.nn_listing.specs.Safety.{unsafe_in}
use Rattle.nn_listing.proofs.Lives.{unsafe_count}
use Rattle.nn_listing.proofs.safety.ReadyUnsafe.of.Goals as goal

pub invariant_of-result : goal.invariant_of-result
invariant_of-result c =
    let x = c.args.standby.now in
    let rows : c.in_ok-rows.rows.left ≡ x.namespace.rows = c.in_ok-rows.ensures.left ∙ ap (λ (n : Namespace). n.rows) c.namespace.ensures in
    let room : greatest_depth c.in_ok-rows.rows.left ≤ c.in_ok-rows.rows.room = search rules in
    let count : c.saturating_sub.result ≡ length (unsafe_in x.table.min (replica_at x.table) x.namespace.rows) =
    c.saturating_sub.ensures ∙ unsafe_count x.permille x.table.min x.namespace (replica_at x.table) (counts_of c.safe_mode-total.result) c.safe_mode-total.ensures in (
      room,
      (x.namespace, subst (Shows x.namespace) (sym c.replicas.ensures) c.recall_invariant.ensures.shows),
      count ∙ (λ j. length (unsafe_in (sym c.replicas.ensures j).min (replica_at (sym c.replicas.ensures j)) (sym rows j))),
    )
