use Rattle.std.proofs.Common.{◌≡◌, ◌+◌, ap, ◌∙◌, arith, ℕ}
use Rattle.nn_replicas.specs.Calls.{replicas_at}
use Rattle.nn_listing.proofs.Lives.{lives, one_fits, counted_live, passed_over, all_counted}
use Rattle.nn_listing.proofs.safety.live_count.Goals as goal

pub overflow_add-live : goal.overflow_add-live
overflow_add-live c = omega (arith, one_fits c.requires.shows.0 c.args.table.now c.args.block.now c.replicas.live (lives c.args.block.now c.replicas.replicas) c.requires.shows.1 c.replicas.invariant)

pub replicas-init : goal.replicas-init
replicas-init c = ap (λ rs. 0 + lives c.args.block.now rs) c.replicas_of-replicas.ensures.all ∙ none_before (lives c.args.block.now (replicas_at c.args.table.now c.args.block.now.id))
  where
    none_before : (k : ℕ) → 0 + k ≡ k
    none_before k = omega arith

pub replicas-preserved-then-is_live : goal.replicas-preserved-then-is_live
replicas-preserved-then-is_live c = counted_live c.args.block.now c.replicas.live (lives c.args.block.now (replicas_at c.args.table.now c.args.block.now.id)) c.replicas.replicas (c.in-Some.field-0-0, c.in-Some.replica) c.next.new.self
    c.in-Some.ensures.steps c.replicas.invariant c.if-is_live.ensures

pub replicas-preserved : goal.replicas-preserved
replicas-preserved c = passed_over c.args.block.now c.replicas.live (lives c.args.block.now (replicas_at c.args.table.now c.args.block.now.id)) c.replicas.replicas (c.in-Some.field-0-0, c.in-Some.replica) c.next.new.self
    c.in-Some.ensures.steps c.replicas.invariant c.if-is_live.ensures

pub returns : goal.returns
returns c = all_counted c.requires.shows.0 c.args.table.now c.args.block.now c.replicas.live c.replicas.replicas c.requires.shows.1 c.in_default.ensures.steps.0 c.replicas.invariant
