use Rattle.std.proofs.Common.{arith, sym, subst, ◌≡◌, ◌<◌, ◌+◌, ◌-◌, ◌^◌, ◌/◌, ℕ, length, drop, List}
use Rattle.nn_postponed.specs.Stamps.{stamp_there, IsFirstUpTo}
use Rattle.nn_postponed.proofs.stamps.Stamps.first_up_to.Goals as goal
use Rattle.nn_postponed.proofs.stamps.Stamps.first_up_to.Goals.{then-index-limit-2, else-index-limit-2}
use Rattle.nn_postponed.proofs.Trees.{Descends, all_high, above, descends_left, descends_right, found_there, below_power, read_high, read_low}

pub returns-then-index-limit-clause-none : goal.returns-then-index-limit-clause-none
returns-then-index-limit-clause-none c =
    let long = c.self.invariant.0 in
    let root = read_high c.args.limit 1 c.index.result.now c.self.inside.nodes.items (omega (arith, long, below_power c.self.inside.levels)) c.index.ensures c.if-index-limit.true in
    subst (λ (v : List ℕ). (place : ℕ) → c.args.limit < stamp_there v place) c.self.view_is (all_high c.args.limit c.self.inside.levels c.self.inside.nodes.items c.self.invariant.1 root c.requires long)

pub overflow_add-node : goal.overflow_add-node
overflow_add-node c = omega (arith, above c.args.limit c.self.inside.levels c.loop-level._level c.loop-level.node c.self.inside.nodes.items c.self.invariant.1 c.loop-level-test.true c.loop-level.invariant, c.self.invariant.0, c.self.inside.nodes.ok, c.self.inside.nodes.small)

pub index-requires-in-loop-level : goal.index-requires-in-loop-level
index-requires-in-loop-level c = omega (arith, above c.args.limit c.self.inside.levels c.loop-level._level c.loop-level.node c.self.inside.nodes.items c.self.invariant.1 c.loop-level-test.true c.loop-level.invariant, c.self.invariant.0, c.self.inside.nodes.ok)

pub overflow_add-node-then-index-limit-2 : goal.overflow_add-node-then-index-limit-2
overflow_add-node-then-index-limit-2 c = omega (arith, above c.args.limit c.self.inside.levels c.loop-level._level c.loop-level.node c.self.inside.nodes.items c.self.invariant.1 c.loop-level-test.true c.loop-level.invariant, c.self.invariant.0, c.self.inside.nodes.ok, c.self.inside.nodes.small)

pub loop-level-preserved : goal.loop-level-preserved
loop-level-preserved c =
    let nodes = c.self.inside.nodes.items in
    let node = c.loop-level.node in
    let deep = c.loop-level-test.true in
    let up = above c.args.limit c.self.inside.levels c.loop-level._level node nodes c.self.invariant.1 deep c.loop-level.invariant in
    let lt : node + node < length nodes = omega (arith, up, c.self.invariant.0) in
    elim c.if-index-limit-2.branch [
      | then-index-limit-2 w ↦ subst (Descends c.args.limit nodes (c.loop-level._level + 1)) (sym w.node-is)
          (descends_right c.args.limit c.self.inside.levels c.loop-level._level node nodes c.self.invariant.1 deep c.loop-level.invariant
          (read_high c.args.limit (node + node) c.index-in-loop-level.result.now nodes lt c.index-in-loop-level.ensures w.if-index-limit-2.true))
      | else-index-limit-2 w ↦ subst (Descends c.args.limit nodes (c.loop-level._level + 1)) (sym w.node-is)
          (descends_left c.args.limit c.self.inside.levels c.loop-level._level node nodes c.self.invariant.1 deep c.loop-level.invariant
          (read_low c.args.limit (node + node) c.index-in-loop-level.result.now nodes lt c.index-in-loop-level.ensures w.if-index-limit-2.false))
    ]

pub returns-clause-some : goal.returns-clause-some
returns-clause-some c =
    let nodes = c.self.inside.nodes.items in
    let levels = c.self.inside.levels in
    let at_end : c.loop-level._level ≡ levels = omega (arith, c.loop-level-test.false, c.loop-level.auto._level-end) in
    let half : 2 ^ levels ≡ c.len.result / 2 = omega (arith, c.len.ensures, c.self.invariant.0, c.self.inside.nodes.ok) in
    subst (λ (v : List ℕ). IsFirstUpTo c.args.limit v (c.loop-level.node - c.len.result / 2)) c.self.view_is
    (subst (λ (k : ℕ). IsFirstUpTo c.args.limit (drop (2 ^ levels) nodes) (c.loop-level.node - k)) half
    (found_there c.args.limit levels c.loop-level.node nodes c.requires c.self.invariant.0 (subst (λ (l : ℕ). Descends c.args.limit nodes l c.loop-level.node) at_end c.loop-level.invariant)))
