use Rattle.std.proofs.Common.{◌≡◌, ◌+◌, ◌-◌, length, take, set, sym, ap, ◌∙◌, arith}
use Rattle.nn_sorted.proofs.Changes.{shorter, emptied, popped, popped_filled}
use Rattle.nn_sorted.proofs.chunks.take_last.Goals as goal

pub returns-then-not-is_empty-clause-last : goal.returns-then-not-is_empty-clause-last
returns-then-not-is_empty-clause-last g c =
    shorter c.args.chunks.now.items (c.len-count.result - 1) c.in-Some.entry c.index_mut.result.now c.pop.new.self (omega (arith, c.len-count.ensures, c.if-count-eq0.false, c.args.chunks.now.ok)) c.index_mut.ensures.value c.in-Some.ensures.items

pub returns-clause-last : goal.returns-clause-last
returns-clause-last g c =
    let long : c.len-count.result - 1 + 1 ≡ length c.args.chunks.now.items = omega (arith, c.len-count.ensures, c.if-count-eq0.false, c.args.chunks.now.ok) in
    let none = emptied c.args.chunks.now.items (c.len-count.result - 1) c.pop.new.self c.index.result.now (omega (arith, long)) c.index.ensures c.if-not-is_empty.ensures in
    popped c.args.chunks.now.items c.pop-2.new.self.items (c.len-count.result - 1) c.in-Some.entry c.index_mut.result.now c.pop.new.self long c.index_mut.ensures.value c.in-Some.ensures.items none
    (c.in-Some-pop.ensures.rest ∙ ap (λ n. take (n - 1) (set c.args.chunks.now.items (c.len-count.result - 1) c.pop.new.self)) (sym c.len-count.ensures))

pub returns-clause-filled : goal.returns-clause-filled
returns-clause-filled g c =
    popped_filled c.args.chunks.now.items c.pop-2.new.self.items (c.len-count.result - 1) c.pop.new.self c.requires
    (c.in-Some-pop.ensures.rest ∙ ap (λ n. take (n - 1) (set c.args.chunks.now.items (c.len-count.result - 1) c.pop.new.self)) (sym c.len-count.ensures))
