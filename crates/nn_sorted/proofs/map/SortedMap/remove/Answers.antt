use Rattle.std.proofs.Common.{sym, ap, subst, ◌∙◌, arith}
use Rattle.std.specs.List.Sorted.{IsStrictlySortedBy}
use Rattle.std.specs.Map.{keys_of, lookup, remove_entry}
use Rattle.std.specs.BTreeMap.{is_at}
use Rattle.nn_sorted.specs.Chunks.{flat}
use Rattle.nn_sorted.proofs.Maps.{is_found, is_absent, not_there, nothing_removed, taken_value, taken_out, taken_sorted, taken_length}
use Rattle.nn_sorted.specs.Values.{value_at}
use Rattle.nn_sorted.proofs.Values.{value_removed}
use Rattle.nn_sorted.proofs.map.SortedMap.remove.Goals as goal

pub returns-in_default-clause-value : goal.returns-in_default-clause-value
returns-in_default-clause-value g c =
    let q = g.Q.Seek.order c.args.key in
    let a = is_absent q c.self.inside.chunks.items c.deref.result.now c.find-chunk.result.0 c.in_default.field-0 c.find-chunk.result.1 c.deref.ensures.value c.in_default.is c.find-chunk.ensures.absent in
    let none = not_there q c.self.inside.chunks.items c.find-chunk.result.0 c.in_default.field-0 a g.K.Ord.cmp (g.met.Q.Seek.below c.args.key) c.self.invariant.1 in
    sym none ∙ ap (lookup (is_at q)) c.self.view_is

pub returns-in_default-clause-entries : goal.returns-in_default-clause-entries
returns-in_default-clause-entries g c =
    let q = g.Q.Seek.order c.args.key in
    let a = is_absent q c.self.inside.chunks.items c.deref.result.now c.find-chunk.result.0 c.in_default.field-0 c.find-chunk.result.1 c.deref.ensures.value c.in_default.is c.find-chunk.ensures.absent in
    let none = not_there q c.self.inside.chunks.items c.find-chunk.result.0 c.in_default.field-0 a g.K.Ord.cmp (g.met.Q.Seek.below c.args.key) c.self.invariant.1 in
    sym (nothing_removed q c.args.self.now (sym (ap (lookup (is_at q)) c.self.view_is) ∙ none))

pub overflow_sub-self : goal.overflow_sub-self
overflow_sub-self g c =
    let q = g.Q.Seek.order c.args.key in
    let f = is_found q c.self.inside.chunks.items c.deref.result.now c.find-chunk.result.0 c.in-Ok.place c.find-chunk.result.1 c.deref.ensures.value c.in-Ok.is c.find-chunk.ensures.found in
    let l = taken_length q c.self.inside.chunks.items c.find-chunk.result.0 c.in-Ok.place f c.take-key.result (flat c.take-key.new.chunks.items) c.take-key.ensures.taken c.take-key.ensures.flat in
    omega (arith, l, c.self.invariant.2)

pub invariant_of-self : goal.invariant_of-self
invariant_of-self g c =
    let q = g.Q.Seek.order c.args.key in
    let f = is_found q c.self.inside.chunks.items c.deref.result.now c.find-chunk.result.0 c.in-Ok.place c.find-chunk.result.1 c.deref.ensures.value c.in-Ok.is c.find-chunk.ensures.found in
    let l = taken_length q c.self.inside.chunks.items c.find-chunk.result.0 c.in-Ok.place f c.take-key.result (flat c.take-key.new.chunks.items) c.take-key.ensures.taken c.take-key.ensures.flat in
    let s = taken_sorted q c.self.inside.chunks.items c.find-chunk.result.0 c.in-Ok.place f c.take-key.result (flat c.take-key.new.chunks.items) c.take-key.ensures.taken c.take-key.ensures.flat g.K.Ord.cmp c.self.invariant.1 in
    (c.take-key.ensures.filled, s, omega (arith, l, c.self.invariant.2), omega (arith, c.self.invariant.3))

pub returns-clause-value : goal.returns-clause-value
returns-clause-value g c =
    let q = g.Q.Seek.order c.args.key in
    let f = is_found q c.self.inside.chunks.items c.deref.result.now c.find-chunk.result.0 c.in-Ok.place c.find-chunk.result.1 c.deref.ensures.value c.in-Ok.is c.find-chunk.ensures.found in
    sym (taken_value q c.self.inside.chunks.items c.find-chunk.result.0 c.in-Ok.place f c.take-key.result (flat c.take-key.new.chunks.items) c.take-key.ensures.taken c.take-key.ensures.flat) ∙ ap (lookup (is_at q)) c.self.view_is

pub returns-clause-entries : goal.returns-clause-entries
returns-clause-entries g c =
    let q = g.Q.Seek.order c.args.key in
    let f = is_found q c.self.inside.chunks.items c.deref.result.now c.find-chunk.result.0 c.in-Ok.place c.find-chunk.result.1 c.deref.ensures.value c.in-Ok.is c.find-chunk.ensures.found in
    taken_out q c.self.inside.chunks.items c.find-chunk.result.0 c.in-Ok.place f c.take-key.result (flat c.take-key.new.chunks.items) c.take-key.ensures.taken c.take-key.ensures.flat ∙ ap (remove_entry (is_at q)) c.self.view_is

pub returns-clause-ordered : goal.returns-clause-ordered
returns-clause-ordered g c =
    let q = g.Q.Seek.order c.args.key in
    let f = is_found q c.self.inside.chunks.items c.deref.result.now c.find-chunk.result.0 c.in-Ok.place c.find-chunk.result.1 c.deref.ensures.value c.in-Ok.is c.find-chunk.ensures.found in
    taken_sorted q c.self.inside.chunks.items c.find-chunk.result.0 c.in-Ok.place f c.take-key.result (flat c.take-key.new.chunks.items) c.take-key.ensures.taken c.take-key.ensures.flat g.K.Ord.cmp c.self.invariant.1

pub returns-in_default-clause-updates : goal.returns-in_default-clause-updates
returns-in_default-clause-updates g c q =
    let order = subst (λ l. IsStrictlySortedBy g.K.Ord.cmp (keys_of l)) c.self.view_is c.self.invariant.1 in
    ap (λ l. value_at g.K.Ord.cmp l q) (returns-in_default-clause-entries g c) ∙ value_removed g.met.K.Ord.total (g.Q.Seek.order c.args.key) (g.met.Q.Seek.same c.args.key) c.args.self.now q order

pub returns-clause-updates : goal.returns-clause-updates
returns-clause-updates g c q =
    let order = subst (λ l. IsStrictlySortedBy g.K.Ord.cmp (keys_of l)) c.self.view_is c.self.invariant.1 in
    ap (λ l. value_at g.K.Ord.cmp l q) (returns-clause-entries g c) ∙ value_removed g.met.K.Ord.total (g.Q.Seek.order c.args.key) (g.met.Q.Seek.same c.args.key) c.args.self.now q order
