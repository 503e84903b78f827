use Rattle.std.proofs.Common.{Some, refl, sym, ap, ◌∙◌, arith}
use Rattle.std.proofs.lemmas.List.{length-set}
use Rattle.std.specs.Vec.{with_item}
use Rattle.std.specs.Map.{lookup}
use Rattle.std.specs.BTreeMap.{insert_entry, is_at}
use Rattle.std.specs.BTreeMap.Comparable.{le_lt_trans}
use Rattle.nn_sorted.specs.Chunks.{flat}
use Rattle.nn_sorted.proofs.Changes.{filled_in}
use Rattle.nn_sorted.proofs.Maps.{is_found, is_absent, within, looked_up, not_there, replaced, written_sorted, written_length, entered, entered_sorted, entered_length}
use Rattle.nn_sorted.specs.Values.{value_at}
use Rattle.nn_sorted.proofs.Values.{value_inserted}
use Rattle.nn_sorted.proofs.map.SortedMap.insert.Goals as goal

pub invariant_of-self : goal.invariant_of-self
invariant_of-self g c =
    let q = g.K.Ord.cmp c.args.key in
    let f = is_found q c.self.inside.chunks.items c.deref.result.now c.find-chunk.result.0 c.in-Ok.place c.find-chunk.result.1 c.deref.ensures.value c.in-Ok.is c.find-chunk.ensures.found in
    let y = with_item c.index_mut.result.now c.in-Ok.place (c.index_mut-in-Ok.result.now.0, c.replace-before.new.dest) in
    let p = within q c.self.inside.chunks.items c.find-chunk.result.0 c.in-Ok.place c.index_mut.result.now f c.index_mut.ensures.value in (
      filled_in c.self.inside.chunks.items c.find-chunk.result.0 y c.self.invariant.0 (omega (arith, p, length-set c.index_mut.result.now.items c.in-Ok.place (c.index_mut-in-Ok.result.now.0, c.replace-before.new.dest))),
      written_sorted q c.self.inside.chunks.items c.find-chunk.result.0 c.in-Ok.place c.index_mut.result.now f c.index_mut.ensures.value c.index_mut-in-Ok.result.now c.index_mut-in-Ok.ensures.value c.replace-before.new.dest y refl g.K.Ord.cmp c.self.invariant.1,
      c.self.invariant.2 ∙ sym (written_length q c.self.inside.chunks.items c.find-chunk.result.0 c.in-Ok.place c.index_mut.result.now f c.index_mut.ensures.value c.index_mut-in-Ok.result.now c.index_mut-in-Ok.ensures.value c.replace-before.new.dest y refl),
      c.self.invariant.3,
    )

pub returns-in-Ok-clause-entries : goal.returns-in-Ok-clause-entries
returns-in-Ok-clause-entries g c =
    let q = g.K.Ord.cmp c.args.key in
    let f = is_found q c.self.inside.chunks.items c.deref.result.now c.find-chunk.result.0 c.in-Ok.place c.find-chunk.result.1 c.deref.ensures.value c.in-Ok.is c.find-chunk.ensures.found in
    let y = with_item c.index_mut.result.now c.in-Ok.place (c.index_mut-in-Ok.result.now.0, c.replace-before.new.dest) in
    replaced g.K.Ord.cmp c.args.key c.replace-before.new.dest c.self.inside.chunks.items c.find-chunk.result.0 c.in-Ok.place c.index_mut.result.now y f c.index_mut.ensures.value c.index_mut-in-Ok.result.now c.index_mut-in-Ok.ensures.value refl
    ∙ (λ i. insert_entry g.K.Ord.cmp (c.self.view_is i) c.args.key (c.replace-before.ensures.after i))

pub returns-in-Ok-clause-old : goal.returns-in-Ok-clause-old
returns-in-Ok-clause-old g c =
    let q = g.K.Ord.cmp c.args.key in
    let f = is_found q c.self.inside.chunks.items c.deref.result.now c.find-chunk.result.0 c.in-Ok.place c.find-chunk.result.1 c.deref.ensures.value c.in-Ok.is c.find-chunk.ensures.found in
    ap Some c.replace-before.ensures.value ∙ sym (looked_up q c.self.inside.chunks.items c.find-chunk.result.0 c.in-Ok.place c.index_mut.result.now f c.index_mut.ensures.value c.index_mut-in-Ok.result.now c.index_mut-in-Ok.ensures.value) ∙ ap (lookup (is_at q)) c.self.view_is

pub returns-in-Ok-clause-ordered : goal.returns-in-Ok-clause-ordered
returns-in-Ok-clause-ordered g c =
    let q = g.K.Ord.cmp c.args.key in
    let f = is_found q c.self.inside.chunks.items c.deref.result.now c.find-chunk.result.0 c.in-Ok.place c.find-chunk.result.1 c.deref.ensures.value c.in-Ok.is c.find-chunk.ensures.found in
    let y = with_item c.index_mut.result.now c.in-Ok.place (c.index_mut-in-Ok.result.now.0, c.replace-before.new.dest) in
    written_sorted q c.self.inside.chunks.items c.find-chunk.result.0 c.in-Ok.place c.index_mut.result.now f c.index_mut.ensures.value c.index_mut-in-Ok.result.now c.index_mut-in-Ok.ensures.value c.replace-before.new.dest y refl g.K.Ord.cmp c.self.invariant.1

pub returns-then-self-eq-LIMIT-clause-absent : goal.returns-then-self-eq-LIMIT-clause-absent
returns-then-self-eq-LIMIT-clause-absent g c =
    let q = g.K.Ord.cmp c.args.key in
    let a = is_absent q c.self.inside.chunks.items c.deref.result.now c.find-chunk.result.0 c.in-Err.place c.find-chunk.result.1 c.deref.ensures.value c.in-Err.is c.find-chunk.ensures.absent in
    let none = not_there q c.self.inside.chunks.items c.find-chunk.result.0 c.in-Err.place a g.K.Ord.cmp (le_lt_trans g.met.K.Ord.total c.args.key) c.self.invariant.1 in
    sym (ap (lookup (is_at q)) c.self.view_is) ∙ none

pub returns-in-Err-put-clause-absent : goal.returns-in-Err-put-clause-absent
returns-in-Err-put-clause-absent g c =
    let q = g.K.Ord.cmp c.args.key in
    let a = is_absent q c.self.inside.chunks.items c.deref.result.now c.find-chunk.result.0 c.in-Err.place c.find-chunk.result.1 c.deref.ensures.value c.in-Err.is c.find-chunk.ensures.absent in
    let none = not_there q c.self.inside.chunks.items c.find-chunk.result.0 c.in-Err.place a g.K.Ord.cmp (le_lt_trans g.met.K.Ord.total c.args.key) c.self.invariant.1 in
    sym (ap (lookup (is_at q)) c.self.view_is) ∙ none

pub invariant_of-self-2 : goal.invariant_of-self-2
invariant_of-self-2 g c =
    let q = g.K.Ord.cmp c.args.key in
    let a = is_absent q c.self.inside.chunks.items c.deref.result.now c.find-chunk.result.0 c.in-Err.place c.find-chunk.result.1 c.deref.ensures.value c.in-Err.is c.find-chunk.ensures.absent in
    let s = entered_sorted g.met.K.Ord.total c.args.key c.args.value c.self.inside.chunks.items c.find-chunk.result.0 c.in-Err.place a (flat c.put.new.chunks.items) c.in_default.ensures.ok c.self.invariant.1 in
    let l = entered_length g.met.K.Ord.total c.args.key c.args.value c.self.inside.chunks.items c.find-chunk.result.0 c.in-Err.place a (flat c.put.new.chunks.items) c.in_default.ensures.ok in
    (c.in_default.ensures.filled, s, omega (arith, l, c.self.invariant.2), omega (arith, c.self.invariant.3, c.if-self-eq-LIMIT.false))

pub returns-clause-entries : goal.returns-clause-entries
returns-clause-entries g c =
    let q = g.K.Ord.cmp c.args.key in
    let a = is_absent q c.self.inside.chunks.items c.deref.result.now c.find-chunk.result.0 c.in-Err.place c.find-chunk.result.1 c.deref.ensures.value c.in-Err.is c.find-chunk.ensures.absent in
    entered g.met.K.Ord.total c.args.key c.args.value c.self.inside.chunks.items c.find-chunk.result.0 c.in-Err.place a (flat c.put.new.chunks.items) c.in_default.ensures.ok ∙ ap (λ l. insert_entry g.K.Ord.cmp l c.args.key c.args.value) c.self.view_is

pub returns-clause-old : goal.returns-clause-old
returns-clause-old g c =
    let q = g.K.Ord.cmp c.args.key in
    let a = is_absent q c.self.inside.chunks.items c.deref.result.now c.find-chunk.result.0 c.in-Err.place c.find-chunk.result.1 c.deref.ensures.value c.in-Err.is c.find-chunk.ensures.absent in
    let none = not_there q c.self.inside.chunks.items c.find-chunk.result.0 c.in-Err.place a g.K.Ord.cmp (le_lt_trans g.met.K.Ord.total c.args.key) c.self.invariant.1 in
    sym none ∙ ap (lookup (is_at q)) c.self.view_is

pub returns-clause-ordered : goal.returns-clause-ordered
returns-clause-ordered g c =
    let q = g.K.Ord.cmp c.args.key in
    let a = is_absent q c.self.inside.chunks.items c.deref.result.now c.find-chunk.result.0 c.in-Err.place c.find-chunk.result.1 c.deref.ensures.value c.in-Err.is c.find-chunk.ensures.absent in
    entered_sorted g.met.K.Ord.total c.args.key c.args.value c.self.inside.chunks.items c.find-chunk.result.0 c.in-Err.place a (flat c.put.new.chunks.items) c.in_default.ensures.ok c.self.invariant.1

pub returns-in-Ok-clause-updates : goal.returns-in-Ok-clause-updates
returns-in-Ok-clause-updates g c q =
    ap (λ l. value_at g.K.Ord.cmp l q) (returns-in-Ok-clause-entries g c) ∙ value_inserted g.met.K.Ord.total c.args.self.now c.args.key q c.args.value

pub returns-clause-updates : goal.returns-clause-updates
returns-clause-updates g c q =
    ap (λ l. value_at g.K.Ord.cmp l q) (returns-clause-entries g c) ∙ value_inserted g.met.K.Ord.total c.args.self.now c.args.key q c.args.value
