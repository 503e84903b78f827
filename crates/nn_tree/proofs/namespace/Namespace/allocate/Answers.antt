use Rattle.std.proofs.Common.{◌≡◌, None, sym, ap, subst, ◌∙◌}
use Rattle.nn_types.specs.declared.edit.Edit.TheVariants as edit
use Rattle.nn_model.specs.Namespace.{Namespace}
use Rattle.nn_model.specs.Apply.{refusal}
use Rattle.nn_sorted.specs.Values.{value_at}
use Rattle.std.specs.Ordering.{nat_cmp}
use Rattle.nn_tree.specs.View.{seen, Holds}
use Rattle.nn_tree.proofs.Changed.{none_at}
use Rattle.nn_tree.proofs.Kept.{below_next, allocate_kept}
use Rattle.nn_tree.proofs.Does.{done}
use Rattle.std.proofs.Common.{ℕ, ◌+◌, [], Some, nat_lt}
use Rattle.std.specs.Prelude.{◌-◌, if◌then◌else◌}
use Rattle.nn_tree.proofs.namespace.Namespace.allocate.Goals as goal

pub allocate-requires : goal.allocate-requires
allocate-requires c =
    let i = c.self.inside in
    let s = seen i.root i.issued in
    let lawful : refusal s (edit.AllocateBlockId c.args.id) ≡ None = subst (λ (n : Namespace). refusal n (edit.AllocateBlockId c.args.id) ≡ None) (sym c.self.view_is) (sym c.allocate_refusal.ensures ∙ none_at _ c.if-is_some.ensures) in
    below_next s c.args.id c.self.invariant.0.well.blocks lawful

pub invariant_of-self-2 : goal.invariant_of-self-2
invariant_of-self-2 c =
    let i = c.self.inside in
    let s = seen i.root i.issued in
    let lawful : refusal s (edit.AllocateBlockId c.args.id) ≡ None = subst (λ (n : Namespace). refusal n (edit.AllocateBlockId c.args.id) ≡ None) (sym c.self.view_is) (sym c.allocate_refusal.ensures ∙ none_at _ c.if-is_some.ensures) in
    subst (λ (n : Namespace). Holds n (λ id. value_at nat_cmp i.index id) i.sizes) (sym (ap (seen i.root) c.in-Ok.ensures.ok)) (allocate_kept s c.args.id _ c.requires.lawful lawful c.self.invariant.0, c.self.invariant.1)

pub returns : goal.returns
returns c =
    let i = c.self.inside in
    let s = seen i.root i.issued in
    let lawful : refusal s (edit.AllocateBlockId c.args.id) ≡ None = subst (λ (n : Namespace). refusal n (edit.AllocateBlockId c.args.id) ≡ None) (sym c.self.view_is) (sym c.allocate_refusal.ensures ∙ none_at _ c.if-is_some.ensures) in
    done (edit.AllocateBlockId c.args.id) c.self.view_is lawful (ap (seen i.root) c.in-Ok.ensures.ok)
    (c.issued-touched.ensures.touched ∙ ap (λ (last : ℕ). record { changed = []; retired = []; skipped = if nat_lt (last + 1) c.args.id then Some (last + 1, c.args.id - 1) else None }) c.last_block.ensures)
    c.issued-touched.ensures.replication
