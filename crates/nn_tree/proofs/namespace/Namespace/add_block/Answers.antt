use Rattle.std.proofs.Common.{◌≡◌, ℕ, true, false, cond, not, [], ◌∷◌, ◌++◌, Some, None, Option, refl, sym, ap, subst, ◌∙◌}
use Rattle.nn_sorted.specs.Values.{value_at}
use Rattle.std.specs.Ordering.{nat_cmp, is_eq}
use Rattle.nn_types.specs.declared.block.Block.{Block}
use Rattle.nn_types.specs.declared.edit.Edit.TheVariants as edit
use Rattle.nn_model.specs.declared.form.Form.TheVariants.{File}
use Rattle.nn_model.specs.declared.form.FileRow.{FileRow}
use Rattle.nn_model.specs.Namespace.{Namespace, lookup, file_or_none}
use Rattle.nn_model.specs.Apply.{refusal, effect, new_block, has_id}
use Rattle.nn_model.specs.declared.form.BlockRow.{BlockRow}
use Rattle.nn_tree.specs.View.{seen, Holds}
use Rattle.nn_tree.proofs.Applies.{HasFile, has_file, add_block_applies}
use Rattle.nn_tree.proofs.Kept.{file_was, still_seen, still_held}
use Rattle.nn_tree.proofs.Deleted.{tie}
use Rattle.nn_tree.proofs.Added.{not_yet, add_block_kept, add_block_seen, kept_looks, undone}
use Rattle.nn_tree.proofs.Maps.{not_root}
use Rattle.nn_tree.proofs.Does.{done}
use Rattle.nn_tree.proofs.Tallies.{sizes_set}
use Rattle.nn_model.specs.Namespace.{file_at}
use Rattle.nn_tree.proofs.namespace.Namespace.add_block.Goals as goal

pub give-requires : goal.give-requires
give-requires c = c.self.invariant.0.well.blocks.awaiting_in_order

pub invariant_of-self-in_default-push_block : goal.invariant_of-self-in_default-push_block
invariant_of-self-in_default-push_block c =
    let i = c.self.inside in
    let s = seen i.root i.issued in
    let waiting : has_id s.issued.awaiting c.args.id ≡ true = sym c.awaits.ensures ∙ c.if-not-awaits.false in
    let row : BlockRow = record { block = new_block c.args.id c.args.stamp; closed = false } in
    let look : ℕ → Option BlockRow = λ id. value_at nat_cmp i.index id in
    let held = still_held i.root c.push_block.new.self i.issued look i.sizes c.in_default-push_block.ensures.err c.self.invariant in (
      kept_looks (seen c.push_block.new.self i.issued) look _
          (undone c.args.id row look (λ id. value_at nat_cmp c.insert.new.self id) (λ id. value_at nat_cmp c.remove-row.new.self id) (not_yet s c.args.id look waiting c.self.invariant.0)
          (λ q. c.in-Ok-insert.ensures.updates q ∙ (λ j. cond (is_eq (nat_cmp c.args.id q)) (Some (record { block = c.empty_block.ensures j; closed = false })) (look q)))
          (λ q. c.remove-row.ensures.updates q))
          held.0,
      held.1,
    )

pub returns-in_default-push_block : goal.returns-in_default-push_block
returns-in_default-push_block c =
    let i = c.self.inside in
    still_seen i.root c.push_block.new.self i.issued c.in_default-push_block.ensures.err ∙ c.self.view_is

pub invariant_of-self-2 : goal.invariant_of-self-2
invariant_of-self-2 c =
    let i = c.self.inside in
    let s = seen i.root i.issued in
    let p = c.args.path.now in
    let ns = c.names-names.result in
    let done = c.in-Ok-push_block.ensures.ok in
    let has : HasFile s p done.0 = has_file i.root s p ns done.0 refl c.names-names.ensures.names (not_root c.names-names.result c.if-is_empty.ensures) done.2 done.3 in
    let waiting : has_id s.issued.awaiting c.args.id ≡ true = sym c.awaits.ensures ∙ c.if-not-awaits.false in
    let lawful : refusal s (edit.AddBlock p c.args.id c.args.stamp) ≡ None = add_block_applies s p done.0 c.args.id c.args.stamp has done.5.1 (ap not waiting) (c.has_stamp.ensures ∙ ap not c.if-not-has_stamp.false) in
    let was : lookup s p ≡ Some (File done.0) = file_was i.root i.issued p ns done.0 c.names-names.ensures.names done.3 in
    let row : BlockRow = record { block = new_block c.args.id c.args.stamp; closed = false } in
    let look : ℕ → Option BlockRow = λ id. value_at nat_cmp i.index id in
    let is : seen c.push_block.new.self c.give.new.self ≡ effect s (edit.AddBlock p c.args.id c.args.stamp) =
    ap (seen c.push_block.new.self) c.give.ensures ∙
    add_block_seen i.root c.push_block.new.self i.issued p ns c.args.id c.args.stamp done.0 done.1 c.names-names.ensures.names done.3 done.4
    (done.5.2 ∙ ap (λ (b : Block). record { replication = done.0.replication; closed = false; blocks = done.0.blocks ++ b ∷ [] }) c.empty_block-2.ensures) in
    subst (λ (n : Namespace). Holds n (λ id. value_at nat_cmp c.insert.new.self id) i.sizes) (sym is) (
      add_block_kept s p c.args.id c.args.stamp done.0 look (λ id. value_at nat_cmp c.insert.new.self id) c.requires.lawful lawful was
          (λ q. c.in-Ok-insert.ensures.updates q ∙ (λ j. cond (is_eq (nat_cmp c.args.id q)) (Some (record { block = c.empty_block.ensures j; closed = false })) (look q)) ∙ ap (λ b. cond b (Some row) (look q)) (tie c.args.id q))
          c.self.invariant.0,
      c.self.invariant.1 ∙ sizes_set s p done.0 (record { replication = (file_at s p).replication; closed = false; blocks = (file_at s p).blocks ++ row.block ∷ [] }) c.self.invariant.0.well.blocks.in_order was,
    )

pub returns : goal.returns
returns c =
    let i = c.self.inside in
    let s = seen i.root i.issued in
    let p = c.args.path.now in
    let ns = c.names-names.result in
    let made = c.in-Ok-push_block.ensures.ok in
    let has : HasFile s p made.0 = has_file i.root s p ns made.0 refl c.names-names.ensures.names (not_root c.names-names.result c.if-is_empty.ensures) made.2 made.3 in
    let waiting : has_id s.issued.awaiting c.args.id ≡ true = sym c.awaits.ensures ∙ c.if-not-awaits.false in
    let lawful : refusal s (edit.AddBlock p c.args.id c.args.stamp) ≡ None = add_block_applies s p made.0 c.args.id c.args.stamp has made.5.1 (ap not waiting) (c.has_stamp.ensures ∙ ap not c.if-not-has_stamp.false) in
    let is : seen c.push_block.new.self c.give.new.self ≡ effect s (edit.AddBlock p c.args.id c.args.stamp) =
    ap (seen c.push_block.new.self) c.give.ensures
    ∙ add_block_seen i.root c.push_block.new.self i.issued p ns c.args.id c.args.stamp made.0 made.1 c.names-names.ensures.names made.3 made.4
    (made.5.2 ∙ ap (λ (b : Block). record { replication = made.0.replication; closed = false; blocks = made.0.blocks ++ b ∷ [] }) c.empty_block-2.ensures) in
    done (edit.AddBlock p c.args.id c.args.stamp) c.self.view_is lawful is c.in-Ok.ensures (made.5.0 ∙ ap (λ (f : FileRow). f.replication) (sym (ap file_or_none (file_was i.root i.issued p ns made.0 c.names-names.ensures.names made.3))))
