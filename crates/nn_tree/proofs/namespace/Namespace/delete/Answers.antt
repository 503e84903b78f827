use Rattle.std.proofs.Common.{◌≡◌, ℕ, cond, List, [], ◌++◌, Some, None, is_some, sym, ap, subst, ◌∙◌, refl}
use Rattle.nn_sorted.specs.Values.{value_at}
use Rattle.std.specs.Ordering.{nat_cmp}
use Rattle.std.specs.Option.{option_copied}
use Rattle.nn_types.specs.declared.edit.Edit.TheVariants as edit
use Rattle.nn_model.specs.Apply.{refusal, effect, has_id}
use Rattle.nn_tree.specs.Ids.{ids_of_rows}
use Rattle.nn_tree.specs.At.{IsSubtree}
use Rattle.nn_tree.specs.View.{seen}
use Rattle.nn_model.specs.Touched.{ids_below, ascending}
use Rattle.nn_tree.proofs.Applies.{delete_applies}
use Rattle.nn_tree.proofs.Ascending.{sorted_is}
use Rattle.nn_tree.proofs.Bridge.{looks}
use Rattle.nn_tree.proofs.Maps.{not_root}
use Rattle.nn_tree.proofs.Retired.{ids_collected}
use Rattle.nn_tree.proofs.Deleted.{deleted_seen, delete_kept}
use Rattle.nn_tree.proofs.Does.{done}
use Rattle.nn_model.specs.Namespace.{Namespace}
use Rattle.nn_tree.specs.Sizes.{sizes_of, plus}
use Rattle.nn_tree.proofs.Tallies.{sizes_taken, part_files, part_directories, rest_is}
use Rattle.nn_tree.proofs.namespace.Namespace.delete.Goals as goal

pub invariant_of-self : goal.invariant_of-self
invariant_of-self c =
    let i = c.self.inside in
    let s = seen i.root i.issued in
    let p = c.args.path.now in
    let ns = c.names-names.result in
    let tree = c.in-Ok-Some.tree.now in
    let sub : IsSubtree i.root ns (Some tree) = subst (λ o. IsSubtree i.root ns (option_copied o)) c.in-Ok-Some.field-0-is c.in-Ok-Some.ensures.found in
    let lawful : refusal s (edit.Delete p) ≡ None = delete_applies i.root s p ns refl c.names-names.ensures.names (not_root c.names-names.result c.if-is_empty.ensures) c.in-Ok-Some.ensures.walked (c.in-Ok-Some.ensures.present ∙ ap is_some c.in-Ok-Some.field-0-is) in
    let is : seen c.take-gone.new.self i.issued ≡ effect s (edit.Delete p) = deleted_seen i.root c.take-gone.new.self i.issued p ns c.names-names.ensures.names c.take-gone.ensures.gone in
    let taken : sizes_of s.rows ≡ plus (sizes_of tree) (sizes_of (effect s (edit.Delete p)).rows) =
    sizes_taken s p tree c.self.invariant.0.well.blocks.in_order c.recall_invariant.ensures (λ q. sym (λ j. looks i.root s refl j (c.names-names.ensures.names j ++ q)) ∙ sub q) in (
      delete_kept i.root c.take-gone.new.self tree i.issued c.collect_ids.new.out.items (λ id. value_at nat_cmp i.index id) (λ id. value_at nat_cmp c.forget.new.index id) p ns c.names-names.ensures.names c.requires.lawful
          lawful c.take-gone.ensures.gone sub c.recall_invariant.ensures (c.in-Ok.ensures.ids ∙ ap (λ (xs : List ℕ). xs ++ ids_of_rows tree) c.new-ids.ensures.items)
          (λ id. c.forget.ensures id ∙ ap (λ (xs : List ℕ). cond (has_id xs id) None (value_at nat_cmp i.index id)) c.deref.ensures.value) c.self.invariant.0,
      rest_is (sizes_of tree) c.in-Ok.others (sizes_of (effect s (edit.Delete p)).rows) (sym c.in-Ok.ensures.sizes ∙ c.self.invariant.1 ∙ taken) ∙ ap (λ (n : Namespace). sizes_of n.rows) (sym is),
    )

pub returns : goal.returns
returns c =
    let i = c.self.inside in
    let s = seen i.root i.issued in
    let p = c.args.path.now in
    let ns = c.names-names.result in
    let tree = c.in-Ok-Some.tree.now in
    let lawful : refusal s (edit.Delete p) ≡ None = delete_applies i.root s p ns refl c.names-names.ensures.names (not_root c.names-names.result c.if-is_empty.ensures) c.in-Ok-Some.ensures.walked (c.in-Ok-Some.ensures.present ∙ ap is_some c.in-Ok-Some.field-0-is) in
    let is : seen c.take-gone.new.self i.issued ≡ effect s (edit.Delete p) = deleted_seen i.root c.take-gone.new.self i.issued p ns c.names-names.ensures.names c.take-gone.ensures.gone in
    let sub : IsSubtree i.root ns (Some tree) = subst (λ o. IsSubtree i.root ns (option_copied o)) c.in-Ok-Some.field-0-is c.in-Ok-Some.ensures.found in
    let ids : c.collect_ids.new.out.items ≡ ids_below s p =
    c.in-Ok.ensures.ids ∙ ap (λ (xs : List ℕ). xs ++ ids_of_rows tree) c.new-ids.ensures.items
    ∙ ids_collected s p tree c.self.invariant.0.well.blocks.in_order c.recall_invariant.ensures (λ q. sym (λ j. looks i.root s refl j (c.names-names.ensures.names j ++ q)) ∙ sub q) in
    done (edit.Delete p) c.self.view_is lawful is (c.deleted.ensures.touched
    ∙ (λ j. record { changed = []; retired = (sorted_is c.collect_ids.new.out.items c.sort_unstable.new.self.items c.sort_unstable.ensures.permutation c.sort_unstable.ensures.sorted ∙ ap ascending ids) j; skipped = None }))
    c.deleted.ensures.replication

pub collect_ids-requires-clause-files : goal.collect_ids-requires-clause-files
collect_ids-requires-clause-files c =
    let i = c.self.inside in
    let s = seen i.root i.issued in
    let p = c.args.path.now in
    let ns = c.names-names.result in
    let tree = c.in-Ok-Some.tree.now in
    let sub : IsSubtree i.root ns (Some tree) = subst (λ o. IsSubtree i.root ns (option_copied o)) c.in-Ok-Some.field-0-is c.in-Ok-Some.ensures.found in
    let taken : sizes_of s.rows ≡ plus (sizes_of tree) (sizes_of (effect s (edit.Delete p)).rows) =
    sizes_taken s p tree c.self.invariant.0.well.blocks.in_order c.recall_invariant.ensures (λ q. sym (λ j. looks i.root s refl j (c.names-names.ensures.names j ++ q)) ∙ sub q) in
    part_files i.sizes (sizes_of tree) (sizes_of (effect s (edit.Delete p)).rows) (c.self.invariant.1 ∙ taken)

pub collect_ids-requires-clause-directories : goal.collect_ids-requires-clause-directories
collect_ids-requires-clause-directories c =
    let i = c.self.inside in
    let s = seen i.root i.issued in
    let p = c.args.path.now in
    let ns = c.names-names.result in
    let tree = c.in-Ok-Some.tree.now in
    let sub : IsSubtree i.root ns (Some tree) = subst (λ o. IsSubtree i.root ns (option_copied o)) c.in-Ok-Some.field-0-is c.in-Ok-Some.ensures.found in
    let taken : sizes_of s.rows ≡ plus (sizes_of tree) (sizes_of (effect s (edit.Delete p)).rows) =
    sizes_taken s p tree c.self.invariant.0.well.blocks.in_order c.recall_invariant.ensures (λ q. sym (λ j. looks i.root s refl j (c.names-names.ensures.names j ++ q)) ∙ sub q) in
    part_directories i.sizes (sizes_of tree) (sizes_of (effect s (edit.Delete p)).rows) (c.self.invariant.1 ∙ taken)
