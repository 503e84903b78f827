use Rattle.std.proofs.Common.{◌≡◌, ℕ, true, false, Some, None, List, Option, cond, map, sym, ap, subst, ◌∙◌}
use Rattle.std.specs.List.{list_all}
use Rattle.nn_sorted.specs.Values.{value_at}
use Rattle.std.specs.Ordering.{nat_cmp}
use Rattle.nn_types.specs.declared.edit.Edit.TheVariants as edit
use Rattle.nn_model.specs.declared.form.Form.{Form}
use Rattle.nn_model.specs.declared.form.Form.TheVariants.{File}
use Rattle.nn_model.specs.Namespace.{Namespace, Path, with_row}
use Rattle.nn_model.specs.Apply.{refusal, has_id}
use Rattle.nn_tree.specs.At.{IsGrafted}
use Rattle.nn_tree.specs.Entered.{entered, are_new}
use Rattle.nn_tree.specs.Restore.{can_restore, block_fits}
use Rattle.nn_tree.specs.View.{seen, Holds}
use Rattle.nn_model.specs.declared.form.BlockRow.{BlockRow}
use Rattle.nn_tree.proofs.Added.{kept_looks}
use Rattle.nn_tree.proofs.Entered.{undone}
use Rattle.nn_tree.proofs.Kept.{made, still_seen, still_held, mkdir_free, add_mkdir}
use Rattle.nn_tree.proofs.RestoredFile.{file_is_old, file_restored, file_kept}
use Rattle.nn_tree.specs.Sizes.{plus}
use Rattle.nn_tree.proofs.Tallies.{size_of, sizes_made}
use Rattle.nn_tree.proofs.namespace.Namespace.place.Goals as goal

pub returns-in-Err-clause-refused : goal.returns-in-Err-clause-refused
returns-in-Err-clause-refused c =
    λ refused.
    let i = c.self.inside in
    let s = seen i.root i.issued in
    let look : ℕ → Option BlockRow = λ id. value_at nat_cmp i.index id in
    subst (λ (n : Namespace). can_restore n c.args.path.now (File c.args.file) ≡ false) c.self.view_is
    (file_is_old s c.args.path.now c.args.file look (ap (are_new look) (sym c.as_slice-blocks.ensures) ∙ c.in-Err.ensures.refused refused) c.self.invariant.0)

pub invariant_of-self-in_default-make : goal.invariant_of-self-in_default-make
invariant_of-self-in_default-make c =
    let i = c.self.inside in
    let look : ℕ → Option BlockRow = λ id. value_at nat_cmp i.index id in
    let bs = c.as_slice-blocks.result.now in
    let keys = c.requires.ids ∙ ap (map (λ b. b.id)) (sym c.as_slice-blocks.ensures) in
    let held = still_held i.root c.make.new.self i.issued look i.sizes c.in_default-make.ensures.err c.self.invariant in (
      kept_looks (seen c.make.new.self i.issued) look (λ id. value_at nat_cmp c.forget.new.index id)
          (λ q. c.forget.ensures q ∙ (λ j. cond (has_id (keys j) q) None (c.in_default-enter.ensures.ok q j)) ∙ undone look bs c.args.file.closed q c.in_default-enter.ensures.lawful)
          held.0,
      held.1,
    )

pub returns-in_default-make-clause-err : goal.returns-in_default-make-clause-err
returns-in_default-make-clause-err c =
    let i = c.self.inside in
    still_seen i.root c.make.new.self i.issued c.in_default-make.ensures.err ∙ c.self.view_is

pub invariant_of-self-2 : goal.invariant_of-self-2
invariant_of-self-2 c =
    let i = c.self.inside in
    let s = seen i.root i.issued in
    let look : ℕ → Option BlockRow = λ id. value_at nat_cmp i.index id in
    let p = c.args.path.now in
    let ns = c.names-names.result in
    let x = c.args.file in
    let is : seen c.make.new.self i.issued ≡ with_row s p (File x) =
    made i.root c.make.new.self i.issued p ns (File x) c.names-names.ensures.names c.in-Ok.ensures.ok.1 (subst (λ (es : List (Path × Form)). IsGrafted i.root ns (Some es) c.make.new.self) c.new_file.ensures c.in-Ok.ensures.ok.2) in
    let listed = c.as_slice-blocks.ensures in
    let applies : refusal s (edit.Add p x.replication) ≡ None = subst (λ (n : Namespace). refusal n (edit.Add p x.replication) ≡ None) (sym c.self.view_is) c.requires.applies in
    let fit : list_all (block_fits s.issued) x.blocks ≡ true = subst (λ (n : Namespace). list_all (block_fits n.issued) x.blocks ≡ true) (sym c.self.view_is) c.requires.fit in
    subst (λ (n : Namespace). Holds n (λ id. value_at nat_cmp c.enter.new.index id) c.in-Some.sizes) (sym is) (
      file_kept s p x look (λ id. value_at nat_cmp c.enter.new.index id) ((c.names-names.ensures.lawful, c.get-recalled.ensures.limit), c.names-names.ensures.utf8) applies fit
          c.recall_invariant.ensures (ap (are_new look) (sym listed) ∙ c.in_default-enter.ensures.lawful)
          (λ q. c.in_default-enter.ensures.ok q ∙ (λ j. entered look (listed j) x.closed q)) c.self.invariant.0,
      c.in-Some.ensures ∙ ap (plus (size_of (File x))) c.self.invariant.1 ∙ sizes_made s p (File x) (mkdir_free s p (add_mkdir s p x.replication applies)),
    )

pub returns-clause-ok : goal.returns-clause-ok
returns-clause-ok c =
    let i = c.self.inside in
    let p = c.args.path.now in
    let ns = c.names-names.result in
    let x = c.args.file in
    made i.root c.make.new.self i.issued p ns (File x) c.names-names.ensures.names c.in-Ok.ensures.ok.1 (subst (λ (es : List (Path × Form)). IsGrafted i.root ns (Some es) c.make.new.self) c.new_file.ensures c.in-Ok.ensures.ok.2)
    ∙ ap (λ (n : Namespace). with_row n p (File x)) c.self.view_is

pub returns-clause-lawful : goal.returns-clause-lawful
returns-clause-lawful c =
    let i = c.self.inside in
    let s = seen i.root i.issued in
    let look : ℕ → Option BlockRow = λ id. value_at nat_cmp i.index id in
    let p = c.args.path.now in
    let x = c.args.file in
    let applies : refusal s (edit.Add p x.replication) ≡ None = subst (λ (n : Namespace). refusal n (edit.Add p x.replication) ≡ None) (sym c.self.view_is) c.requires.applies in
    let fit : list_all (block_fits s.issued) x.blocks ≡ true = subst (λ (n : Namespace). list_all (block_fits n.issued) x.blocks ≡ true) (sym c.self.view_is) c.requires.fit in
    subst (λ (n : Namespace). can_restore n p (File x) ≡ true) c.self.view_is
    (file_restored s p x look applies fit (ap (are_new look) (sym c.as_slice-blocks.ensures) ∙ c.in_default-enter.ensures.lawful) c.self.invariant.0)
