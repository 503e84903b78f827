use Rattle.std.proofs.Common.{◌≡◌, ℕ, false, map, Option, Some, None, refl, sym, ap, subst, ◌∙◌}
use Rattle.nn_sorted.specs.Values.{value_at}
use Rattle.std.specs.Ordering.{nat_cmp}
use Rattle.nn_types.specs.declared.edit.Edit.TheVariants as edit
use Rattle.nn_model.specs.declared.form.Form.TheVariants.{File}
use Rattle.nn_model.specs.declared.form.FileRow.{FileRow}
use Rattle.nn_model.specs.declared.form.BlockRow.{BlockRow}
use Rattle.nn_model.specs.Namespace.{Namespace, lookup, with_row, file_or_none, file_at}
use Rattle.nn_model.specs.Apply.{refusal, effect}
use Rattle.nn_model.specs.Blocks.{block_row}
use Rattle.nn_model.specs.Touched.{nothing}
use Rattle.nn_tree.specs.View.{seen, Holds, renewed}
use Rattle.nn_tree.proofs.Applies.{HasFile, has_file, append_applies}
use Rattle.nn_tree.proofs.Does.{done}
use Rattle.nn_tree.proofs.Kept.{still_seen, still_held, file_was, file_seen}
use Rattle.nn_tree.proofs.Listed.{append_kept}
use Rattle.nn_tree.proofs.Maps.{not_root}
use Rattle.nn_tree.proofs.Tallies.{sizes_set}
use Rattle.nn_tree.proofs.namespace.Namespace.append.Goals as goal

pub invariant_of-self : goal.invariant_of-self
invariant_of-self c =
    let i = c.self.inside in
    still_held i.root c.append.new.self i.issued _ _ c.in_default.ensures.err c.self.invariant

pub returns-in_default : goal.returns-in_default
returns-in_default c =
    let i = c.self.inside in
    still_seen i.root c.append.new.self i.issued c.in_default.ensures.err ∙ c.self.view_is

pub invariant_of-self-2 : goal.invariant_of-self-2
invariant_of-self-2 c =
    let i = c.self.inside in
    let s = seen i.root i.issued in
    let p = c.args.path.now in
    let ns = c.names-names.result in
    let made = c.in-Ok.ensures.ok in
    let has : HasFile s p made.0 = has_file i.root s p ns made.0 refl c.names-names.ensures.names (not_root c.names-names.result c.if-is_empty.ensures) made.2 made.3 in
    let applies : refusal s (edit.Append p) ≡ None = append_applies s p made.0 has made.5.0 in
    let was : lookup s p ≡ Some (File made.0) = file_was i.root i.issued p ns made.0 c.names-names.ensures.names made.3 in
    let old : made.0 ≡ file_at s p = sym (ap file_or_none was) in
    let is : seen c.append.new.self i.issued ≡ effect s (edit.Append p) =
    file_seen i.root c.append.new.self i.issued p ns made.0 made.1 c.names-names.ensures.names made.3 made.4
    ∙ ap (λ (f : FileRow). with_row s p (File f)) made.5.1
    ∙ ap (λ (f : FileRow). with_row s p (File (record { replication = f.replication; closed = false; blocks = f.blocks }))) old in
    let look : ℕ → Option BlockRow = λ id. value_at nat_cmp i.index id in
    let listed = c.as_slice-blocks.ensures ∙ made.5.4 ∙ ap (λ (f : FileRow). f.blocks) old in
    subst (λ (n : Namespace). Holds n (λ id. value_at nat_cmp c.renew.new.index id) i.sizes) (sym is) (
      append_kept s p made.0 look (λ id. value_at nat_cmp c.renew.new.index id) c.requires.lawful applies was
          (λ q. c.renew.ensures q ∙ (λ j. renewed look (listed j) (listed j) false q)) c.self.invariant.0,
      c.self.invariant.1 ∙ sizes_set s p made.0 (record { replication = (file_at s p).replication; closed = false; blocks = (file_at s p).blocks }) c.self.invariant.0.well.blocks.in_order was,
    )

pub returns : goal.returns
returns c =
    let i = c.self.inside in
    let s = seen i.root i.issued in
    let p = c.args.path.now in
    let ns = c.names-names.result in
    let made = c.in-Ok.ensures.ok in
    let has : HasFile s p made.0 = has_file i.root s p ns made.0 refl c.names-names.ensures.names (not_root c.names-names.result c.if-is_empty.ensures) made.2 made.3 in
    let applies : refusal s (edit.Append p) ≡ None = append_applies s p made.0 has made.5.0 in
    let was : lookup s p ≡ Some (File made.0) = file_was i.root i.issued p ns made.0 c.names-names.ensures.names made.3 in
    let old : made.0 ≡ file_at s p = sym (ap file_or_none was) in
    let is : seen c.append.new.self i.issued ≡ effect s (edit.Append p) =
    file_seen i.root c.append.new.self i.issued p ns made.0 made.1 c.names-names.ensures.names made.3 made.4
    ∙ ap (λ (f : FileRow). with_row s p (File f)) made.5.1
    ∙ ap (λ (f : FileRow). with_row s p (File (record { replication = f.replication; closed = false; blocks = f.blocks }))) old in
    done (edit.Append p) c.self.view_is applies is
    (made.5.2 ∙ ap (λ (f : FileRow). record nothing { changed = map (λ b. block_row false b) f.blocks }) old)
    (made.5.3 ∙ ap (λ (f : FileRow). f.replication) old)
