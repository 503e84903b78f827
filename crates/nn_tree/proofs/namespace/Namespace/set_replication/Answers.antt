use Rattle.std.proofs.Common.{◌≡◌, not, Some, None, refl, sym, ap, subst, ◌∙◌}
use Rattle.nn_types.specs.declared.edit.Edit.TheVariants as edit
use Rattle.nn_model.specs.declared.form.Form.TheVariants.{File}
use Rattle.nn_model.specs.declared.form.FileRow.{FileRow}
use Rattle.nn_model.specs.Namespace.{Namespace, lookup, with_row, file_or_none, file_at}
use Rattle.nn_model.specs.Apply.{refusal, effect}
use Rattle.nn_sorted.specs.Values.{value_at}
use Rattle.std.specs.Ordering.{nat_cmp}
use Rattle.nn_tree.specs.View.{seen, Holds}
use Rattle.nn_tree.proofs.Applies.{HasFile, has_file, set_replication_applies}
use Rattle.nn_tree.proofs.Kept.{still_seen, still_held, file_was, file_seen, set_replication_kept}
use Rattle.nn_tree.proofs.Maps.{not_root}
use Rattle.nn_tree.proofs.Spare.{no_file_refused}
use Rattle.nn_tree.proofs.Does.{done}
use Rattle.nn_tree.proofs.Tallies.{sizes_set}
use Rattle.nn_tree.proofs.namespace.Namespace.set_replication.Goals as goal

pub invariant_of-self : goal.invariant_of-self
invariant_of-self c =
    let i = c.self.inside in
    still_held i.root c.set_replication.new.self i.issued _ _ c.in_default.ensures.err c.self.invariant

pub returns-in_default-clause-does : goal.returns-in_default-clause-does
returns-in_default-clause-does c =
    let i = c.self.inside in
    still_seen i.root c.set_replication.new.self i.issued c.in_default.ensures.err ∙ c.self.view_is

pub invariant_of-self-2 : goal.invariant_of-self-2
invariant_of-self-2 c =
    let i = c.self.inside in
    let s = seen i.root i.issued in
    let p = c.args.path.now in
    let ns = c.names-names.result in
    let done = c.in-Ok.ensures.ok in
    let has : HasFile s p done.0 = has_file i.root s p ns done.0 refl c.names-names.ensures.names (not_root c.names-names.result c.if-is_empty.ensures) done.2 done.3 in
    let lawful : refusal s (edit.SetReplication p c.args.replication) ≡ None = set_replication_applies s p done.0 c.args.replication has (c.is_replication.ensures ∙ ap not c.if-not-is_replication.false) in
    let was : lookup s p ≡ Some (File done.0) = file_was i.root i.issued p ns done.0 c.names-names.ensures.names done.3 in
    let old : done.0 ≡ file_at s p = sym (ap file_or_none was) in
    let is : seen c.set_replication.new.self i.issued ≡ effect s (edit.SetReplication p c.args.replication) =
    file_seen i.root c.set_replication.new.self i.issued p ns done.0 done.1 c.names-names.ensures.names done.3 done.4
    ∙ ap (λ (f : FileRow). with_row s p (File f)) done.5
    ∙ ap (λ (f : FileRow). with_row s p (File (record { replication = c.args.replication; closed = f.closed; blocks = f.blocks }))) old in
    subst (λ (n : Namespace). Holds n (λ id. value_at nat_cmp i.index id) i.sizes) (sym is)
    (set_replication_kept s p c.args.replication done.0 _ c.requires.lawful lawful was c.self.invariant.0, c.self.invariant.1 ∙ sizes_set s p done.0 (record { replication = c.args.replication; closed = (file_at s p).closed; blocks = (file_at s p).blocks }) c.self.invariant.0.well.blocks.in_order was)

pub returns-in_default-clause-refused : goal.returns-in_default-clause-refused
returns-in_default-clause-refused c e =
    let i = c.self.inside in
    let p = c.args.path.now in
    no_file_refused i.root (seen i.root i.issued) p c.names-names.result c.args.replication refl c.names-names.ensures.names
    c.in_default.ensures.no_file (subst (λ (n : Namespace). refusal n (edit.SetReplication p c.args.replication) ≡ None) (sym c.self.view_is) e)

pub returns-clause-does : goal.returns-clause-does
returns-clause-does c =
    let i = c.self.inside in
    let s = seen i.root i.issued in
    let p = c.args.path.now in
    let ns = c.names-names.result in
    let made = c.in-Ok.ensures.ok in
    let has : HasFile s p made.0 = has_file i.root s p ns made.0 refl c.names-names.ensures.names (not_root c.names-names.result c.if-is_empty.ensures) made.2 made.3 in
    let lawful : refusal s (edit.SetReplication p c.args.replication) ≡ None = set_replication_applies s p made.0 c.args.replication has (c.is_replication.ensures ∙ ap not c.if-not-is_replication.false) in
    let was : lookup s p ≡ Some (File made.0) = file_was i.root i.issued p ns made.0 c.names-names.ensures.names made.3 in
    let old : made.0 ≡ file_at s p = sym (ap file_or_none was) in
    let is : seen c.set_replication.new.self i.issued ≡ effect s (edit.SetReplication p c.args.replication) =
    file_seen i.root c.set_replication.new.self i.issued p ns made.0 made.1 c.names-names.ensures.names made.3 made.4
    ∙ ap (λ (f : FileRow). with_row s p (File f)) made.5
    ∙ ap (λ (f : FileRow). with_row s p (File (record { replication = c.args.replication; closed = f.closed; blocks = f.blocks }))) old in
    done (edit.SetReplication p c.args.replication) c.self.view_is lawful is c.nothing.ensures.touched c.nothing.ensures.replication
