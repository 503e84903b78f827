use Rattle.std.proofs.Common.{◌≡◌, false, not, [], None, sym, ap, subst, ◌∙◌, refl}
use Rattle.nn_types.specs.declared.edit.Edit.TheVariants as edit
use Rattle.nn_model.specs.declared.form.Form.TheVariants.{File}
use Rattle.nn_model.specs.Namespace.{Namespace}
use Rattle.nn_model.specs.Apply.{refusal, effect}
use Rattle.nn_sorted.specs.Values.{value_at}
use Rattle.std.specs.Ordering.{nat_cmp}
use Rattle.nn_tree.specs.View.{seen, Holds}
use Rattle.nn_tree.proofs.Applies.{add_applies}
use Rattle.nn_tree.proofs.Kept.{still_seen, still_held, made, add_kept, mkdir_free, add_mkdir}
use Rattle.nn_tree.proofs.Does.{done}
use Rattle.nn_tree.specs.Sizes.{plus}
use Rattle.nn_tree.proofs.Tallies.{size_of, sizes_made}
use Rattle.nn_tree.proofs.namespace.Namespace.add.Goals as goal

pub invariant_of-self : goal.invariant_of-self
invariant_of-self c =
    let i = c.self.inside in
    still_held i.root c.make_file.new.self i.issued _ _ c.in_default-make_file.ensures.err c.self.invariant

pub returns-in_default-make_file : goal.returns-in_default-make_file
returns-in_default-make_file c =
    let i = c.self.inside in
    still_seen i.root c.make_file.new.self i.issued c.in_default-make_file.ensures.err ∙ c.self.view_is

pub invariant_of-self-2 : goal.invariant_of-self-2
invariant_of-self-2 c =
    let i = c.self.inside in
    let s = seen i.root i.issued in
    let p = c.args.path.now in
    let ns = c.names.result in
    let lawful : refusal s (edit.Add p c.args.replication) ≡ None = add_applies i.root s p ns c.args.replication refl c.names.ensures.names c.in-Ok.ensures.ok.0 (c.is_replication.ensures ∙ ap not c.if-not-is_replication.false) in
    let row = File (record { replication = c.args.replication; closed = false; blocks = [] }) in
    let is : seen c.make_file.new.self i.issued ≡ effect s (edit.Add c.args.path.now c.args.replication) = made i.root c.make_file.new.self i.issued p ns (File (record { replication = c.args.replication; closed = false; blocks = [] })) c.names.ensures.names c.in-Ok.ensures.ok.1 c.in-Ok.ensures.ok.2 in
    subst (λ (n : Namespace). Holds n (λ id. value_at nat_cmp i.index id) c.in-Some.sizes) (sym is)
    (add_kept s p c.args.replication _ c.requires.lawful lawful c.self.invariant.0, c.in-Some.ensures ∙ ap (plus (size_of row)) c.self.invariant.1 ∙ sizes_made s p row (mkdir_free s p (add_mkdir s p c.args.replication lawful)))

pub returns : goal.returns
returns c =
    let i = c.self.inside in
    let s = seen i.root i.issued in
    let p = c.args.path.now in
    let ns = c.names.result in
    let lawful : refusal s (edit.Add p c.args.replication) ≡ None = add_applies i.root s p ns c.args.replication refl c.names.ensures.names c.in-Ok.ensures.ok.0 (c.is_replication.ensures ∙ ap not c.if-not-is_replication.false) in
    let is : seen c.make_file.new.self i.issued ≡ effect s (edit.Add p c.args.replication) = made i.root c.make_file.new.self i.issued p ns (File (record { replication = c.args.replication; closed = false; blocks = [] })) c.names.ensures.names c.in-Ok.ensures.ok.1 c.in-Ok.ensures.ok.2 in
    done (edit.Add p c.args.replication) c.self.view_is lawful is c.nothing.ensures.touched c.nothing.ensures.replication
