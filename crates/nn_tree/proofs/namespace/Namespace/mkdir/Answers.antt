use Rattle.std.proofs.Common.{◌≡◌, None, sym, subst, ◌∙◌, refl, ap}
use Rattle.nn_types.specs.declared.edit.Edit.TheVariants as edit
use Rattle.nn_model.specs.declared.form.Form.TheVariants.{Dir}
use Rattle.nn_model.specs.Namespace.{Namespace}
use Rattle.nn_model.specs.Apply.{refusal, effect}
use Rattle.nn_sorted.specs.Values.{value_at}
use Rattle.std.specs.Ordering.{nat_cmp}
use Rattle.nn_tree.specs.View.{seen, Holds}
use Rattle.nn_tree.specs.Walks.{mkdir_fault}
use Rattle.nn_tree.proofs.Bridge.{looks}
use Rattle.nn_tree.proofs.Kept.{still_seen, still_held, made, mkdir_kept, mkdir_free}
use Rattle.nn_tree.proofs.Does.{done}
use Rattle.nn_tree.specs.Sizes.{plus}
use Rattle.nn_tree.proofs.Tallies.{size_of, sizes_made}
use Rattle.nn_tree.proofs.namespace.Namespace.mkdir.Goals as goal

pub invariant_of-self : goal.invariant_of-self
invariant_of-self c =
    let i = c.self.inside in
    still_held i.root c.make_dir.new.self i.issued _ _ c.in_default-make_dir.ensures.err c.self.invariant

pub returns-in_default-make_dir : goal.returns-in_default-make_dir
returns-in_default-make_dir c =
    let i = c.self.inside in
    still_seen i.root c.make_dir.new.self i.issued c.in_default-make_dir.ensures.err ∙ c.self.view_is

pub invariant_of-self-2 : goal.invariant_of-self-2
invariant_of-self-2 c =
    let i = c.self.inside in
    let s = seen i.root i.issued in
    let p = c.args.path.now in
    let ns = c.names.result in
    let lawful : refusal s (edit.Mkdir p) ≡ None = sym (λ j. mkdir_fault (looks i.root s refl j) (c.names.ensures.names j)) ∙ c.in-Ok.ensures.ok.0 in
    let is : seen c.make_dir.new.self i.issued ≡ effect s (edit.Mkdir c.args.path.now) = made i.root c.make_dir.new.self i.issued p ns Dir c.names.ensures.names c.in-Ok.ensures.ok.1 c.in-Ok.ensures.ok.2 in
    subst (λ (n : Namespace). Holds n (λ id. value_at nat_cmp i.index id) c.in-Some.sizes) (sym is)
    (mkdir_kept s p _ c.requires.lawful lawful c.self.invariant.0, c.in-Some.ensures ∙ ap (plus (size_of Dir)) c.self.invariant.1 ∙ sizes_made s p Dir (mkdir_free s p lawful))

pub returns : goal.returns
returns c =
    let i = c.self.inside in
    let s = seen i.root i.issued in
    let p = c.args.path.now in
    let ns = c.names.result in
    let lawful : refusal s (edit.Mkdir p) ≡ None = sym (λ j. mkdir_fault (looks i.root s refl j) (c.names.ensures.names j)) ∙ c.in-Ok.ensures.ok.0 in
    let is : seen c.make_dir.new.self i.issued ≡ effect s (edit.Mkdir p) = made i.root c.make_dir.new.self i.issued p ns Dir c.names.ensures.names c.in-Ok.ensures.ok.1 c.in-Ok.ensures.ok.2 in
    done (edit.Mkdir p) c.self.view_is lawful is c.nothing.ensures.touched c.nothing.ensures.replication
