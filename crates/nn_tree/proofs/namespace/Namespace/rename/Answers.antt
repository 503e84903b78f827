use Rattle.std.proofs.Common.{◌≡◌, None, sym, ◌∙◌, refl, ◌++◌, ap}
use Rattle.nn_types.specs.declared.edit.Edit.TheVariants as edit
use Rattle.nn_model.specs.Apply.{refusal, effect}
use Rattle.nn_tree.specs.View.{seen}
use Rattle.nn_tree.specs.Walks.{rename_fault}
use Rattle.nn_tree.proofs.Bridge.{looks}
use Rattle.nn_tree.proofs.Kept.{still_seen, still_held, renamed_seen, rename_kept}
use Rattle.nn_tree.proofs.Does.{done}
use Rattle.nn_model.specs.Namespace.{Namespace}
use Rattle.nn_tree.specs.Sizes.{sizes_of}
use Rattle.nn_tree.proofs.Tallies.{sizes_moved}
use Rattle.nn_tree.proofs.namespace.Namespace.rename.Goals as goal

pub invariant_of-self : goal.invariant_of-self
invariant_of-self c =
    let i = c.self.inside in
    still_held i.root c.rename.new.self i.issued _ _ c.in_default.ensures.err c.self.invariant

pub returns-in_default : goal.returns-in_default
returns-in_default c =
    let i = c.self.inside in
    still_seen i.root c.rename.new.self i.issued c.in_default.ensures.err ∙ c.self.view_is

pub invariant_of-self-2 : goal.invariant_of-self-2
invariant_of-self-2 c =
    let i = c.self.inside in
    let s = seen i.root i.issued in
    let a = c.args.src.now in
    let d = c.args.dst.now in
    let ss = c.names.result in
    let ds = c.names-2.result in
    let lawful : refusal s (edit.Rename a d) ≡ None = sym (λ j. rename_fault (looks i.root s refl j) (c.names.ensures.names j) (c.names-2.ensures.names j)) ∙ c.in-Ok.ensures.applies in
    let is : seen c.rename.new.self i.issued ≡ effect s (edit.Rename a d) = renamed_seen i.root c.rename.new.self i.issued a d ss ds c.names.ensures.names c.names-2.ensures.names c.in-Ok.ensures.free c.in-Ok.ensures.ok in (
      rename_kept i.root c.rename.new.self i.issued _ a d ss ds c.names.ensures.names c.names-2.ensures.names c.requires.lawful lawful c.in-Ok.ensures.applies c.in-Ok.ensures.free c.in-Ok.ensures.ok c.self.invariant.0,
      c.self.invariant.1
          ∙ sizes_moved s a d c.self.invariant.0.well.blocks.in_order (λ rest. sym (λ j. looks i.root s refl j (c.names-2.ensures.names j ++ rest)) ∙ c.in-Ok.ensures.free rest)
          ∙ ap (λ (n : Namespace). sizes_of n.rows) (sym is),
    )

pub returns : goal.returns
returns c =
    let i = c.self.inside in
    let s = seen i.root i.issued in
    let a = c.args.src.now in
    let d = c.args.dst.now in
    let ss = c.names.result in
    let ds = c.names-2.result in
    let lawful : refusal s (edit.Rename a d) ≡ None = sym (λ j. rename_fault (looks i.root s refl j) (c.names.ensures.names j) (c.names-2.ensures.names j)) ∙ c.in-Ok.ensures.applies in
    let is : seen c.rename.new.self i.issued ≡ effect s (edit.Rename a d) = renamed_seen i.root c.rename.new.self i.issued a d ss ds c.names.ensures.names c.names-2.ensures.names c.in-Ok.ensures.free c.in-Ok.ensures.ok in
    done (edit.Rename a d) c.self.view_is lawful is c.nothing.ensures.touched c.nothing.ensures.replication
