use Rattle.std.proofs.Common.{◌≡◌, sym, not, Some, None, ap, subst, ◌∙◌, refl}
use Rattle.nn_types.specs.declared.edit.Edit.TheVariants as edit
use Rattle.nn_model.specs.Namespace.{Namespace}
use Rattle.nn_model.specs.Apply.{refusal, is_root}
use Rattle.nn_tree.specs.View.{seen}
use Rattle.nn_model.specs.Namespace.{Path}
use Rattle.nn_tree.specs.Walks.{file_fault}
use Rattle.nn_tree.proofs.Bridge.{looks, set_past}
use Rattle.nn_tree.proofs.Maps.{not_root}
use Rattle.nn_tree.proofs.namespace.Namespace.set_replication_refusal.Goals as goal

pub returns-in-Err : goal.returns-in-Err
returns-in-Err c =
    let i = c.self.inside in
    let s = seen i.root i.issued in
    let p = c.args.path.now in
    let ns = c.names-names.result in
    subst (λ (n : Namespace). Some c.in-Err.fault ≡ refusal n (edit.SetReplication c.args.path.now c.args.replication)) c.self.view_is
    (sym c.in-Err.ensures.found ∙ (λ j. file_fault (looks i.root s refl j) (c.names-names.ensures.names j)) ∙ set_past s p c.args.replication (subst (λ (q : Path). is_root q ≡ None) c.names-names.ensures.names (not_root c.names-names.result c.if-is_empty.ensures)) (c.is_replication.ensures ∙ ap not c.if-not-is_replication.false))

pub returns : goal.returns
returns c =
    let i = c.self.inside in
    let s = seen i.root i.issued in
    let p = c.args.path.now in
    let ns = c.names-names.result in
    subst (λ (n : Namespace). None ≡ refusal n (edit.SetReplication c.args.path.now c.args.replication)) c.self.view_is
    (sym c.in_default.ensures.found ∙ (λ j. file_fault (looks i.root s refl j) (c.names-names.ensures.names j)) ∙ set_past s p c.args.replication (subst (λ (q : Path). is_root q ≡ None) c.names-names.ensures.names (not_root c.names-names.result c.if-is_empty.ensures)) (c.is_replication.ensures ∙ ap not c.if-not-is_replication.false))
