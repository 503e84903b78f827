use Rattle.std.proofs.Common.{◌≡◌, not, Some, None, [], ◌∷◌, sym, ap, subst, ◌∙◌, refl}
use Rattle.nn_types.specs.declared.edit.Edit.TheVariants as edit
use Rattle.nn_model.specs.Namespace.{Namespace, lookup}
use Rattle.nn_model.specs.Apply.{refusal, first_fault, fault_if, not_closed}
use Rattle.nn_types.specs.declared.edit_fault.EditFault.TheVariants.{NotClosed}
use Rattle.nn_tree.specs.View.{seen}
use Rattle.nn_tree.proofs.Bridge.{file_refused, append_at}
use Rattle.nn_tree.proofs.namespace.Namespace.append_refusal.Goals as goal

pub returns-in-Err : goal.returns-in-Err
returns-in-Err c =
    let i = c.self.inside in
    let s = seen i.root i.issued in
    let p = c.args.path.now in
    subst (λ (n : Namespace). Some c.in-Err.fault ≡ refusal n (edit.Append p)) c.self.view_is
    (file_refused i.root s p c.names.result (not_closed (lookup s p) ∷ []) c.in-Err.fault refl c.names.ensures.names c.in-Err.ensures.found)

pub returns-then-not-file : goal.returns-then-not-file
returns-then-not-file c =
    let i = c.self.inside in
    let s = seen i.root i.issued in
    let p = c.args.path.now in
    subst (λ (n : Namespace). Some NotClosed ≡ refusal n (edit.Append p)) c.self.view_is
    (sym (ap (λ b. first_fault (fault_if (not b) NotClosed ∷ [])) c.if-not-file.true)
    ∙ append_at i.root s p c.names.result c.in-Ok.file.now refl c.names.ensures.names c.in-Ok.ensures.found c.in-Ok.ensures.file)

pub returns : goal.returns
returns c =
    let i = c.self.inside in
    let s = seen i.root i.issued in
    let p = c.args.path.now in
    subst (λ (n : Namespace). None ≡ refusal n (edit.Append p)) c.self.view_is
    (sym (ap (λ b. first_fault (fault_if (not b) NotClosed ∷ [])) c.if-not-file.false)
    ∙ append_at i.root s p c.names.result c.in-Ok.file.now refl c.names.ensures.names c.in-Ok.ensures.found c.in-Ok.ensures.file)
