use Rattle.std.proofs.Common.{◌≡◌, not, ◌||◌, Some, None, sym, ap, subst, ◌∙◌, refl, nat_lt, nat_le}
use Rattle.nn_types.specs.declared.edit.Edit.TheVariants as edit
use Rattle.nn_model.specs.Namespace.{Namespace, lookup, no_stamp}
use Rattle.nn_model.specs.Apply.{refusal, fault_if, has_id, not_open}
use Rattle.nn_types.specs.declared.edit_fault.EditFault.TheVariants.{NotOpen, BadBlockId, BadGeneration}
use Rattle.nn_tree.specs.View.{seen}
use Rattle.std.proofs.Common.{[], ◌∷◌}
use Rattle.nn_tree.proofs.Bridge.{file_refused, add_block_at, at_first, at_second, at_third, at_none}
use Rattle.nn_tree.proofs.namespace.Namespace.add_block_refusal.Goals as goal

pub returns-in-Err : goal.returns-in-Err
returns-in-Err c =
    let i = c.self.inside in
    let s = seen i.root i.issued in
    let p = c.args.path.now in
    let ns = c.names.result in
    subst (λ (n : Namespace). Some c.in-Err.fault ≡ refusal n (edit.AddBlock c.args.path.now c.args.id c.args.stamp)) c.self.view_is
    (file_refused i.root s p ns (not_open (lookup s p) ∷ fault_if (not (has_id s.issued.awaiting c.args.id)) BadBlockId ∷ fault_if (nat_le c.args.stamp no_stamp || nat_lt s.issued.last_stamp c.args.stamp) BadGeneration ∷ []) c.in-Err.fault refl c.names.ensures.names c.in-Err.ensures.found)

pub returns-then-file : goal.returns-then-file
returns-then-file c =
    let i = c.self.inside in
    let s = seen i.root i.issued in
    let p = c.args.path.now in
    let ns = c.names.result in
    subst (λ (n : Namespace). Some NotOpen ≡ refusal n (edit.AddBlock c.args.path.now c.args.id c.args.stamp)) c.self.view_is (at_first c.in-Ok.file.now.closed (not (has_id s.issued.awaiting c.args.id)) (nat_le c.args.stamp no_stamp || nat_lt s.issued.last_stamp c.args.stamp) NotOpen BadBlockId BadGeneration c.if-file.true ∙ add_block_at i.root s p ns c.in-Ok.file.now c.args.id c.args.stamp refl c.names.ensures.names c.in-Ok.ensures.found c.in-Ok.ensures.file)

pub returns-then-not-awaits : goal.returns-then-not-awaits
returns-then-not-awaits c =
    let i = c.self.inside in
    let s = seen i.root i.issued in
    let p = c.args.path.now in
    let ns = c.names.result in
    subst (λ (n : Namespace). Some BadBlockId ≡ refusal n (edit.AddBlock c.args.path.now c.args.id c.args.stamp)) c.self.view_is (at_second c.in-Ok.file.now.closed (not (has_id s.issued.awaiting c.args.id)) (nat_le c.args.stamp no_stamp || nat_lt s.issued.last_stamp c.args.stamp) NotOpen BadBlockId BadGeneration c.if-file.false (ap not (sym c.awaits.ensures ∙ c.if-not-awaits.true)) ∙ add_block_at i.root s p ns c.in-Ok.file.now c.args.id c.args.stamp refl c.names.ensures.names c.in-Ok.ensures.found c.in-Ok.ensures.file)

pub returns-then-not-has_stamp : goal.returns-then-not-has_stamp
returns-then-not-has_stamp c =
    let i = c.self.inside in
    let s = seen i.root i.issued in
    let p = c.args.path.now in
    let ns = c.names.result in
    subst (λ (n : Namespace). Some BadGeneration ≡ refusal n (edit.AddBlock c.args.path.now c.args.id c.args.stamp)) c.self.view_is (at_third c.in-Ok.file.now.closed (not (has_id s.issued.awaiting c.args.id)) (nat_le c.args.stamp no_stamp || nat_lt s.issued.last_stamp c.args.stamp) NotOpen BadBlockId BadGeneration c.if-file.false (ap not (sym c.awaits.ensures ∙ c.if-not-awaits.false)) (c.has_stamp.ensures ∙ ap not c.if-not-has_stamp.true) ∙ add_block_at i.root s p ns c.in-Ok.file.now c.args.id c.args.stamp refl c.names.ensures.names c.in-Ok.ensures.found c.in-Ok.ensures.file)

pub returns : goal.returns
returns c =
    let i = c.self.inside in
    let s = seen i.root i.issued in
    let p = c.args.path.now in
    let ns = c.names.result in
    subst (λ (n : Namespace). None ≡ refusal n (edit.AddBlock c.args.path.now c.args.id c.args.stamp)) c.self.view_is (at_none c.in-Ok.file.now.closed (not (has_id s.issued.awaiting c.args.id)) (nat_le c.args.stamp no_stamp || nat_lt s.issued.last_stamp c.args.stamp) NotOpen BadBlockId BadGeneration c.if-file.false (ap not (sym c.awaits.ensures ∙ c.if-not-awaits.false)) (c.has_stamp.ensures ∙ ap not c.if-not-has_stamp.false) ∙ add_block_at i.root s p ns c.in-Ok.file.now c.args.id c.args.stamp refl c.names.ensures.names c.in-Ok.ensures.found c.in-Ok.ensures.file)
