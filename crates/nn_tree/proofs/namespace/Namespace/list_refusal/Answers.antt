use Rattle.std.proofs.Common.{◌≡◌, not, Some, None, sym, ap, subst, ◌∙◌, refl}
use Rattle.nn_model.specs.Namespace.{Namespace, lookup}
use Rattle.nn_model.specs.Apply.{first_fault, list_checks, fault_if, keeps_ids, keeps_stamps, not_open}
use Rattle.nn_types.specs.declared.edit_fault.EditFault.TheVariants.{NotOpen, BadGeneration, WrongBlocks}
use Rattle.nn_tree.specs.View.{seen}
use Rattle.nn_model.specs.Namespace.{file_at}
use Rattle.std.proofs.Common.{[], ◌∷◌}
use Rattle.nn_tree.proofs.Bridge.{file_refused, list_at, at_first, at_second, at_third, at_none}
use Rattle.nn_tree.proofs.namespace.Namespace.list_refusal.Goals as goal

pub returns-in-Err : goal.returns-in-Err
returns-in-Err c =
    let i = c.self.inside in
    let s = seen i.root i.issued in
    let p = c.args.path.now in
    let ns = c.names.result in
    subst (λ (n : Namespace). Some c.in-Err.fault ≡ first_fault (list_checks n c.args.path.now c.args.blocks.now)) c.self.view_is
    (file_refused i.root s p ns (not_open (lookup s p) ∷ fault_if (not (keeps_ids (file_at s p).blocks c.args.blocks.now)) WrongBlocks ∷ fault_if (not (keeps_stamps s.issued.last_stamp (file_at s p).blocks c.args.blocks.now)) BadGeneration ∷ []) c.in-Err.fault refl c.names.ensures.names c.in-Err.ensures.found)

pub returns-then-file : goal.returns-then-file
returns-then-file c =
    let i = c.self.inside in
    let s = seen i.root i.issued in
    let p = c.args.path.now in
    let ns = c.names.result in
    subst (λ (n : Namespace). Some NotOpen ≡ first_fault (list_checks n c.args.path.now c.args.blocks.now)) c.self.view_is (at_first c.in-Ok.file.now.closed (not (keeps_ids c.in-Ok.file.now.blocks c.args.blocks.now)) (not (keeps_stamps s.issued.last_stamp c.in-Ok.file.now.blocks c.args.blocks.now)) NotOpen WrongBlocks BadGeneration c.if-file.true ∙ list_at i.root s p ns c.in-Ok.file.now c.args.blocks.now refl c.names.ensures.names c.in-Ok.ensures.found c.in-Ok.ensures.file)

pub returns-then-not-keeps_ids : goal.returns-then-not-keeps_ids
returns-then-not-keeps_ids c =
    let i = c.self.inside in
    let s = seen i.root i.issued in
    let p = c.args.path.now in
    let ns = c.names.result in
    subst (λ (n : Namespace). Some WrongBlocks ≡ first_fault (list_checks n c.args.path.now c.args.blocks.now)) c.self.view_is (at_second c.in-Ok.file.now.closed (not (keeps_ids c.in-Ok.file.now.blocks c.args.blocks.now)) (not (keeps_stamps s.issued.last_stamp c.in-Ok.file.now.blocks c.args.blocks.now)) NotOpen WrongBlocks BadGeneration c.if-file.false (ap not (sym (c.keeps_ids.ensures ∙ (λ j. keeps_ids (c.as_slice-old.ensures j) (c.as_slice-new.ensures j))) ∙ c.if-not-keeps_ids.true)) ∙ list_at i.root s p ns c.in-Ok.file.now c.args.blocks.now refl c.names.ensures.names c.in-Ok.ensures.found c.in-Ok.ensures.file)

pub returns-then-not-keeps_stamps : goal.returns-then-not-keeps_stamps
returns-then-not-keeps_stamps c =
    let i = c.self.inside in
    let s = seen i.root i.issued in
    let p = c.args.path.now in
    let ns = c.names.result in
    subst (λ (n : Namespace). Some BadGeneration ≡ first_fault (list_checks n c.args.path.now c.args.blocks.now)) c.self.view_is (at_third c.in-Ok.file.now.closed (not (keeps_ids c.in-Ok.file.now.blocks c.args.blocks.now)) (not (keeps_stamps s.issued.last_stamp c.in-Ok.file.now.blocks c.args.blocks.now)) NotOpen WrongBlocks BadGeneration c.if-file.false (ap not (sym (c.keeps_ids.ensures ∙ (λ j. keeps_ids (c.as_slice-old.ensures j) (c.as_slice-new.ensures j))) ∙ c.if-not-keeps_ids.false)) (ap not (sym (c.keeps_stamps.ensures ∙ (λ j. keeps_stamps (c.last_stamp.ensures j) (c.as_slice-old.ensures j) (c.as_slice-new.ensures j))) ∙ c.if-not-keeps_stamps.true)) ∙ list_at i.root s p ns c.in-Ok.file.now c.args.blocks.now refl c.names.ensures.names c.in-Ok.ensures.found c.in-Ok.ensures.file)

pub returns : goal.returns
returns c =
    let i = c.self.inside in
    let s = seen i.root i.issued in
    let p = c.args.path.now in
    let ns = c.names.result in
    subst (λ (n : Namespace). None ≡ first_fault (list_checks n c.args.path.now c.args.blocks.now)) c.self.view_is (at_none c.in-Ok.file.now.closed (not (keeps_ids c.in-Ok.file.now.blocks c.args.blocks.now)) (not (keeps_stamps s.issued.last_stamp c.in-Ok.file.now.blocks c.args.blocks.now)) NotOpen WrongBlocks BadGeneration c.if-file.false (ap not (sym (c.keeps_ids.ensures ∙ (λ j. keeps_ids (c.as_slice-old.ensures j) (c.as_slice-new.ensures j))) ∙ c.if-not-keeps_ids.false)) (ap not (sym (c.keeps_stamps.ensures ∙ (λ j. keeps_stamps (c.last_stamp.ensures j) (c.as_slice-old.ensures j) (c.as_slice-new.ensures j))) ∙ c.if-not-keeps_stamps.false)) ∙ list_at i.root s p ns c.in-Ok.file.now c.args.blocks.now refl c.names.ensures.names c.in-Ok.ensures.found c.in-Ok.ensures.file)
