use Rattle.std.proofs.Common.{◌≡◌, ◌+◌, ◌==◌, [], false, codes, sym, subst, ap, ap₂, ◌∙◌}
use Rattle.nn_device.proofs.Pages.{puts_nothing}
use Rattle.nn_segment.specs.Fault.{number_of}
use Rattle.nn_live.specs.Live.{ends}
use Rattle.nn_live.specs.contracts.service.Service.{the_view as seen_of}
use Rattle.nn_live.specs.Serving.{Service, SegmentInHand, HasPart, FollowsStep, fault_text}
use Rattle.nn_live.proofs.BrokenEdits.{ends_say}
use Rattle.nn_live.proofs.Editing.{none_in_hand, unfinished}
use Rattle.nn_live.proofs.Places.{nothing_done, on_err}
use Rattle.nn_live.proofs.service.Service.end_edits.Goals as goal

pub returns-then-is_empty-clause-ok : goal.returns-then-is_empty-clause-ok
returns-then-is_empty-clause-ok g c =
    let x = seen_of c.self.inside in
    let here : x ≡ c.args.self.now = c.self.view_is in
    let made = nothing_done (λ asked s. ends asked s) x (none_in_hand x (sym c.if-is_empty.ensures)) in
    ([], puts_nothing c.args.page.now c.args.writer.now, subst (λ (v : Service). FollowsStep (λ asked s. ends asked s) v v []) here made)

pub returns-clause-ok : goal.returns-clause-ok
returns-clause-ok g c =
    let x = c.args.self.now in
    let counted : seen_of c.self-2.inside ≡ record x { segments = x.segments + 1 } = c.self-2.view_is ∙ c.in_ok-count_segment.ensures.ok in
    let held : c.replace-in_hand.result ≡ x.in_hand = c.replace-in_hand.ensures.value ∙ ap (λ (v : Service). v.in_hand) counted in
    let some : (x.in_hand.edits == 0) ≡ false = ap (λ (v : Service). v.in_hand.edits == 0) (sym c.self.view_is) ∙ sym c.if-is_empty.ensures in
    let fault = c.into_fault-fault.result in
    let made = unfinished x c.none.result fault c.none.ensures some (λ part keeps. c.into_fault-fault.ensures part (subst (HasPart part) (sym held) keeps)) in
    let text = fault_text c.number.result (codes " segment ") (seen_of c.self-2.inside).segments in
    let spelled : fault_text (number_of fault) (codes " segment ") (x.segments + 1) ≡ text = ap₂ (λ n k. fault_text n (codes " segment ") k) (sym c.number.ensures) (ap (λ (v : Service). v.segments) (sym counted)) in
    let now : record (record x { segments = x.segments + 1 }) { in_hand = c.none.result } ≡ record (seen_of c.self-2.inside) { in_hand = c.replace-in_hand.new.dest } =
    ap₂ (λ (v : Service) (h : SegmentInHand). record v { in_hand = h }) (sym counted) (sym c.replace-in_hand.ensures.after) in
    let told = subst (λ t. FollowsStep (λ asked s. ends asked s) x (record x { in_hand = c.none.result; segments = x.segments + 1 }) t) spelled made in
    (text, c.put_fault.ensures, subst (λ (v : Service). FollowsStep (λ asked s. ends asked s) x v text) now told)

pub returns-in_err-count_segment-clause-says : goal.returns-in_err-count_segment-clause-says
returns-in_err-count_segment-clause-says g c =
    on_err _ c.from_residual.result (ends_say c.args.self.now (ap (λ (v : Service). v.in_hand.edits == 0) (sym c.self.view_is) ∙ sym c.if-is_empty.ensures))
