use Rattle.std.proofs.Common.{◌≡◌, [], ◌+◌, codes, sym, subst, ap, ap₂, ◌∙◌}
use Rattle.std.proofs.lemmas.Result.{IfOk-weaker, IfErr-weaker}
use Rattle.nn_segment.specs.Fault.{number_of}
use Rattle.nn_live.specs.Live.{follows_txs}
use Rattle.nn_live.specs.contracts.service.Service.{the_view as seen_of}
use Rattle.nn_live.specs.Serving.{Breaks, Service, FollowsStep, fault_text, takes_segment}
use Rattle.nn_device.proofs.Pages.{puts_nothing}
use Rattle.nn_live.proofs.Breaking.{none_told}
use Rattle.nn_live.proofs.BrokenEdits.{segment_breaks}
use Rattle.nn_live.proofs.Growing.{part_grows}
use Rattle.nn_live.proofs.Places.{on_err}
use Rattle.nn_live.proofs.Editing.{segment_followed, segment_refused}
use Rattle.nn_live.proofs.service.Service.end_segment.Goals as goal

pub follow_txs-requires : goal.follow_txs-requires
follow_txs-requires g c =
    let found = c.in-Ok.ensures c.requires.edits.0 c.requires.edits.1 c.requires.edits.2 c.requires.edits.3 in
    (found.0, found.2, found.3 ∙ sym c.deref.ensures.value)

pub returns-in-Ok-clause-ok : goal.returns-in-Ok-clause-ok
returns-in-Ok-clause-ok g c = IfOk-weaker c.follow_txs.result _ _ (λ _ step. (
  step.0,
  step.1,
  λ read part has all.
      let found = c.in-Ok.ensures read part has all in
      segment_followed c.args.self.now part c.requires.none found.0 c.deref.result.now c.follow_txs.new.self step.0 found.1 (found.3 ∙ sym c.deref.ensures.value)
      (subst (λ (v : Service). FollowsStep (λ asked s. follows_txs asked c.deref.result.now s) v c.follow_txs.new.self step.0) c.in_ok-count_segment.ensures.ok step.2),
)) c.follow_txs.ensures.ok

pub returns-in-Err-clause-ok : goal.returns-in-Err-clause-ok
returns-in-Err-clause-ok g c =
    let x = c.args.self.now in
    let segments : (seen_of c.self.inside).segments ≡ x.segments + 1 = ap (λ (v : Service). v.segments) (c.self.view_is ∙ c.in_ok-count_segment.ensures.ok) in
    let text = fault_text c.number.result (codes " segment ") (seen_of c.self.inside).segments in
    let spelled : fault_text (number_of c.in-Err.fault) (codes " segment ") (x.segments + 1) ≡ text = ap₂ (λ n k. fault_text n (codes " segment ") k) (sym c.number.ensures) (sym segments) in (
      text,
      c.put_fault.ensures,
      λ read part has all.
          let told = subst (λ t. FollowsStep (takes_segment part) x (record x { segments = x.segments + 1 }) t) spelled (segment_refused x part c.requires.none c.in-Err.fault (c.in-Err.ensures read part has all)) in
          subst (λ (v : Service). FollowsStep (takes_segment part) x v text) (sym c.in_ok-count_segment.ensures.ok) told,
    )

pub returns-in_err-count_segment-clause-prefix : goal.returns-in_err-count_segment-clause-prefix
returns-in_err-count_segment-clause-prefix g c =
    on_err _ c.from_residual.result ([], puts_nothing c.args.page.now c.args.writer.now, λ read part has all. none_told (takes_segment part) c.args.self.now (λ asked s. part_grows part asked s))

pub returns-in-Ok-clause-prefix : goal.returns-in-Ok-clause-prefix
returns-in-Ok-clause-prefix g c = IfErr-weaker c.follow_txs.result _ _ (λ _ prefix. (
  prefix.0,
  prefix.1,
  λ read part has all.
      let found = c.in-Ok.ensures read part has all in
      segment_breaks c.args.self.now part c.requires.none found.0 c.deref.result.now prefix.0 found.1 (found.3 ∙ sym c.deref.ensures.value)
      (subst (λ (v : Service). Breaks (λ asked s. follows_txs asked c.deref.result.now s) v prefix.0) c.in_ok-count_segment.ensures.ok prefix.2),
)) c.follow_txs.ensures.prefix
