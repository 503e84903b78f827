use Rattle.std.proofs.Common.{◌≡◌, [], ◌+◌, ◌-◌, ◌<◌, ◌≤◌, ◌++◌, drop, codes, sym, subst, ap, ap₂, ◌∙◌, arith}
use Rattle.std.specs.Prelude.{decimal}
use Rattle.std.specs.Option.{option_copied}
use Rattle.std.proofs.lemmas.Result.{IfOk-weaker, IfErr-weaker}
use Rattle.nn_types.specs.declared.fault.TheConstants.{DISORDER}
use Rattle.nn_model.specs.Log.{counted}
use Rattle.nn_segment.specs.Segment.{first_txid}
use Rattle.nn_live.specs.Live.{follows, follows_txs}
use Rattle.nn_live.specs.contracts.service.Service.{the_view as seen_of}
use Rattle.nn_live.specs.Serving.{Breaks, Service, FollowsStep, fault_text}
use Rattle.nn_device.proofs.Pages.{puts_nothing}
use Rattle.nn_live.proofs.Breaking.{none_told}
use Rattle.nn_live.proofs.BrokenEdits.{some_new}
use Rattle.nn_live.proofs.Growing.{follows_txs_grow}
use Rattle.nn_live.proofs.Places.{no_memory_there}
use Rattle.nn_live.proofs.Segments.{gap_text, behind_a_gap, first_of, has_first, new_ones, now_followed}
use Rattle.nn_live.proofs.service.Service.follow_txs.Goals as goal

pub unreachable-requires : goal.unreachable-requires
unreachable-requires g c = has_first c.args.txs.now c.requires (sym c.first.ensures.value ∙ ap option_copied c.in_default.is)

pub returns-then-next-first : goal.returns-then-next-first
returns-then-next-first g c =
    let x = seen_of c.self.inside in
    let here : x ≡ c.args.self.now = c.self.view_is in
    let txs = c.args.txs.now in
    let last = c.get-next.ensures.value ∙ c.last_txid.ensures.last in
    let first : c.get-first.result ≡ first_txid txs = c.get-first.ensures.value ∙ first_of txs c.in-Some.first.now c.in-Some.ensures.value in
    let high : x.shadow.last + 1 < first_txid txs = omega (arith, sym first, last, c.if-next-first.true) in
    let text = fault_text DISORDER (codes " txid " ++ decimal (c.get-next.result + 1) ++ codes " segment ") x.segments in
    let spelled : gap_text x ≡ text = ap (λ l. fault_text DISORDER (codes " txid " ++ decimal (l + 1) ++ codes " segment ") x.segments) (sym last) in
    let made = subst (λ t. FollowsStep (λ asked s. follows_txs asked txs s) x x t) spelled (behind_a_gap x txs high) in
    record { ok = (text, c.put_gap.ensures, subst (λ (v : Service). FollowsStep (λ asked s. follows_txs asked txs s) v v text) here made); exhausted = λ never. absurd (cc); prefix = tt }

pub returns : goal.returns
returns g c =
    let x = seen_of c.self.inside in
    let here : x ≡ c.args.self.now = c.self.view_is in
    let txs = c.args.txs.now in
    let new = c.behind-new.result.now in
    let last = c.get-next.ensures.value ∙ c.last_txid.ensures.last in
    let first : c.get-first.result ≡ first_txid txs = c.get-first.ensures.value ∙ first_of txs c.in-Some.first.now c.in-Some.ensures.value in
    let low : first_txid txs ≤ x.shadow.last + 1 = omega (arith, sym first, last, c.if-next-first.false) in
    let is : counted x.shadow.last txs ≡ new = new_ones x.shadow.last txs c.requires low
    ∙ ap₂ (λ l f. drop (l + 1 - f) txs) (sym last) (sym first) ∙ sym c.behind-new.ensures in
    record {
      ok = IfOk-weaker c.follow.result _ _ (λ _ step. (
        step.0,
        step.1,
        subst (λ (v : Service). FollowsStep (λ asked s. follows_txs asked txs s) v c.follow.new.self step.0) here
            (now_followed x txs new c.follow.new.self step.0 low is
            (subst (λ p. FollowsStep (λ asked s. follows asked new s) (record x { passed = p }) c.follow.new.self step.0) c.in-Some-checked_add.ensures.1 step.2)),
      )) c.follow.ensures.ok;
      exhausted = λ is. absurd (no_memory_there c.follow.result c.follow.ensures.memory is);
      prefix = IfErr-weaker c.follow.result _ _ (λ _ part. (
        part.0,
        part.1,
        subst (λ (v : Service). Breaks (λ asked s. follows_txs asked txs s) v part.0) here
            (some_new x txs new part.0 low is (subst (λ p. Breaks (λ asked s. follows asked new s) (record x { passed = p }) part.0) c.in-Some-checked_add.ensures.1 part.2)),
      )) c.follow.ensures.prefix;
    }

pub returns-in_default-checked_add-clause-prefix : goal.returns-in_default-checked_add-clause-prefix
returns-in_default-checked_add-clause-prefix g c =
    let txs = c.args.txs.now in
    ([], puts_nothing c.args.page.now c.args.writer.now, none_told (λ asked s. follows_txs asked txs s) c.args.self.now (λ asked s. follows_txs_grow asked txs s))
