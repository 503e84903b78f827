use Rattle.std.proofs.Common.{refl, [], ◌∷◌, ◌++◌, Ok, subst, sym, ◌≡◌, arith}
use Rattle.std.proofs.lemmas.Result.{err_from_is_err_and}
use Rattle.nn_segment.proofs.Asks.{asked_append}
use Rattle.nn_lane_standby.proofs.Sources.{asked_one}
use Rattle.nn_segment.specs.declared.cursor.TakenUp.{TakenUp}
use Rattle.nn_lane_standby.specs.Steps.{OnceAsked}
use Rattle.nn_lane_standby.proofs.Logs.{going_start, going_live, going_on, going_then, going_asked, going_done, done_going, over_then, over_asked, no_fault, later, ended_there}
use Rattle.nn_lane_standby.proofs.standby.Standby.read_log.Goals as goal

pub loop-self-init : goal.loop-self-init
loop-self-init g c = record { counted = omega arith; answers = []; asked = refl; going = going_start c.args.self.now c.requires }

pub returns-in_err-apply_rest-clause-failed : goal.returns-in_err-apply_rest-clause-failed
returns-in_err-apply_rest-clause-failed g c =
    let k = no_fault c.in_err-apply_rest.field-0.0 _ c.in_err-apply_rest.ensures.own in
    let p = err_from_is_err_and c.from_residual.result c.from_residual.ensures.1 in rw (p.1, p.2) k

pub returns-in_err-ask-clause-failed : goal.returns-in_err-ask-clause-failed
returns-in_err-ask-clause-failed g c =
    let k = later c.in_err-ask.field-0.0 _ _ _ c.loop-self.invariant.counted c.in_err-ask.ensures.failed in
    let p = err_from_is_err_and c.from_residual-in_err-ask.result c.from_residual-in_err-ask.ensures.1 in rw (p.1, p.2) k

pub returns-in_err-ask-clause-edits : goal.returns-in_err-ask-clause-edits
returns-in_err-ask-clause-edits g c =
    let i = c.loop-self.invariant in
    let rest = going_done c.loop-self.self c.apply_rest.new.self [] _ c.in_ok-apply_rest.ensures.edits in
    let so_far = going_on c.args.self.now c.loop-self.self c.apply_rest.new.self i.answers i.going rest.0 in
    let q = c.in_err-ask.ensures.asked in
    let k = over_then c.args.self.now c.apply_rest.new.self c.ask.new.self i.answers (q.0 ∷ []) c.in_err-ask.field-0.0 so_far
    (over_asked c.apply_rest.new.self c.ask.new.self q.0 c.in_err-ask.field-0.0 (going_live c.args.self.now c.apply_rest.new.self i.answers c.requires so_far) rest.1 q.2) in
    let asked = asked_append g.S.SegmentSource.gives c.args.source.now c.loop-self.source c.ask.new.source i.answers (q.0 ∷ []) i.asked (asked_one g.S.SegmentSource.gives c.loop-self.source c.ask.new.source q.0 q.1) in
    let p = err_from_is_err_and c.from_residual-in_err-ask.result c.from_residual-in_err-ask.ensures.1 in rw (p.1, p.2) (i.answers ++ q.0 ∷ [], asked, k)

pub returns-in-End-clause-edits : goal.returns-in-End-clause-edits
returns-in-End-clause-edits g c =
    let i = c.loop-self.invariant in
    let rest = going_done c.loop-self.self c.apply_rest.new.self [] _ c.in_ok-apply_rest.ensures.edits in
    let so_far = going_on c.args.self.now c.loop-self.self c.apply_rest.new.self i.answers i.going rest.0 in
    let q = c.in_ok-ask.ensures.asked in
    let now = going_then c.args.self.now c.apply_rest.new.self c.ask.new.self i.answers (q.0 ∷ []) so_far
    (going_asked c.apply_rest.new.self c.ask.new.self q.0 c.in_ok-ask.field-0 (going_live c.args.self.now c.apply_rest.new.self i.answers c.requires so_far) rest.1 q.2) in
    let asked = asked_append g.S.SegmentSource.gives c.args.source.now c.loop-self.source c.ask.new.source i.answers (q.0 ∷ []) i.asked (asked_one g.S.SegmentSource.gives c.loop-self.source c.ask.new.source q.0 q.1) in
    let h = subst (λ (z : TakenUp). OnceAsked c.apply_rest.new.self q.0 c.ask.new.self (Ok z)) c.in-End.is q.2 in
    (i.answers ++ q.0 ∷ [], asked, done_going c.args.self.now c.ask.new.self (i.answers ++ q.0 ∷ []) _ now (ended_there i.answers q.0 h.0, subst (λ z. z.rest ≡ []) (sym h.1) rest.1))

pub loop-self-preserved : goal.loop-self-preserved
loop-self-preserved g c =
    let i = c.loop-self.invariant in
    let rest = going_done c.loop-self.self c.apply_rest.new.self [] _ c.in_ok-apply_rest.ensures.edits in
    let so_far = going_on c.args.self.now c.loop-self.self c.apply_rest.new.self i.answers i.going rest.0 in
    let q = c.in_ok-ask.ensures.asked in
    record {
      counted = omega (arith, i.counted, c.in_ok-ask.ensures.counted);
      answers = i.answers ++ q.0 ∷ [];
      asked = asked_append g.S.SegmentSource.gives c.args.source.now c.loop-self.source c.ask.new.source i.answers (q.0 ∷ []) i.asked (asked_one g.S.SegmentSource.gives c.loop-self.source c.ask.new.source q.0 q.1);
      going = going_then c.args.self.now c.apply_rest.new.self c.ask.new.self i.answers (q.0 ∷ []) so_far
          (going_asked c.apply_rest.new.self c.ask.new.self q.0 c.in_ok-ask.field-0 (going_live c.args.self.now c.apply_rest.new.self i.answers c.requires so_far) rest.1 q.2);
    }
