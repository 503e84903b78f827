use Rattle.std.proofs.Common.{sym, subst}
use Rattle.nn_scenario.specs.Checking.{AreSegments}
use Rattle.nn_scenario.specs.Scenario.{scenario_with}
use Rattle.nn_shadow.specs.Contents.{KeepsSettings}
use Rattle.nn_run.specs.Following.{Lived, IsLive, HasArrived, parts_of, start_at}
use Rattle.nn_run.proofs.LiveLemmas.{bad_is_told, has_arrived, has_stopped}
use Rattle.nn_run.proofs.following.Following.end.Goals as goal

pub returns-in-Some-clause-ends : goal.returns-in-Some-clause-ends
returns-in-Some-clause-ends c = λ first text x h reading.
    let k = subst (IsLive first x) (sym c.self.view_is) h in
    (scenario_with (parts_of x) x.steps, reading, bad_is_told x c.in-Some.bad (subst (AreSegments (parts_of x)) c.in-Some.is (c.into_bad.ensures x k.check)))

pub returns-in-Ok-clause-ends : goal.returns-in-Ok-clause-ends
returns-in-Ok-clause-ends c = λ first text x h reading.
    let l : Lived = record { check = c.self.inside.check; follower = c.self.inside.follower; history = c.self.inside.history } in
    let k = subst (IsLive first x) (sym c.self.view_is) h in
    let segments = subst (AreSegments (parts_of x)) c.in_default.is (c.into_bad.ensures x k.check) in
    let ended = c.in-Ok.ensures.end in (
      (
        scenario_with (parts_of x) x.steps,
        reading,
        subst (HasArrived (start_at first) first.history (scenario_with (parts_of x) x.steps)) ended.0 (has_arrived first l x k segments ended.1),
      ),
      subst (KeepsSettings first.follower.standby) ended.0 k.settings,
    )

pub returns-in-Err-clause-ends : goal.returns-in-Err-clause-ends
returns-in-Err-clause-ends c = λ first text x h reading.
    let l : Lived = record { check = c.self.inside.check; follower = c.self.inside.follower; history = c.self.inside.history } in
    let k = subst (IsLive first x) (sym c.self.view_is) h in
    let segments = subst (AreSegments (parts_of x)) c.in_default.is (c.into_bad.ensures x k.check) in
    (scenario_with (parts_of x) x.steps, reading, has_stopped first l x k segments c.in-Err.fault c.in-Err.ensures.end)
