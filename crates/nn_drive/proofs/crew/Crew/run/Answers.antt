use Rattle.std.specs.Prelude.{vec_items, ◌++◌, count_by, length}
use Rattle.std.specs.List.{AllZip}
use Rattle.std.proofs.Common.{◌≡◌, ◌≤◌, false, [], List, arith, ap, sym, ◌∙◌, subst, append-nil}
use Rattle.nn_model.specs.History.{is_flush}
use Rattle.nn_segment.proofs.Asks.{asked_append}
use Rattle.nn_lane.specs.Ends.{LaneEnd}
use Rattle.nn_shadow.specs.Contents.{Shadow, KeepsSettings}
use Rattle.nn_lane_standby.specs.Tailing.{has_begun, Carries}
use Rattle.nn_lane_standby.proofs.Carried.{carries_then}
use Rattle.nn_lane_standby.proofs.Logs.{ends_behind}
use Rattle.nn_lane_standby.proofs.Shadowing.{settings_then}
use Rattle.nn_feed.specs.Ends.{got_by, GivesWhatIsFed}
use Rattle.nn_feed.specs.Feeds.{has_last}
use Rattle.nn_drive.specs.Driven.{JoinsAll, AreOneLane, EndsAgree, IsPromotedAtEnd}
use Rattle.nn_drive.proofs.Drives.{fit, lanes_now, none_closed, one_lanes, is_promoted}
use Rattle.nn_drive.proofs.Fed.{same_then, same_asked, nothing_begun, fails_over}
use Rattle.nn_lane_standby.specs.Shadows.{shadow_with_past}
use Rattle.nn_drive.proofs.InTurn.{went_whole}
use Rattle.nn_drive.proofs.Steps.{until_then}
use Rattle.nn_drive.proofs.crew.Crew.run.Goals as goal

pub returns-then-not-all_started-clause-err : goal.returns-then-not-all_started-clause-err
returns-then-not-all_started-clause-err g c =
    nothing_begun c.args.standby c.args.end.now c.args.end.now c.give_up.new.end (has_last (got_by c.args.end.now)) c.give_up.result c.give_up.ensures.known c.give_up.ensures.more

pub returns-in-Err-clause-same : goal.returns-in-Err-clause-same
returns-in-Err-clause-same g c =
    let e = c.in-Err.ensures.gone.went in same_then c.args.end.now c.rotate.new.end c.give_up-in-Err.new.end (same_asked c.args.end.now c.rotate.new.end e.0 e.1) c.give_up-in-Err.ensures.same

pub returns-in-Err-clause-err : goal.returns-in-Err-clause-err
returns-in-Err-clause-err g c =
    fails_over c.args.standby c.args.end.now c.rotate.new.end c.give_up-in-Err.new.end (λ e. e.failures) c.in-Err.fault c.give_up-in-Err.result c.requires.serving c.in-Err.ensures.until
    c.give_up-in-Err.ensures.known c.give_up-in-Err.ensures.more

pub join_all-reporters-requires-clause-fit : goal.join_all-reporters-requires-clause-fit
join_all-reporters-requires-clause-fit g c =
    let all : length c.args.workers.items ≤ length (vec_items c.start_all-handles.result) = omega (arith, c.if-not-all_started.ensures, c.len-count.ensures, c.len-started.ensures, c.args.workers.ok.0, c.start_all-handles.result.ok.0) in
    let f = fit g.S.ReportSource.gives c.args.workers.items (vec_items c.start_all-handles.result) c.start_all-handles.ensures all c.args.standby c.rotate.new.standby c.requires.lanes (went_whole c.len-started.result c.args.end.now c.rotate.new.end c.args.standby c.rotate.new.standby _ _ c.in_default.ensures.requested).0 (went_whole c.len-started.result c.args.end.now c.rotate.new.end c.args.standby c.rotate.new.standby _ _ c.in_default.ensures.requested).2 in
    subst (λ (es : List LaneEnd). length (vec_items c.start_all-handles.result) ≤ length es) (sym c.ends.ensures) f

pub returns-in-Err-promote-clause-same : goal.returns-in-Err-promote-clause-same
returns-in-Err-promote-clause-same g c =
    let e = went_whole c.len-started.result c.args.end.now c.rotate.new.end c.args.standby c.rotate.new.standby _ _ c.in_default.ensures.requested in let p = c.in-Err-promote.ensures.err in
    same_then c.args.end.now c.promote.new.source c.give_up-in-Err-promote.new.end
    (same_then c.args.end.now c.rotate.new.end c.promote.new.source (same_asked c.args.end.now c.rotate.new.end e.0 e.1) (same_asked c.rotate.new.end c.promote.new.source p.0 p.1))
    c.give_up-in-Err-promote.ensures.same

pub returns-in-Err-promote-clause-err : goal.returns-in-Err-promote-clause-err
returns-in-Err-promote-clause-err g c =
    let e = went_whole c.len-started.result c.args.end.now c.rotate.new.end c.args.standby c.rotate.new.standby _ _ c.in_default.ensures.requested in
    let x0 = c.args.standby in
    let x2 = c.close_intake.new.self in
    let carries : Carries x0 e.0 x2 = subst (λ rs. Carries x0 rs x2) (append-nil e.0) (carries_then x0 c.rotate.new.standby x2 e.0 [] e.2.carries c.close_intake.ensures.carries) in
    let begun : has_begun x2 ≡ false = ap has_begun c.close_intake.ensures.rest ∙ e.2.begun ∙ c.requires.serving in
    let until = until_then GivesWhatIsFed (λ e. e.failures) c.args.end.now c.rotate.new.end c.promote.new.source x0 x2 e.0 c.in-Err-promote.fault e.1 carries begun e.3 c.in-Err-promote.ensures.err in
    fails_over x0 c.args.end.now c.promote.new.source c.give_up-in-Err-promote.new.end (λ e. e.failures) c.in-Err-promote.fault c.give_up-in-Err-promote.result c.requires.serving until
    c.give_up-in-Err-promote.ensures.known c.give_up-in-Err-promote.ensures.more

pub meet_all-requires : goal.meet_all-requires
meet_all-requires g c =
    let gives = g.S.ReportSource.gives in let workers = c.args.workers.items in let handles = vec_items c.start_all-handles.result in
    let x0 = c.args.standby in let x1 = c.rotate.new.standby in
    let e = went_whole c.len-started.result c.args.end.now c.rotate.new.end c.args.standby c.rotate.new.standby _ _ c.in_default.ensures.requested in let parts = c.into_parts-shadow.ensures in
    let reporters = c.join_all-reporters.result.0.items in let told = c.join_all-reporters.result.1 in
    let all : length c.args.workers.items ≤ length (vec_items c.start_all-handles.result) = omega (arith, c.if-not-all_started.ensures, c.len-count.ensures, c.len-started.ensures, c.args.workers.ok.0, c.start_all-handles.result.ok.0) in
    let joins : JoinsAll gives handles x1.ends reporters told = subst (λ (es : List LaneEnd). JoinsAll gives handles es reporters told) c.ends.ensures c.join_all-reporters.ensures in
    subst (λ (es : List LaneEnd). AllZip AreOneLane es reporters) (sym parts.1)
    (lanes_now gives workers handles c.start_all-handles.ensures all x0 x1 c.requires.lanes e.0 e.2 reporters told joins)

-- where they met, no reporter was told of a close
pub unreachable-requires : goal.unreachable-requires
unreachable-requires g c =
    let gives = g.S.ReportSource.gives in let workers = c.args.workers.items in let handles = vec_items c.start_all-handles.result in
    let x0 = c.args.standby in let x1 = c.rotate.new.standby in
    let e = went_whole c.len-started.result c.args.end.now c.rotate.new.end c.args.standby c.rotate.new.standby _ _ c.in_default.ensures.requested in let parts = c.into_parts-shadow.ensures in
    let reporters = c.join_all-reporters.result.0.items in let told = c.join_all-reporters.result.1 in
    let all : length c.args.workers.items ≤ length (vec_items c.start_all-handles.result) = omega (arith, c.if-not-all_started.ensures, c.len-count.ensures, c.len-started.ensures, c.args.workers.ok.0, c.start_all-handles.result.ok.0) in
    let joins : JoinsAll gives handles x1.ends reporters told = subst (λ (es : List LaneEnd). JoinsAll gives handles es reporters told) c.ends.ensures c.join_all-reporters.ensures in
    none_closed gives workers handles c.start_all-handles.ensures all x0 x1 c.requires.lanes e.0 e.2 reporters told joins
    (subst (λ (es : List LaneEnd). AllZip EndsAgree es reporters) parts.1 c.meet_all.ensures) c.if-told.true

pub meet_all-requires-2 : goal.meet_all-requires-2
meet_all-requires-2 g c =
    let gives = g.S.ReportSource.gives in let workers = c.args.workers.items in let handles = vec_items c.start_all-handles.result in
    let x0 = c.args.standby in let x1 = c.rotate.new.standby in let x2 = c.close_intake.new.self in let x3 = c.promote.new.standby in
    let e = went_whole c.len-started.result c.args.end.now c.rotate.new.end c.args.standby c.rotate.new.standby _ _ c.in_default.ensures.requested in let p = c.in-Ok.ensures.ok in let parts = c.into_parts-shadow-2.ensures in
    let reporters = c.join_all-reporters.result.0.items in let told = c.join_all-reporters.result.1 in
    let all : length c.args.workers.items ≤ length (vec_items c.start_all-handles.result) = omega (arith, c.if-not-all_started.ensures, c.len-count.ensures, c.len-started.ensures, c.args.workers.ok.0, c.start_all-handles.result.ok.0) in
    let joins : JoinsAll gives handles x1.ends reporters told = subst (λ (es : List LaneEnd). JoinsAll gives handles es reporters told) c.ends.ensures c.join_all-reporters.ensures in
    subst (λ (es : List LaneEnd). AllZip AreOneLane es reporters) (sym parts.1)
    (one_lanes gives workers handles c.start_all-handles.ensures all x0 x1 c.requires.lanes e.0 e.2 reporters told joins x2 x3 c.close_intake.ensures.ends c.close_intake.ensures.carries p.2)

pub returns-clause-same : goal.returns-clause-same
returns-clause-same g c =
    let e = went_whole c.len-started.result c.args.end.now c.rotate.new.end c.args.standby c.rotate.new.standby _ _ c.in_default.ensures.requested in let p = c.in-Ok.ensures.ok in
    same_then c.args.end.now c.rotate.new.end c.promote.new.source (same_asked c.args.end.now c.rotate.new.end e.0 e.1) (same_asked c.rotate.new.end c.promote.new.source p.0 p.1)

pub returns-clause-ok : goal.returns-clause-ok
returns-clause-ok g c =
    let gives = g.S.ReportSource.gives in let workers = c.args.workers.items in let handles = vec_items c.start_all-handles.result in
    let x0 = c.args.standby in let x1 = c.rotate.new.standby in let x2 = c.close_intake.new.self in let x3 = c.promote.new.standby in
    let e = went_whole c.len-started.result c.args.end.now c.rotate.new.end c.args.standby c.rotate.new.standby _ _ c.in_default.ensures.requested in let p = c.in-Ok.ensures.ok in let parts = c.into_parts-shadow-2.ensures in
    let reporters = c.join_all-reporters.result.0.items in let told = c.join_all-reporters.result.1 in
    let all : length c.args.workers.items ≤ length (vec_items c.start_all-handles.result) = omega (arith, c.if-not-all_started.ensures, c.len-count.ensures, c.len-started.ensures, c.args.workers.ok.0, c.start_all-handles.result.ok.0) in
    let joins : JoinsAll gives handles x1.ends reporters told = subst (λ (es : List LaneEnd). JoinsAll gives handles es reporters told) c.ends.ensures c.join_all-reporters.ensures in
    let agree = subst (λ (es : List LaneEnd). AllZip EndsAgree es reporters) parts.1 c.meet_all-2.ensures in
    record {
      answers = e.0 ++ p.0;
      asked = asked_append GivesWhatIsFed c.args.end.now c.rotate.new.end c.promote.new.source e.0 p.0 e.1 p.1;
      ended = ends_behind e.0 p.0 p.7;
      last = p.3.0 ∙ ap (λ (z : Shadow). z.last) (sym parts.0);
      flushed = p.3.1 ∙ ap (λ (z : Shadow). count_by is_flush z.history) (sym parts.0);
      settings = subst (λ (z : Shadow). KeepsSettings x0.shadow z) (sym parts.0)
          (settings_then x0.shadow x1.shadow x3.shadow e.2.settings (subst (λ (z : Shadow). KeepsSettings z x3.shadow) (ap (λ z. z.shadow) c.close_intake.ensures.rest) p.6));
      ends = x3.ends;
      promoted = λ past start base given h.
          subst (λ (z : Shadow). IsPromotedAtEnd gives start base (given ++ (e.0 ++ p.0)) workers x0.ends x3.ends (shadow_with_past past z)) (sym parts.0)
          (is_promoted gives workers handles c.start_all-handles.ensures all x0 x1 c.requires.lanes e.0 e.2 reporters told joins x2 x3 c.close_intake.ensures.ends c.close_intake.ensures.carries p.2 p.0 p.4 agree c.if-told.false past start base given h);
    }
