use Rattle.std.proofs.Common.{refl, sym, subst}
use Rattle.nn_scenario.specs.Reading.{with_report_line}
use Rattle.nn_run.specs.Following.{Lived, IsLive}
use Rattle.nn_run.proofs.LiveLemmas.{report_lived}
use Rattle.nn_run.proofs.following.Following.report.Goals as goal

pub returns-clause-live : goal.returns-clause-live
returns-clause-live c = λ first x h.
    let old : Lived = record { check = c.self.inside.check; follower = c.self.inside.follower; history = c.self.inside.history } in
    let new : Lived = record old { follower = c.follow_report.new.self } in
    c.forget.ensures.live first (with_report_line x c.args.report.now)
    (report_lived first old new refl x c.args.report.now refl c.in_ok-follow_report.ensures.ok (subst (IsLive first x) (sym c.self.view_is) h))
