use Rattle.std.proofs.Common.{refl, sym, subst}
use Rattle.nn_scenario.specs.Cut.{EditLine}
use Rattle.nn_scenario.specs.Reading.{with_edit_line}
use Rattle.nn_run.specs.Following.{Lived, IsLive}
use Rattle.nn_run.proofs.LiveLemmas.{edit_lived}
use Rattle.nn_run.proofs.following.Following.edit.Goals as goal

pub returns-clause-live : goal.returns-clause-live
returns-clause-live c = λ first x h.
    let line : EditLine = record { text = c.args.text.now; tx = c.args.tx.now } in
    let old : Lived = record { check = c.self.inside.check; follower = c.self.inside.follower; history = c.self.inside.history } in
    let new : Lived = record { check = c.push.new.self; follower = c.follow_edit.new.self; history = c.self.inside.history } in
    c.forget.ensures.live first (with_edit_line x line)
    (edit_lived first old new refl x line c.begins-begins.result c.begins-begins.ensures (c.push.ensures.of x) c.in_ok-follow_edit.ensures.ok (subst (IsLive first x) (sym c.self.view_is) h))
