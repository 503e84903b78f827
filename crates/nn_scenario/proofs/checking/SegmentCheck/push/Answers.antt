use Rattle.std.proofs.Common.{sym, subst}
use Rattle.nn_scenario.specs.Checking.{IsCheckOf}
use Rattle.nn_scenario.specs.Reading.{with_edit_line}
use Rattle.nn_scenario.proofs.CheckLemmas.{line_checks}
use Rattle.nn_scenario.proofs.checking.SegmentCheck.push.Goals as goal

pub returns-clause-of : goal.returns-clause-of
returns-clause-of c = λ x h.
    let text = c.args.text.now in
    let tx = c.args.tx.now in
    subst (IsCheckOf (with_edit_line x (record { text = text; tx = tx }))) (sym c.check_line.ensures.is)
    (line_checks x c.args.self.now text tx c.requires.unbroken c.requires.read c.requires.from_one c.check_line.ensures.in_range h)
