use Rattle.std.proofs.Common.{◌∙◌, ap, Ok}
use Rattle.nn_scenario.proofs.LineLemmas.{edit_alone, edit_from_one}
use Rattle.nn_run.proofs.following.FollowingLineSink.line.Goals as goal

pub edit-requires-clause-read : goal.edit-requires-clause-read
edit-requires-clause-read c = edit_alone c.args.text.now c.in-Edit.tx (c.requires.read ∙ ap Ok c.in-Edit.is)

pub edit-requires-clause-from_one : goal.edit-requires-clause-from_one
edit-requires-clause-from_one c = edit_from_one c.args.text.now c.in-Edit.tx (c.requires.read ∙ ap Ok c.in-Edit.is)
