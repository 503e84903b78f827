use Rattle.std.proofs.Common.{ap, ◌∙◌}
use Rattle.std.specs.Option.{is_some}
use Rattle.nn_feed.proofs.Feeds.{ended_last}
use Rattle.nn_feed.proofs.ends.calls.is_last.Goals as goal

pub returns : goal.returns
returns c = c.is_some.ensures ∙ ap is_some c.ended_by.ensures ∙ ended_last c.args.answer.now
