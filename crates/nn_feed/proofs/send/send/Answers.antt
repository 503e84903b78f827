use Rattle.nn_feed.proofs.Keeps.{puts, learns_nothing}
use Rattle.nn_feed.proofs.send.send.Goals as goal

pub send_as-requires-clause-rule : goal.send_as-requires-clause-rule
send_as-requires-clause-rule g c =
    let m = c.args.message in (
      puts _ _ _ m.answer m.place c.requires.role c.requires.place c.requires.unended c.requires.few,
      learns_nothing _ _,
    )
