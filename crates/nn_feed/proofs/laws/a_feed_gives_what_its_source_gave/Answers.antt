use Rattle.nn_feed.proofs.Wholes.{fed_whole}
use Rattle.nn_feed.proofs.laws.a_feed_gives_what_its_source_gave.Goals as goal

pub returns : goal.returns
returns g c = fed_whole g.S.SegmentSource.gives
