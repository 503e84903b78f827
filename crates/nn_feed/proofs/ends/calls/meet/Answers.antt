use Rattle.std.proofs.Common.{rules, ◌≡◌, ◌++◌, ap, subst}
use Rattle.nn_feed.specs.Ends.{got_by}
use Rattle.nn_feed.specs.Feeds.{IsFeed}
use Rattle.nn_feed.proofs.Feeds.{feed_end}
use Rattle.nn_feed.proofs.Keeps.{merges, totals}
use Rattle.nn_feed.proofs.ends.calls.meet.Goals as goal

pub absorb-requires-clause-rule : goal.absorb-requires-clause-rule
absorb-requires-clause-rule g c = merges _ _ _ _ (ap (λ v. v.puts) c.args.feeder.role) (ap (λ v. v.gets) c.args.end.role)

pub learn_as-requires-clause-rule : goal.learn_as-requires-clause-rule
learn_as-requires-clause-rule g c = totals _ _ (search rules) (search rules)

pub returns : goal.returns
returns g c =
    let learned = c.learn_as.ensures.rule in let rest = learned.0 in
    let fact = subst (λ v. (v.put ≡ v.got ++ rest) × IsFeed 0 v.put) c.absorb.ensures.rule learned.1 in
    (rest, fact.0, (λ over. feed_end 0 (got_by c.args.end) rest (subst (IsFeed 0) fact.0 fact.1) over), fact.1)
