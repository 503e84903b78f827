use Rattle.std.proofs.Common.{arith, ap, ◌∙◌, sym}
use Rattle.std.proofs.lemmas.Bool.Decides.{nat_tests}
use Rattle.nn_feed.specs.Feeds.{has_last, placed}
use Rattle.nn_feed.specs.Passes.{put_in}
use Rattle.nn_feed.proofs.Feeds.{has_last_push}
use Rattle.nn_feed.proofs.ends.Feeder.place.Goals as goal
use Rattle.nn_feed.proofs.ends.Feeder.place.Goals.{then-not-last, else-not-last}

pub send-requires-clause-few : goal.send-requires-clause-few
send-requires-clause-few g c segment = elim c.if-not-last.branch [ then-not-last w ↦ grind (arith, nat_tests) | else-not-last w ↦ grind (arith, nat_tests) ]

pub invariant_of-self-clause-told : goal.invariant_of-self-clause-told
invariant_of-self-clause-told g c =
    let self = c.args.self.now in
    let grown = ap (λ v. v.put) c.in-Ok.ensures.rule in
    c.is_last-last.ensures ∙ sym (ap has_last grown ∙ has_last_push (put_in self.pass) (placed c.args.answer self.count) (sym self.told ∙ c.if-self.false))
