use Rattle.std.proofs.Common.{rules, ◌≡◌, false, sym, subst}
use Rattle.nn_run.specs.Following.{Follower, Lived, IsLive}
use Rattle.nn_run.proofs.LiveLemmas.{forgets}
use Rattle.nn_run.proofs.following.Following.forget.Goals as goal

pub returns-then-not-self-clause-live : goal.returns-then-not-self-clause-live
returns-then-not-self-clause-live c = λ first x h.
    let l : Lived = record { check = c.self.inside.check; follower = c.self.inside.follower; history = c.self.inside.history } in
    let off : c.self.inside.history ≡ false = search rules in
    subst (λ (f : Follower). IsLive first x (record l { follower = f })) (sym c.forget_history.ensures) (forgets first l x off (subst (IsLive first x) (sym c.self.view_is) h))
