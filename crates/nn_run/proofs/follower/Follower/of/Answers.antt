use Rattle.std.proofs.Common.{◌≡◌, ap, arith}
use Rattle.nn_model.specs.Stands.{StandbyState}
use Rattle.nn_shadow.specs.Contents.{last_number_in}
use Rattle.nn_run.proofs.follower.Follower.of.Goals as goal

pub invariant_of-result : goal.invariant_of-result
invariant_of-result c = (
  λ none. c.requires.serving,
  λ dn. (let first : last_number_in c.args.shadow.numbers dn ≡ 0 = ap (λ (s : StandbyState). s.last_number dn) c.requires.fresh in omega (arith, first)),
)
