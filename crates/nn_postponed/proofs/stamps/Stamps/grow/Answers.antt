use Rattle.std.proofs.Common.{arith, ap, length, ◌^◌}
use Rattle.nn_postponed.proofs.stamps.Stamps.grow.Goals as goal
use Rattle.nn_postponed.proofs.Trees.{below_power, half_long}

pub overflow_add-self-inside : goal.overflow_add-self-inside
overflow_add-self-inside c = omega (arith, below_power c.self.inside.levels, c.self.invariant.0, c.self.inside.nodes.ok, c.self.inside.nodes.small)

pub returns-clause-more : goal.returns-clause-more
returns-clause-more c = omega (
  arith,
  c.places-places.ensures,
  c.loop-place.invariant.places,
  ap length c.drop.view_is,
  ap length c.self.view_is,
  half_long (2 ^ c.self.inside.levels) c.self.inside.nodes.items c.self.invariant.0,
  below_power c.self.inside.levels,
)
