use Rattle.std.proofs.Common.{◌∙◌, arith}
use Rattle.nn_sorted.proofs.Maps.{no_chunks}
use Rattle.nn_sorted.proofs.map.SortedMap.destroy_empty.Goals as goal

pub destroy_empty-requires : goal.destroy_empty-requires
destroy_empty-requires g c =
    let none = no_chunks c.self.inside.chunks.items c.self.invariant.0 (c.self.view_is ∙ c.requires) in
    omega (arith, none, c.self.inside.chunks.ok)
