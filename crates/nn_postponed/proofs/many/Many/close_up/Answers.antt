use Rattle.std.proofs.Common.{sym, subst}
use Rattle.nn_postponed.specs.Places.{present}
use Rattle.nn_postponed.specs.Links.{Slots, AreAbout}
use Rattle.nn_postponed.proofs.many.Many.close_up.Goals as goal
use Rattle.nn_postponed.proofs.Links.{all_about_it}

pub add_all-requires-clause-about : goal.add_all-requires-clause-about
add_all-requires-clause-about c = subst (λ (l : Slots). AreAbout c.self.inside.block (present l)) (sym c.deref.ensures.value) (all_about_it c.self.inside.block c.self.inside.messages.items c.self.invariant.0.about)
