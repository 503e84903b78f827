use Rattle.std.proofs.Common.{length, ap, subst, sym, arith, ◌∙◌, ◌++◌, ◌∷◌, []}
use Rattle.nn_types.specs.declared.event.Cause.TheVariants.{Flush}
use Rattle.nn_shadow.specs.Steps.{HavePlaces}
use Rattle.nn_shadow.proofs.intake.Intake.process_held.Goals as goal
use Rattle.nn_shadow.proofs.Filling.{told_one, drains_one, rest_placed}

pub loop-m-preserved : goal.loop-m-preserved
loop-m-preserved c =
    let is = c.in-Some.ensures.some in
    record {
      told = told_one Flush c.args.self.now.history.items c.loop-m.self.history.items c.push.new.self.items c.args.self.now.held c.loop-m.self.held c.take_first.new.self c.in-Some.m
          c.loop-m.invariant.told c.in-Some.ensures.some (c.in-Ok.ensures.items ∙ ap (λ e. c.loop-m.self.history.items ++ e ∷ []) c.processed.ensures);
      drains = drains_one c.args.self.now.table c.loop-m.self.table c.process.new.table c.args.self.now.held c.loop-m.self.held c.take_first.new.self c.in-Some.m
          c.loop-m.invariant.drains c.in-Some.ensures.some c.process.ensures;
      room = omega (arith, ap length c.in-Some.ensures.some, c.in-Ok.ensures.len, c.in-Ok.ensures.capacity, c.loop-m.invariant.room);
      placed = subst (λ t. HavePlaces t c.take_first.new.self) (sym c.process.ensures)
          (rest_placed c.loop-m.self.table c.loop-m.self.held c.take_first.new.self c.in-Some.m c.in-Some.ensures.some c.loop-m.invariant.placed);
    }
