use Rattle.std.proofs.Common.{refl, arith}
use Rattle.nn_live.proofs.Serves.{prefix_took}
use Rattle.nn_live.proofs.run.finish.Goals as goal

pub returns-in-Ok-clause-written : goal.returns-in-Ok-clause-written
returns-in-Ok-clause-written g c = (refl, λ start text put. c.in-Ok.ensures.ok start text put)

pub returns-in-Err-clause-prefix : goal.returns-in-Err-clause-prefix
returns-in-Err-clause-prefix g c start text put before =
    let took = prefix_took start c.end.new.writer text c.in-Err.field-0 c.in-Err.ensures.cause (c.in-Err.ensures.prefix start text put) in
    record { took = took; told = omega (arith, before, c.unwritten.ensures, took.counted) }
