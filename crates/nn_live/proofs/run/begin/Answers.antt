use Rattle.std.proofs.Common.{subst, sym}
use Rattle.nn_live.specs.Live.{new_service}
use Rattle.nn_live.specs.Running.{asked_by, serving_by}
use Rattle.nn_live.specs.Serving.{IsAtService, Service}
use Rattle.nn_live.proofs.Begins.{is_begun, no_service, nothing_output}
use Rattle.nn_live.proofs.run.begin.Goals as goal

pub returns-in_default-clause-output : goal.returns-in_default-clause-output
returns-in_default-clause-output g c = nothing_output c.args.options.now c.args.input.now

pub returns-in_default-begin-clause-output : goal.returns-in_default-begin-clause-output
returns-in_default-begin-clause-output g c = no_service (serving_by c.args.options.now c.args.input.now c.begin_at.new.input) c.in-Ok-begin_at.at.0 c.in-Ok-begin_at.at.1 c.begin_at.new.lines c.in-Ok-begin_at.ensures.begins

pub returns-clause-begun : goal.returns-clause-begun
returns-clause-begun g c =
    let o = c.args.options.now in
    let at = c.in-Ok-begin_at.at in
    is_begun (serving_by o c.args.input.now c.begin_at.new.input) at.0 at.1 c.begin_at.new.lines c.in-Ok-begin_at.ensures.begins c.of.result c.of.ensures.lines
    (subst (λ (x : Service). IsAtService (asked_by o) x (new_service at.0 at.1)) (sym c.of.ensures.service) c.in-Ok-begin.ensures.ok)
