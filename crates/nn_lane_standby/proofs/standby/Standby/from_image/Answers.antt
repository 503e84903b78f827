use Rattle.std.proofs.Common.{sym, ap, ◌∙◌, Ok}
use Rattle.nn_lane_standby.proofs.standby.Standby.from_image.Goals as goal

pub returns-in-Ok-from_namespace-clause-image : goal.returns-in-Ok-from_namespace-clause-image
returns-in-Ok-from_namespace-clause-image g c text known =
    let read = c.in-Ok.ensures.ok text known in
    (read.0 ∙ ap Ok (sym c.in-Ok-from_namespace.ensures.point), read.1)
