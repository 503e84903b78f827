use Rattle.std.proofs.Common.{sym, ◌∙◌}
use Rattle.nn_image.proofs.FrontImages.{torn_open}
use Rattle.nn_image.proofs.front.torn_fault.Goals as goal

pub returns-in_default : goal.returns-in_default
returns-in_default c = torn_open c.args.loading.now c.requires (sym c.fault.ensures.fault ∙ c.in_default.is)
