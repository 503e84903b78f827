use Rattle.std.proofs.Common.{ap, ◌∙◌}
use Rattle.serde_json.specs.Written.{has_float}
use Rattle.nn_image.proofs.Writing.{head_whole}
use Rattle.nn_image.proofs.saving.head_line.Goals as goal

pub line-requires : goal.line-requires
line-requires c = ap has_float c.in_ok-value.ensures ∙ head_whole c.args.namespace.now c.args.txid
