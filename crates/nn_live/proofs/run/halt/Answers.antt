use Rattle.std.proofs.Common.{◌++◌}
use Rattle.std.proofs.lemmas.Result.{IfErr-weaker}
use Rattle.nn_live.specs.Running.{halt_text}
use Rattle.nn_live.proofs.run.halt.Goals as goal

pub returns-clause-prefix : goal.returns-clause-prefix
returns-clause-prefix g c =
    IfErr-weaker c.finish.result _ _ (λ fault prefix start text put before. prefix start (text ++ halt_text c.args.why) (c.put.ensures start text put) before) c.finish.ensures.prefix
