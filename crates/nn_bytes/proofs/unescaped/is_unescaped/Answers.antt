use Rattle.std.proofs.Common.{◌==◌, length, ap, ◌∙◌}
use Rattle.nn_bytes.specs.Runs.{is_unescaped_byte}
use Rattle.nn_bytes.proofs.PrintableRuns.{whole_run}
use Rattle.nn_bytes.proofs.unescaped.is_unescaped.Goals as goal

pub returns : goal.returns
returns c =
    let text = c.args.text.now in
    ap (λ n. n == length text) c.unescaped_run.ensures.run ∙ whole_run is_unescaped_byte text
