use Rattle.std.proofs.Common.{◌≡◌, sym, ap, ◌∙◌}
use Rattle.nn_image.specs.Loading.{state_of}
use Rattle.nn_image.specs.declared.loading.Stage.TheVariants as stage
use Rattle.nn_image.proofs.LoadedLines.{line_taken, line_refused}
use Rattle.nn_image.proofs.loading.Loading.push.Goals as goal

pub returns-in-Some-clause-taken : goal.returns-in-Some-clause-taken
returns-in-Some-clause-taken c =
    let b = c.in-Begun.begun in
    let old : c.args.self.now ≡ state_of (stage.Begun b) = sym c.self.view_is ∙ ap state_of c.in-Begun.is in
    rw (old, c.refuse.ensures) (line_refused b c.push.new.self c.in_ok-read-in-Begun.read c.args.line.now c.in-Some.fault c.in_ok-read-in-Begun.ensures.read
    (rw c.in-Some.is at c.in_ok-fault-in-Begun.ensures.taken))

pub returns-in_default-clause-taken : goal.returns-in_default-clause-taken
returns-in_default-clause-taken c =
    let b = c.in-Begun.begun in
    let old : c.args.self.now ≡ state_of (stage.Begun b) = sym c.self.view_is ∙ ap state_of c.in-Begun.is in
    rw old (line_taken b c.push.new.self c.in_ok-read-in-Begun.read c.args.line.now c.in_ok-read-in-Begun.ensures.read c.in_ok-fault-in-Begun.ensures.txid
    (rw c.in_default.is at c.in_ok-fault-in-Begun.ensures.taken))
