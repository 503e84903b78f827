use Rattle.std.proofs.Common.{true, Err, refl, ap}
use Rattle.nn_image.specs.declared.fault.ImageFault.TheVariants.{BadLine}
use Rattle.nn_image.proofs.LoadedLines.{end_fails, end_taken, count_not}
use Rattle.nn_image.proofs.loading.Begun.end_rows.Goals as goal

pub returns-in_default-clause-taken : goal.returns-in_default-clause-taken
returns-in_default-clause-taken c =
    let b = c.args.self.now in
    end_fails b c.requires.rows c.args.count (BadLine b.number) (λ pieces. rw c.in_default.is (ap (λ k. Err (BadLine k)) c.requires.begun.loading.at))

pub returns-then-count-self-clause-taken : goal.returns-then-count-self-clause-taken
returns-then-count-self-clause-taken c =
    let b = c.args.self.now in
    end_fails b c.requires.rows c.args.count _ (λ pieces. rw c.in-Some.is (count_not b.namespace b.number c.in-Some.count pieces c.requires.begun.loading.at c.if-count-self.true))

pub returns-clause-taken : goal.returns-clause-taken
returns-clause-taken c =
    let b = c.args.self.now in
    rw c.in-Some.is (end_taken b c.requires.rows (record b { has_ended = true }) c.in-Some.count c.requires.begun.loading.at c.if-count-self.false refl refl)
