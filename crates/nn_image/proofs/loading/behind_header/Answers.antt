use Rattle.std.proofs.Common.{rules, ◌≡◌, refl, arith}
use Rattle.nn_image.specs.Header.{header_value}
use Rattle.nn_image.specs.declared.fault.ImageFault.TheVariants.{OutOfMemory}
use Rattle.nn_image.proofs.LoadedLines.{bad_header, header, just_fails, bare_begins}
use Rattle.nn_image.proofs.loading.behind_header.Goals as goal

pub returns-in-Err : goal.returns-in-Err
returns-in-Err c =
    let memory : c.in-Err.fault ≡ OutOfMemory → ⊥ = grind arith in
    record { taken = bad_header c.args.line.now c.in-Err.fault (just_fails c.in-Err.fault _ memory c.in-Err.ensures.own c.in-Err.ensures.fault); lawful = c.in-Err.ensures.own; later = refl }

pub returns-clause-taken : goal.returns-clause-taken
returns-clause-taken c =
    let same : c.in_ok-namespace.namespace ≡ (header_value c.in-Ok.header).0 = search rules in
    header c.args.line.now c.in_ok-namespace.namespace c.in-Ok.header.txid (rw same c.in-Ok.ensures.ok)

pub returns-clause-lawful : goal.returns-clause-lawful
returns-clause-lawful c =
    let same : c.in_ok-namespace.namespace ≡ (header_value c.in-Ok.header).0 = search rules in
    bare_begins _ (header_value c.in-Ok.header).0.issued same c.in_ok-before.ensures refl refl
