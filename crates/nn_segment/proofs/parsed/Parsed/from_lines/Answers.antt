use Rattle.std.proofs.Common.{◌≡◌, Err, sym, arith}
use Rattle.std.specs.Prelude.{string_bytes}
use Rattle.nn_segment.proofs.ReadingLemmas.{bytes_refused}
use Rattle.nn_segment.proofs.parsed.Parsed.from_lines.Goals as goal

pub returns-in_err-check_bytes : goal.returns-in_err-check_bytes
returns-in_err-check_bytes c =
    let fault = c.in_err-check_bytes.field-0.0 in
    let is : c.from_residual.result ≡ Err fault = grind arith in
    let found = rw c.deref.ensures.value at c.in_err-check_bytes.ensures in
    rw is (sym (bytes_refused (string_bytes c.args.name) c.args.bytes.items c.args.txids fault c.requires.named found))
