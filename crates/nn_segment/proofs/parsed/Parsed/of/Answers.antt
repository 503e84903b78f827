use Rattle.std.proofs.Common.{◌≡◌, Err, sym, ap, ◌∙◌, arith}
use Rattle.std.specs.Prelude.{string_bytes}
use Rattle.nn_segment.specs.Name.{txids_of}
use Rattle.nn_segment.specs.Reading.{read_segment}
use Rattle.nn_segment.proofs.ReadingLemmas.{no_name, bytes_refused}
use Rattle.nn_segment.proofs.Outcomes.{gives_fault}
use Rattle.nn_segment.proofs.parsed.Parsed.of.Goals as goal

pub returns-in_default : goal.returns-in_default
returns-in_default c = no_name (string_bytes c.args.name) c.args.bytes.items (ap txids_of (sym c.as_str.ensures.value) ∙ sym c.in_default.ensures.exact)

pub returns-in_err-check_bytes : goal.returns-in_err-check_bytes
returns-in_err-check_bytes c =
    let name = string_bytes c.args.name in
    let bytes = c.args.bytes.items in
    let fault = c.in_err-check_bytes.field-0.0 in
    let is : c.from_residual.result ≡ Err fault = grind arith in
    let named = ap txids_of (sym c.as_str.ensures.value) ∙ sym c.in-Some.ensures.exact in
    let found = rw c.deref.ensures.value at c.in_err-check_bytes.ensures in
    rw is (gives_fault fault (read_segment name bytes) (bytes_refused name bytes c.in-Some.txids fault named found))
