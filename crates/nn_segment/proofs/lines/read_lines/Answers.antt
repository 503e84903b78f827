use Rattle.std.proofs.Common.{◌+◌, ◌++◌, ◌∷◌, take, drop, map, Ok, sym, ap, ◌∙◌, append-nil}
use Rattle.nn_edits.specs.Reading.{edit_of_line}
use Rattle.nn_segment.specs.Lines.{reads_of}
use Rattle.nn_segment.proofs.LineLemmas.{first_read, one_more, reads-nil, some_bytes, no_bytes}
use Rattle.nn_segment.proofs.lines.read_lines.Goals as goal

pub returns-in-Err : goal.returns-in-Err
returns-in-Err c =
    let rest = c.lines.rest.now in
    let end = c.line_end-end.result in
    let some = some_bytes rest c.is_empty.result c.is_empty.ensures c.lines-test.true in
    (edit_of_line (take end rest), reads_of (drop (end + 1) rest), c.lines.invariant ∙ ap (λ rs. map Ok c.lines.txs.items ++ rs) (first_read rest end some c.line_end-end.ensures.end), c.in-Err.ensures.exact)

pub returns-in-Err-push_tx : goal.returns-in-Err-push_tx
returns-in-Err-push_tx c =
    let rest = c.lines.rest.now in
    let end = c.line_end-end.result in
    let some = some_bytes rest c.is_empty.result c.is_empty.ensures c.lines-test.true in
    let read = edit_of_line (take end rest) in
    let later = reads_of (drop (end + 1) rest) in
    (read, later, c.lines.invariant ∙ ap (λ rs. map Ok c.lines.txs.items ++ rs) (first_read rest end some c.line_end-end.ensures.end) ∙ ap (λ txs. map Ok txs ++ read ∷ later) (sym c.in-Err-push_tx.ensures.err), tt)

pub lines-preserved : goal.lines-preserved
lines-preserved c =
    let rest = c.lines.rest.now in
    let end = c.line_end-end.result in
    let some = some_bytes rest c.is_empty.result c.is_empty.ensures c.lines-test.true in
    c.lines.invariant
    ∙ ap (λ rs. map Ok c.lines.txs.items ++ rs) (first_read rest end some c.line_end-end.ensures.end)
    ∙ one_more c.lines.txs.items c.in-Ok.tx _ (reads_of (drop (end + 1) rest)) c.in-Ok.ensures.exact
    ∙ ap (λ txs. map Ok txs ++ reads_of (drop (end + 1) rest)) (sym c.in_default.ensures.ok)
    ∙ ap (λ bytes. map Ok c.push_tx.new.txs.items ++ reads_of bytes) (sym c.after_line-rest.ensures)

pub returns : goal.returns
returns c =
    let none = no_bytes c.lines.rest.now c.is_empty.result c.is_empty.ensures c.lines-test.false in
    c.lines.invariant ∙ ap (λ bytes. map Ok c.lines.txs.items ++ reads_of bytes) none ∙ ap (λ rs. map Ok c.lines.txs.items ++ rs) reads-nil ∙ append-nil (map Ok c.lines.txs.items)
