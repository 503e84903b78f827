use Rattle.std.proofs.Common.{◌≡◌, ◌+◌, length, refl, rules, sym, subst, arith}
use Rattle.nn_bytes.specs.Runs.{IsPrintableTo}
use Rattle.nn_input.specs.Cut.{HasCome, Lines}
use Rattle.nn_input.proofs.Cuts.{feed_ahead, read_line}
use Rattle.nn_input.proofs.lines.Lines.cut.Goals as goal

pub returns-then-end-left-clause-there : goal.returns-then-end-left-clause-there
returns-then-end-left-clause-there c =
    let cut = feed_ahead c.self.inside.buffer.items c.deref.result.now c.self.inside.from c.self.inside.to c.deref.ensures.value c.known_line_end-end.result.0 c.known_line_end-end.ensures.end c.known_line_end-end.ensures.within c.if-end-left.true in
    (omega arith, search rules, subst (IsPrintableTo c.known_line_end-end.result.1) (sym cut.2) c.known_line_end-end.ensures.printable)

pub returns-then-end-left-clause-line : goal.returns-then-end-left-clause-line
returns-then-end-left-clause-line c bytes lines h =
    let old : Lines = record { buffer = c.self.inside.buffer.items; from = c.self.inside.from; to = c.self.inside.to; torn = c.self.inside.torn; last = c.self.inside.last } in
    let next = c.self.inside.from + c.known_line_end-end.result.0 + 1 in
    let new : Lines = record { buffer = c.self.inside.buffer.items; from = next; to = c.self.inside.to; torn = c.self.inside.torn; last = c.self.inside.last } in
    let cut = feed_ahead c.self.inside.buffer.items c.deref.result.now c.self.inside.from c.self.inside.to c.deref.ensures.value c.known_line_end-end.result.0 c.known_line_end-end.ensures.end c.known_line_end-end.ensures.within c.if-end-left.true in
    let none : length c.self.inside.torn.kept ≡ 0 = search rules in
    read_line c.args.most bytes lines c.self.inside.from (c.self.inside.from + c.known_line_end-end.result.0) _ _ old new c.requires none cut.0 cut.1 refl cut.2 (subst (HasCome c.args.most bytes lines) (sym c.self.view_is) h)
