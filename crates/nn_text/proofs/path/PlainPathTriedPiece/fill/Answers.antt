use Rattle.std.proofs.Common.{rules, ◌≡◌, ◌+◌, ◌++◌, ◌≤◌, take, length, sym, ap, ◌∙◌, arith}
use Rattle.nn_text.proofs.PlainPaths.{plain_path}
use Rattle.nn_text.proofs.path.PlainPathTriedPiece.fill.Goals as goal

pub returns-clause-filled : goal.returns-clause-filled
returns-clause-filled c =
    let end = c.in-Some.end in
    let within = c.in-Some.ensures.within in
    plain_path c.args.used end c.args.room.now c.fill_names.new.room c.fill.new.room _ c.args.self.names.now
    (omega (arith, c.if-room-used-lt18.false)) within.0 (omega (arith, within.1)) (omega (arith, within.1, c.fill.ensures.len))
    (search rules) c.in-Some.ensures.filled (ap (λ k. take k c.fill.new.room) (sym c.fill.ensures.used) ∙ c.fill.ensures.filled) (search rules)
