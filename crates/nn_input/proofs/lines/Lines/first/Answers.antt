use Rattle.std.proofs.Common.{◌≡◌, ◌<◌, ◌∷◌, ℕ, List, length, arith, ap, subst, sym}
use Rattle.nn_input.specs.Cut.{Lines, ahead}
use Rattle.nn_input.proofs.Firsts.{first_ahead, some_ahead}
use Rattle.nn_input.proofs.lines.Lines.first.Goals as goal

pub returns-then-self-clause-byte : goal.returns-then-self-clause-byte
returns-then-self-clause-byte g c =
    subst (λ (l : Lines). (rest : List ℕ) × (ahead l ≡ c.index.result.now ∷ rest)) c.self.view_is
    (first_ahead c.self.inside.buffer.items c.self.inside.from c.self.inside.to c.index.result.now c.if-self.true c.self.invariant.1 c.index.ensures)

pub returns-clause-byte : goal.returns-clause-byte
returns-clause-byte g c =
    let more = c.in-Ok.ensures.more in
    let given = c.in-Ok.ensures.some c.if-not-more.false in
    let some : 0 < length (ahead c.refill.new.self) = omega (arith, ap length more.are, more.came.counted, given.0) in
    let less = some_ahead c.self-2.inside.buffer.items c.self-2.inside.from c.self-2.inside.to (subst (λ (l : Lines). 0 < length (ahead l)) (sym c.self-2.view_is) some) in
    subst (λ (l : Lines). (rest : List ℕ) × (ahead l ≡ c.index-2.result.now ∷ rest)) c.self-2.view_is
    (first_ahead c.self-2.inside.buffer.items c.self-2.inside.from c.self-2.inside.to c.index-2.result.now less c.self-2.invariant.1 c.index-2.ensures)
