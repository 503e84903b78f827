use Rattle.std.proofs.Common.{◌≡◌, ◌+◌, get_or, refl, subst, inl, inr, arith}
use Rattle.nn_plain.specs.Bytes.{Skips}
use Rattle.nn_plain.proofs.TokensLeft.{one_more}
use Rattle.nn_plain.proofs.tokens.near_start.Goals as goal

pub returns-then-first-clause-begins : goal.returns-then-first-clause-begins
returns-then-first-clause-begins c = inl (c.if-first.true, refl)

pub returns-clause-begins : goal.returns-clause-begins
returns-clause-begins c =
    let comma : get_or c.args.text.now c.args.at 0 ≡ 44 = rw (← c.as_bytes-bytes.ensures.value) c.if-bytes-at-ne44.false in
    inr (c.if-first.false, comma, refl)

pub returns-then-bytes-at-eq32-clause-begins : goal.returns-then-bytes-at-eq32-clause-begins
returns-then-bytes-at-eq32-clause-begins c =
    let d = c.args.text.now in
    let at = c.args.at in
    let comma : get_or d at 0 ≡ 44 = rw (← c.as_bytes-bytes.ensures.value) c.if-bytes-at-ne44.false in
    let blank : get_or d (at + 1) 0 ≡ 32 = rw (← c.as_bytes-bytes.ensures.value) c.if-bytes-at-eq32.true in
    let both : at + 1 + 1 ≡ at + 2 = omega arith in
    inr (c.if-first.false, comma, subst (Skips d (at + 1)) both (one_more d (at + 1) (at + 1) blank refl))
