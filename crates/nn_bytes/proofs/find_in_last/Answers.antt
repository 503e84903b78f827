use Rattle.std.proofs.Common.{◌≡◌, ◌+◌, ◌-◌, ◌/◌, ◌^◌, length, drop, ap, ◌∙◌, arith, ne_eqb}
use Rattle.std.proofs.lemmas.List.{length-drop}
use Rattle.std.proofs.lemmas.List.Sums.{prefix_len-le-length}
use Rattle.nn_bytes.specs.Runs.{is_other}
use Rattle.nn_bytes.proofs.Blocks.{none_found, one_found, shifted_out}
use Rattle.nn_bytes.proofs.find_in_last.Goals as goal

pub returns-then-found-eq0-clause-run : goal.returns-then-found-eq0-clause-run
returns-then-found-eq0-clause-run c =
    let d = c.args.text.now in
    let from = c.args.from in
    let last = length d - 16 in
    let size : last + 16 ≡ length d = omega (arith, c.if-text-lt16.false) in
    let is = ap (λ m. m / 2 ^ (from - last)) c.equal_bits.ensures ∙ shifted_out d c.block_at.result c.args.byte last from size (omega (arith, c.requires.short)) c.block_at.ensures in
    none_found d c.args.byte from _ c.requires.short is c.requires.bound c.if-found-eq0.true

pub returns-clause-run : goal.returns-clause-run
returns-clause-run c =
    let d = c.args.text.now in
    let from = c.args.from in
    let last = length d - 16 in
    let size : last + 16 ≡ length d = omega (arith, c.if-text-lt16.false) in
    let is = ap (λ m. m / 2 ^ (from - last)) c.equal_bits.ensures ∙ shifted_out d c.block_at.result c.args.byte last from size (omega (arith, c.requires.short)) c.block_at.ensures in
    one_found d c.args.byte from _ c.requires.short is (ne_eqb _ 0 c.if-found-eq0.false)

pub returns-clause-bound : goal.returns-clause-bound
returns-clause-bound c =
    let d = c.args.text.now in
    let from = c.args.from in
    let last = length d - 16 in
    let size : last + 16 ≡ length d = omega (arith, c.if-text-lt16.false) in
    let is = ap (λ m. m / 2 ^ (from - last)) c.equal_bits.ensures ∙ shifted_out d c.block_at.result c.args.byte last from size (omega (arith, c.requires.short)) c.block_at.ensures in
    let run = one_found d c.args.byte from _ c.requires.short is (ne_eqb _ 0 c.if-found-eq0.false) in
    omega (arith, run, prefix_len-le-length (is_other c.args.byte) (drop from d), length-drop from d, c.requires.bound)
