use Rattle.std.proofs.Common.{ℕ, ◌+◌, ◌-◌, ◌%◌, map, ap, ◌∙◌, arith}
use Rattle.std.specs.Char.{is_ascii_digit}
use Rattle.std.proofs.lemmas.List.{length-map}
use Rattle.std.proofs.lemmas.Simd.{map-map, zip2_splat, zip2_splat_left}
use lib.Lanes.{zip2}
use lib.ListN.{replicate}
use Rattle.nn_bytes.specs.Runs.{fails}
use Rattle.nn_bytes.proofs.Bytewise.{at_most, masked}
use Rattle.nn_bytes.proofs.digits.others.Goals as goal

pub returns : goal.returns
returns c =
    let v = c.args.block in
    let long = c.requires in
    let above : ℕ → ℕ = λ a. (a + (256 - 48)) % 256 in
    let moved = zip2_splat (λ a b. (a + (256 - b)) % 256) v 16 48 long in
    let high = ap (zip2 at_most (replicate 16 10)) moved ∙ zip2_splat_left at_most 10 16 (map above v) (length-map v above ∙ long) ∙ map-map (at_most 10) above v in
    masked _ (fails is_ascii_digit) v _ (omega (arith, long)) c.fits-block.1 high tt
