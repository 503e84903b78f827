use Rattle.std.proofs.Common.{ℕ, ◌+◌, ◌-◌, ◌%◌, map, ◌∙◌, ap, arith}
use Rattle.std.proofs.lemmas.List.{length-map}
use Rattle.std.proofs.lemmas.Simd.{map-map, zip2_of_maps, zip2_splat, zip2_splat_left}
use lib.Bits.{bit_or}
use lib.Lanes.{zip2}
use lib.ListN.{replicate}
use Rattle.nn_bytes.specs.Runs.{fails}
use Rattle.nn_bytes.proofs.Bytewise.{hit, at_most, masked}
use Rattle.nn_text.specs.Plain.{is_plain_byte}
use Rattle.nn_text.proofs.plain.specials.Goals as goal

pub returns : goal.returns
returns c =
    let v = c.args.block in
    let long = c.requires in
    let above : ℕ → ℕ = λ a. (a + (256 - 32)) % 256 in
    let moved = zip2_splat (λ a b. (a + (256 - b)) % 256) v 16 32 long in
    let control = ap (zip2 at_most (replicate 16 224)) moved ∙ zip2_splat_left at_most 224 16 (map above v) (length-map v above ∙ long) ∙ map-map (at_most 224) above v in
    masked _ (fails is_plain_byte) v _ (omega (arith, long)) c.fits-block.1
    (zip2_of_maps bit_or _ _ v (zip2_of_maps bit_or _ _ v control (zip2_splat hit v 16 34 long)) (zip2_splat hit v 16 92 long)) tt
