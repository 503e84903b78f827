use Rattle.std.proofs.Common.{◌≡◌, ◌+◌, ◌≤◌, ◌-◌, length, take, drop, ap, ◌∙◌, arith}
use Rattle.std.proofs.lemmas.List.{length-take-le, length-drop}
use Rattle.nn_text.specs.Plain.{is_plain_byte, is_plain}
use Rattle.nn_text.proofs.PlainBlocks.{block_passes, passes_further, passes_to}
use Rattle.nn_text.proofs.plain.is_plain_between.Goals as goal

pub blocks-2-preserved : goal.blocks-2-preserved
blocks-2-preserved c =
    let d = c.args.room.now in
    let at = c.blocks-2.at in
    let fits : at + 16 ≤ length d = omega (arith, c.blocks-2-test.true, c.requires.room) in
    let long : length (take 16 (drop at d)) ≡ 16 = length-take-le 16 (drop at d) (omega (arith, length-drop at d, fits)) in
    let block = block_passes is_plain_byte c.block_at.result c.specials.result (ap length c.block_at.ensures ∙ long) c.specials.ensures (omega (arith, c.if-specials-ne0.false)) in
    record {
      from = omega (arith, c.blocks-2.invariant.from);
      most = omega (arith, c.blocks-2-test.true);
      plain = passes_further is_plain_byte d c.args.start at c.blocks-2.invariant.from c.blocks-2.invariant.plain (rw (← c.block_at.ensures) block);
    }

pub returns : goal.returns
returns c = λ told.
    passes_to is_plain_byte (drop c.args.start c.args.room.now) (c.args.end - c.args.start) (c.blocks-2.at - c.args.start) (omega (arith, c.blocks-2-test.false)) c.blocks-2.invariant.plain
