use Rattle.std.proofs.Common.{rules, ◌≡◌, ◌+◌, ◌-◌, ◌≤◌, length, take, drop, ◌++◌, sym, ap, ◌∙◌, subst, arith, length-drop}
use Rattle.std.proofs.Math.Seq.{take-add}
use Rattle.std.proofs.lemmas.List.{take_rest}
use Rattle.std.proofs.KnownBytes.{Appends-trans}
use Rattle.std.specs.Io.KnownBytes.{Appends}
use Rattle.nn_device.proofs.writer.Writer.write_all.Goals as goal

pub writes-preserved : goal.writes-preserved
writes-preserved g c =
    let text = c.args.text.now in
    let at = c.writes.written in
    let n = c.in-Ok.n in
    let rest = take_rest text at in
    let joined : take at text ++ take n (take (length text - at) (drop at text)) ≡ take (at + n) text =
    ap (λ r. take at text ++ take n r) rest ∙ sym (take-add at n text) in
    let bound : n ≤ length (drop at text) = subst (λ r. n ≤ length r) rest c.in-Ok.ensures.bound in
    record {
      within = omega (arith, length-drop at text);
      bytes = subst (Appends _ _) joined (Appends-trans _ _ _ _ _ c.writes.invariant.bytes c.in-Ok.ensures.bytes);
      counted = omega (arith, c.writes.invariant.counted);
      unfailed = c.writes.invariant.unfailed;
      open_before = λ _. sym c.writes.invariant.unfailed ∙ c.if-self.false;
    }

pub returns-then-self-clause-err : goal.returns-then-self-clause-err
returns-then-self-clause-err g c = search rules

pub returns-in-Ok-eq0-clause-err : goal.returns-in-Ok-eq0-clause-err
returns-in-Ok-eq0-clause-err g c = search rules
