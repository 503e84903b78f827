use Rattle.std.proofs.Common.{◌≡◌, take}
use Rattle.nn_text.specs.Plain.{is_plain}
use Rattle.nn_text.proofs.plain.is_plain.Given as goal

-- whether the bytes so far are plain
abbrev pub invariant-loop-b : goal.invariant-loop-b
invariant-loop-b l = l.plain ≡ is_plain (take l.b-index l.name)
