use Rattle.std.proofs.Common.{ltb-true}
use Rattle.nn_live.proofs.WordTexts.{begins, no_word}
use Rattle.nn_live.proofs.word.is_object.Goals as goal

pub returns-in-Some : goal.returns-in-Some
returns-in-Some c above =
    let line = c.args.line.now in
    let first = c.in-Some.first.now in
    let is = begins line first c.in-Some.ensures.value in
    no_word line first is.0 is.1 (ltb-true 122 first above)
