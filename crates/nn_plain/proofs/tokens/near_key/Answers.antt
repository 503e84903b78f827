use Rattle.std.proofs.Common.{◌≡◌, ◌+◌, length, take, drop, ap, arith}
use Rattle.nn_plain.proofs.KeyWords.{behind_quote}
use Rattle.nn_plain.proofs.Quoted.{behind_quotes}
use Rattle.nn_plain.proofs.tokens.near_key.Goals as goal

pub returns-clause-here : goal.returns-clause-here
returns-clause-here c = (c.in_ok-start.start, c.in_ok-start.ensures.begins, c.in_ok-key.ensures.here)

pub bounds-bytes-colon : goal.bounds-bytes-colon
bounds-bytes-colon c =
    let found = c.in_ok-key in
    let place = behind_quotes c.args.text.now found.key.now c.in_ok-start.start found.colon found.ensures.bound.1 found.ensures.here in
    omega (arith, place, c.if-key-gt8.false, c.in_ok-start.ensures.bound, ap length c.as_bytes-bytes.ensures.value)

pub returns-clause-colon : goal.returns-clause-colon
returns-clause-colon c = rw (← c.as_bytes-bytes.ensures.value) c.if-bytes-colon-ne58.false

pub returns-clause-word : goal.returns-clause-word
returns-clause-word c =
    let key = c.in_ok-key.key.now in
    let here : take (length key) (drop (c.in_ok-start.start + 1) c.as_bytes-bytes.result.now) ≡ key = rw (c.as_bytes-bytes.ensures.value) (behind_quote c.args.text.now key _ c.in_ok-start.start c.in_ok-key.ensures.here) in
    c.word_of_block-word.ensures key here (omega (arith, c.if-key-gt8.false))
