use Rattle.std.proofs.Common.{◌≡◌, ◌+◌, ◌<◌, length, drop, ap, ◌∙◌, arith}
use Rattle.std.specs.List.{prefix_len}
use Rattle.nn_plain.specs.Bytes.{is_no_quote}
use Rattle.nn_plain.proofs.Quoted.{in_block, quote_there}
use Rattle.nn_plain.proofs.text.near_quote.Goals as goal

near : (c : goal.Else-run-eq16) → c.args.from + 1 + c.run_in_16-run.result ≡ c.args.from + 1 + prefix_len is_no_quote (drop (c.args.from + 1) c.args.text.now)
near c =
    let run = c.run_in_16-run.ensures.run in
    let less : c.run_in_16-run.result < 16 = omega (arith, c.run_in_16-run.ensures.bound, c.if-run-eq16.false) in
    ap (λ n. c.args.from + 1 + n) (run ∙ in_block is_no_quote c.args.text.now (c.args.from + 1) (omega (arith, c.requires)) (omega (arith, less, run)))

pub returns-clause-plain : goal.returns-clause-plain
returns-clause-plain c = near c

pub returns-clause-quotes : goal.returns-clause-quotes
returns-clause-quotes c =
    let within : c.args.from + 1 + c.run_in_16-run.result < length c.args.text.now = omega (arith, c.run_in_16-run.ensures.bound, c.if-run-eq16.false, c.requires) in
    (c.if-text-from-ne34.false, quote_there c.args.text.now (c.args.from + 1) _ (near c) within)
