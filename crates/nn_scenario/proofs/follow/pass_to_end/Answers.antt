use Rattle.std.proofs.Common.{◌≡◌, ◌+◌, ◌-◌, ◌++◌, [], arith, length}
use Rattle.std.proofs.lemmas.List.{length-append}
use Rattle.nn_input.specs.Cut.{ahead}
use Rattle.nn_input.proofs.Cuts.{none_came}
use Rattle.nn_types.specs.Limits.{max_input}
use Rattle.nn_scenario.proofs.FollowLemmas.{unread_behind, within_both}
use Rattle.nn_scenario.proofs.follow.pass_to_end.Goals as goal

pub returns-in-Err-clause-why : goal.returns-in-Err-clause-why
returns-in-Err-clause-why g c =
    let start = ahead c.args.lines.now in
    let left = max_input - c.left-room.result in
    let room : left + length (start ++ []) ≡ max_input = omega (arith, c.left-room.ensures.left, c.left-room.ensures.few, length-append start []) in
    unread_behind max_input left start [] c.args.input.now c.args.input.now c.read_to_end.new.input c.in-Err.fault (none_came c.args.input.now) room c.in-Err.ensures.why

pub returns-clause-read : goal.returns-clause-read
returns-clause-read g c =
    let start = ahead c.args.lines.now in
    let left = max_input - c.left-room.result in
    let room : left + length (start ++ []) ≡ max_input = omega (arith, c.left-room.ensures.left, c.left-room.ensures.few, length-append start []) in
    let more = c.in_default.ensures.read in
    (more.0, within_both max_input left start [] more.0 c.args.input.now c.args.input.now c.read_to_end.new.input (none_came c.args.input.now) room more.1)
