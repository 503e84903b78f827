use Rattle.std.proofs.Common.{◌<◌, ◌≤◌, ◌+◌, ◌^◌, ◌∙◌, inr, length, sym, arith}
use Rattle.nn_input.specs.Cut.{NextEnded, ahead}
use Rattle.nn_image.proofs.LoadedLines.{all_loaded, ends_soon, line_loaded, line_stops, none_loaded, none_loads, stops_there, whole}
use Rattle.nn_image.proofs.restoring.load_image.Goals as goal

pub lines-init : goal.lines-init
lines-init g c = rw c.new-loading.ensures (none_loaded c.args.reader.now c.in_ok-lines.lines c.in_ok-lines.ensures.none)

pub returns-in_default-clause-ok : goal.returns-in_default-clause-ok
returns-in_default-clause-ok g c =
    let bounded : c.next.new.input.given < 2 ^ 62 + 2 ^ 63 = omega (arith, c.given-recalled.ensures.given, c.given-recalled.ensures.bounded) in
    let at_end = c.in_ok-found.ensures.whole c.in_default.is in
    all_loaded c.args.reader.now c.lines.reader c.next.new.input c.lines.lines c.next.new.self c.lines.loading c.torn.result.now bounded c.lines.invariant (c.in_ok-found.ensures.end c.in_default.is) at_end.0 at_end.1 c.torn.ensures
    c.end.result c.end.ensures.loaded

pub returns-in_default-clause-fault : goal.returns-in_default-clause-fault
returns-in_default-clause-fault g c =
    let bounded : c.next.new.input.given < 2 ^ 62 + 2 ^ 63 = omega (arith, c.given-recalled.ensures.given, c.given-recalled.ensures.bounded) in
    let at_end = c.in_ok-found.ensures.whole c.in_default.is in
    none_loads c.args.reader.now c.lines.reader c.next.new.input c.lines.lines c.next.new.self c.lines.loading c.torn.result.now bounded c.lines.invariant (c.in_ok-found.ensures.end c.in_default.is) at_end.0 at_end.1 c.torn.ensures
    c.end.result c.end.ensures.loaded

pub returns-in_default-clause-soon : goal.returns-in_default-clause-soon
returns-in_default-clause-soon g c =
    let bounded : c.next.new.input.given < 2 ^ 62 + 2 ^ 63 = omega (arith, c.given-recalled.ensures.given, c.given-recalled.ensures.bounded) in
    let at_end = c.in_ok-found.ensures.whole c.in_default.is in
    ends_soon c.args.reader.now c.lines.reader c.next.new.input c.lines.lines c.next.new.self c.lines.loading c.torn.result.now bounded c.lines.invariant (c.in_ok-found.ensures.end c.in_default.is) at_end.0 at_end.1 c.torn.ensures
    c.end.result c.end.ensures.loaded

pub returns-in-Some-fault-clause-fault : goal.returns-in-Some-fault-clause-fault
returns-in-Some-fault-clause-fault g c =
    let bounded : c.next.new.input.given < 2 ^ 62 + 2 ^ 63 = omega (arith, c.given-recalled.ensures.given, c.given-recalled.ensures.bounded) in
    let next : NextEnded whole c.lines.reader c.next.new.input c.lines.lines c.next.new.self c.in-Some.place = rw c.in-Some.is at c.in_ok-found.ensures.line in
    line_stops c.args.reader.now c.lines.reader c.next.new.input c.lines.lines c.next.new.self c.in-Some.place c.lines.loading c.push.new.self c.text.result.now bounded c.lines.invariant next c.text.ensures.text c.in_ok-push.ensures.taken
    c.in-Some-fault.fault (sym c.fault.ensures.fault ∙ c.in-Some-fault.is)

pub returns-in-Some-fault-clause-soon : goal.returns-in-Some-fault-clause-soon
returns-in-Some-fault-clause-soon g c =
    let bounded : c.next.new.input.given < 2 ^ 62 + 2 ^ 63 = omega (arith, c.given-recalled.ensures.given, c.given-recalled.ensures.bounded) in
    let next : NextEnded whole c.lines.reader c.next.new.input c.lines.lines c.next.new.self c.in-Some.place = rw c.in-Some.is at c.in_ok-found.ensures.line in
    let few : length (ahead c.next.new.self) ≤ 2 ^ 16 = rw c.in-Some.is at c.in_ok-found.ensures.few in
    inr
    (inr
    (stops_there c.args.reader.now c.lines.reader c.next.new.input c.lines.lines c.next.new.self c.in-Some.place c.lines.loading c.push.new.self c.text.result.now bounded c.lines.invariant next c.text.ensures.text c.in_ok-push.ensures.taken
    c.in-Some-fault.fault (sym c.fault.ensures.fault ∙ c.in-Some-fault.is) few))

pub lines-preserved : goal.lines-preserved
lines-preserved g c =
    let bounded : c.next.new.input.given < 2 ^ 62 + 2 ^ 63 = omega (arith, c.given-recalled.ensures.given, c.given-recalled.ensures.bounded) in
    let next : NextEnded whole c.lines.reader c.next.new.input c.lines.lines c.next.new.self c.in-Some.place = rw c.in-Some.is at c.in_ok-found.ensures.line in
    line_loaded c.args.reader.now c.lines.reader c.next.new.input c.lines.lines c.next.new.self c.in-Some.place c.lines.loading c.push.new.self c.text.result.now bounded c.lines.invariant next c.text.ensures.text c.in_ok-push.ensures.taken
    (sym c.fault.ensures.fault ∙ c.in_default-fault.is)
