use Rattle.std.proofs.Common.{◌≡◌, ◌-◌, ◌<◌, ◌∷◌, List, ℕ, map, take, subst, ap, ◌∙◌, arith}
use Rattle.std.specs.Prelude.{flat_map}
use Rattle.nn_types.specs.declared.report.Message.{Message}
use Rattle.nn_device.specs.Page.{PutsAllBut}
use Rattle.nn_device.proofs.Pages.{one_more}
use Rattle.nn_live.specs.Answers.{held_line}
use Rattle.nn_live.proofs.Pieces.{one_line}
use Rattle.nn_live.proofs.service.answers.put_first.Goals as goal

pub held-preserved : goal.held-preserved
held-preserved g c =
    let m = c.in-Some.message in
    let some : 0 < c.held.left = omega (arith, c.held-test.true) in
    let lines : List Message → ℕ → List ℕ = λ ms n. flat_map (λ line. line) (take n (map held_line ms)) in
    let next : c.held.held ≡ m ∷ c.next.new.self = c.in-Some.ensures.steps in
    let is = ap (λ (ms : List Message). lines ms c.held.left) next ∙ one_line c.held.left m c.next.new.self some in
    one_more (lines c.args.held c.args.most) (held_line m) (lines c.next.new.self (c.held.left - 1)) c.args.page.now c.held.page c.put_held.new.page c.args.writer.now c.held.writer c.put_held.new.writer
    (subst (λ text. PutsAllBut (lines c.args.held c.args.most) text c.args.page.now c.args.writer.now c.held.page c.held.writer) is c.held.invariant) c.put_held.ensures
