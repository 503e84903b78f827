use Rattle.std.proofs.Common.{◌≡◌, ◌≤◌, false, List, sym, subst, ap, ◌∙◌, arith}
use Rattle.std.specs.Prelude.{drop}
use Rattle.std.specs.List.{insert}
use Rattle.nn_live.specs.Serving.{Ascends, starts_with}
use Rattle.nn_live.specs.declared.full.FullReport.{FullReport}
use Rattle.nn_live.proofs.Filling.{room_ordered}
use Rattle.nn_live.proofs.full.FullReports.reserve.Goals as goal

pub invariant_of-self-2 : goal.invariant_of-self-2
invariant_of-self-2 c =
    let reports = c.args.self.now in
    let place = c.place_of-place.result in
    let dn = c.args.dn in
    let low : 1 ≤ dn = c.requires (grind (arith, c.if-not-fills.false)) in
    let isnt : starts_with dn (drop place reports) ≡ false = sym c.if-is_at.ensures in
    let all : Ascends 1 reports = subst (Ascends 1) c.self.view_is c.self.invariant in
    let made = room_ordered dn place reports c.place_of-place.ensures false isnt 1 low all in
    subst (Ascends 1) (sym (c.in-Ok.ensures.items ∙ ap (λ (xs : List FullReport). insert xs place (record { dn = dn; there = false })) c.self.view_is)) made
