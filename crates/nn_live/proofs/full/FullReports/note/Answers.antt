use Rattle.std.proofs.Common.{◌≡◌, true, false, List, sym, subst, ap, ◌∙◌}
use Rattle.std.specs.Prelude.{drop, get_or, set}
use Rattle.nn_types.specs.declared.report.Kind.TheVariants.{Finish}
use Rattle.nn_live.specs.Live.{full_behind}
use Rattle.nn_live.specs.Serving.{Ascends, full_in, starts_with}
use Rattle.nn_live.specs.declared.full.FullReport.{FullReport}
use Rattle.nn_live.proofs.Filling.{noted, noted_before, noted_ordered, noted_as, none_there, not_noted}
use Rattle.nn_live.proofs.full.FullReports.note.Goals as goal

pub returns-then-not-is_at : goal.returns-then-not-is_at
returns-then-not-is_at c =
    let reports = c.args.self.now in
    let dn = c.args.report.now.dn in
    let place = c.place_of-place.result in
    let isnt : starts_with dn (drop place reports) ≡ false = sym c.if-not-is_at.ensures in
    let none = none_there dn place reports c.place_of-place.ensures false isnt in
    not_noted dn c.args.own c.args.fills c.args.report.now.kind reports c.in-Finish.is none.0 none.1 c.requires

pub invariant_of-self : goal.invariant_of-self
invariant_of-self c =
    let items = c.self.inside.reports.items in
    let reports = c.args.self.now in
    let dn = c.args.report.now.dn in
    let place = c.place_of-place.result in
    let is : starts_with dn (drop place reports) ≡ true = sym c.if-not-is_at.ensures in
    let there = c.stays-there.result in
    let all : Ascends 1 reports = subst (Ascends 1) c.self.view_is c.self.invariant in
    subst (λ (xs : List FullReport). Ascends 1 (set xs place (record { dn = dn; there = there }))) (sym c.self.view_is) (noted_ordered dn place reports c.place_of-place.ensures is there 1 all)

pub returns : goal.returns
returns c = λ k.
    let items = c.self.inside.reports.items in
    let reports = c.args.self.now in
    let dn = c.args.report.now.dn in
    let place = c.place_of-place.result in
    let is : starts_with dn (drop place reports) ≡ true = sym c.if-not-is_at.ensures in
    let there = c.stays-there.result in
    let x = c.index.result.now in
    let before : full_in reports dn ≡ x.there = noted_before dn place reports c.place_of-place.ensures is x ∙ ap (λ (xs : List FullReport). (get_or xs place x).there) (sym c.self.view_is) ∙ ap (λ (y : FullReport). y.there) (sym c.index.ensures) in
    let now : there ≡ full_behind c.args.own Finish c.args.fills (full_in reports dn) = c.stays-there.ensures ∙ ap (full_behind c.args.own Finish c.args.fills) (sym before) in
    ap (λ (xs : List FullReport). full_in (set xs place (record { dn = dn; there = there })) k) c.self.view_is ∙ noted dn place reports c.place_of-place.ensures is there k
    ∙ noted_as dn c.args.own c.args.fills c.args.report.now.kind reports there c.in-Finish.is now k
