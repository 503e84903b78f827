use Rattle.std.proofs.Common.{◌≡◌, ◌<◌, ◌+◌, [], ◌∷◌, ◌++◌, List, sym, subst, ap, ◌∙◌, arith, append_assoc, length-append}
use Rattle.std.proofs.lemmas.List.Elements.{All-push}
use Rattle.nn_live.specs.Serving.{Ascends}
use Rattle.nn_live.specs.declared.full.FullReport.{FullReport}
use Rattle.nn_live.proofs.full.FullReports.place_of.Goals as goal

pub reports-preserved : goal.reports-preserved
reports-preserved c =
    let was = c.reports.invariant in
    let x = c.in-Some.first.now in
    let later = c.in-Some.later.now in
    let cut : c.reports.rest.now ≡ x ∷ later = grind arith in
    let low : x.dn < c.args.dn = omega (arith, c.if-first-dn.false) in (
      was.0 ++ x ∷ [],
      was.1 ∙ ap (λ (r : List FullReport). was.0 ++ r) cut ∙ sym (append_assoc was.0 (x ∷ []) later),
      omega (arith, length-append was.0 (x ∷ []), was.2),
      All-push (λ (y : FullReport). y.dn < c.args.dn) was.0 x was.3 low,
      x.dn + 1,
      (subst (Ascends was.4) cut was.5).1,
    )
