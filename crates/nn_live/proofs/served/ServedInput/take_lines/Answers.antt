use Rattle.std.proofs.Common.{◌≡◌, [], ◌∷◌, ◌++◌, ◌+◌, length, sym, subst, ap, arith}
use Rattle.nn_device.proofs.Pages.{puts_both, puts_nothing}
use Rattle.nn_input.specs.Cut.{HasCome, ahead}
use Rattle.nn_scenario.proofs.FollowLemmas.{of_some}
use Rattle.nn_types.specs.Limits.{max_line}
use Rattle.nn_live.specs.Served.{HasServed, ServedInput, TakesLines}
use Rattle.nn_live.proofs.ServedLines.{cut_on, line_left, line_taken, rest_left, then_left, then_taken}
use Rattle.nn_live.proofs.served.ServedInput.take_lines.Goals as goal

pub returns-in_default-clause-prefix : goal.returns-in_default-clause-prefix
returns-in_default-clause-prefix g c =
    let was = c.lines.invariant in
    let mid : ServedInput = record { service = c.self.inside.service; lines = c.self.inside.lines } in
    let taken : TakesLines c.args.self.now mid was.0 = subst (λ (x : ServedInput). TakesLines c.args.self.now x was.0) (sym c.self.view_is) was.2 in
    let some : ahead c.self.inside.lines ≡ [] → ⊥ = λ none. omega (arith, c.lines-test.true, c.left.ensures.left, ap length none) in (
      was.0 ++ [],
      puts_both was.0 [] _ _ _ _ _ _ was.1 (puts_nothing c.lines.page c.lines.writer),
      then_left c.args.self.now mid was.0 [] taken (λ asked first bytes told h. rest_left asked first bytes told mid h some),
    )

pub returns-in_default-found-clause-ok : goal.returns-in_default-found-clause-ok
returns-in_default-found-clause-ok g c =
    let was = c.lines.invariant in
    let mid : ServedInput = record { service = c.self.inside.service; lines = c.self.inside.lines } in
    let taken : TakesLines c.args.self.now mid was.0 = subst (λ (x : ServedInput). TakesLines c.args.self.now x was.0) (sym c.self.view_is) was.2 in
    let cut = c.in-Ok.ensures.none c.in_default-found.is in (
      was.0,
      was.1,
      λ asked first bytes told h. cut_on asked first bytes (told ++ was.0) mid (taken asked first bytes told h) c.cut.new.self cut.0,
    )

pub take_line-requires-clause-line : goal.take_line-requires-clause-line
take_line-requires-clause-line g c =
    let was = c.lines.invariant in
    let come = subst (λ (x : ServedInput). HasCome (max_line + 1) was.3 was.4 x.lines) (sym c.self.view_is) was.5 in
    let ended = of_some _ c.in-Some.is c.in-Ok.ensures.line was.3 was.4 come in
    (ended.line, ended.unbroken, ended.text)

pub returns-in-Err-clause-prefix : goal.returns-in-Err-clause-prefix
returns-in-Err-clause-prefix g c =
    let was = c.lines.invariant in
    let mid : ServedInput = record { service = c.self.inside.service; lines = c.self.inside.lines } in
    let taken : TakesLines c.args.self.now mid was.0 = subst (λ (x : ServedInput). TakesLines c.args.self.now x was.0) (sym c.self.view_is) was.2 in
    let broke = c.in-Err.ensures.prefix in (
      was.0 ++ broke.0,
      puts_both was.0 broke.0 _ _ _ _ _ _ was.1 broke.1,
      then_left c.args.self.now mid was.0 broke.0 taken (λ asked first bytes told h.
          let ended = of_some _ c.in-Some.is c.in-Ok.ensures.line bytes h.lines h.come in
          line_left asked first bytes told mid h c.in-Some.place c.cut.new.self ended broke.0 (broke.2 ended.line ended.text)),
    )

pub lines-preserved : goal.lines-preserved
lines-preserved g c =
    let was = c.lines.invariant in
    let mid : ServedInput = record { service = c.self.inside.service; lines = c.self.inside.lines } in
    let taken : TakesLines c.args.self.now mid was.0 = subst (λ (x : ServedInput). TakesLines c.args.self.now x was.0) (sym c.self.view_is) was.2 in
    let new = c.take_line.new.self in
    let same = c.take_line.ensures.lines in
    let step = c.in_default-take_line.ensures.ok in
    let come = subst (λ (x : ServedInput). HasCome (max_line + 1) was.3 was.4 x.lines) (sym c.self.view_is) was.5 in
    let last = of_some _ c.in-Some.is c.in-Ok.ensures.line was.3 was.4 come in
    let one : TakesLines mid new step.0 = λ asked first bytes told h.
    let ended = of_some _ c.in-Some.is c.in-Ok.ensures.line bytes h.lines h.come in
    subst (λ l. HasServed asked first bytes (told ++ step.0) (record { service = new.service; lines = l })) (sym same)
    (line_taken asked first bytes told mid h c.in-Some.place c.cut.new.self ended step.0 new.service (step.2 ended.line ended.text)) in (
      was.0 ++ step.0,
      puts_both was.0 step.0 _ _ _ _ _ _ was.1 step.1,
      then_taken c.args.self.now mid new was.0 step.0 taken one,
      was.3,
      was.4 ++ last.line ∷ [],
      subst (λ l. HasCome (max_line + 1) was.3 (was.4 ++ last.line ∷ []) l) (sym same) last.come,
    )
