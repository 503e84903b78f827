use Rattle.std.proofs.Common.{◌≡◌, ◌+◌, ◌++◌, ℕ, List, sym, subst}
use Rattle.nn_input.specs.Cut.{HasCome, KeepsFirst, Lines}
use Rattle.nn_input.proofs.Cuts.{feed_ahead, kept_line, no_feed_ahead, none_ends}
use Rattle.nn_input.proofs.lines.Lines.cut_torn.Goals as goal

pub returns-then-end-left-clause-none : goal.returns-then-end-left-clause-none
returns-then-end-left-clause-none c = λ _.
    let old : Lines = record { buffer = c.self.inside.buffer.items; from = c.self.inside.from; to = c.self.inside.to; torn = c.self.inside.torn; last = c.self.inside.last } in
    let new : Lines = record { buffer = c.self.inside.buffer.items; from = c.self.inside.to; to = c.self.inside.to; torn = c.push.new.self; last = c.self.inside.last } in
    let most = c.args.most in
    let cut = no_feed_ahead c.self.inside.buffer.items c.deref.result.now c.self.inside.from c.self.inside.to c.deref.ensures.value c.line_end-end.result c.line_end-end.ensures.end c.line_end-end.ensures.within c.if-end-left.true in (
      λ bytes lines h.
          none_ends most bytes lines old new cut.0 cut.2
          (λ torn has. subst (λ (t : List ℕ). KeepsFirst most (torn ++ t) c.push.new.self) cut.1 (c.in_default.ensures.ok torn has)) (subst (HasCome most bytes lines) (sym c.self.view_is) h),
      cut.2,
    )

pub returns-clause-line : goal.returns-clause-line
returns-clause-line c bytes lines h =
    let old : Lines = record { buffer = c.self.inside.buffer.items; from = c.self.inside.from; to = c.self.inside.to; torn = c.self.inside.torn; last = c.self.inside.last } in
    let next = c.self.inside.from + c.line_end-end.result + 1 in
    let new : Lines = record { buffer = c.self.inside.buffer.items; from = next; to = c.self.inside.to; torn = c.clear.new.self; last = c.swap.new.y } in
    let cut = feed_ahead c.self.inside.buffer.items c.deref.result.now c.self.inside.from c.self.inside.to c.deref.ensures.value c.line_end-end.result c.line_end-end.ensures.end c.line_end-end.ensures.within c.if-end-left.false in
    let most = c.args.most in
    let swapped : c.swap.new.y ≡ c.push-2.new.self = c.swap.ensures.y_after in
    kept_line most bytes lines _ old new cut.0 cut.1 c.clear.ensures
    (λ torn has. subst (KeepsFirst most (torn ++ _)) (sym swapped) (c.in_default-push.ensures.ok torn has)) (subst (HasCome most bytes lines) (sym c.self.view_is) h)
