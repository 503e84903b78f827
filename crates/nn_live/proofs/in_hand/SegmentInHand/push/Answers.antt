use Rattle.std.proofs.Common.{◌∷◌, [], ◌++◌, List, sym, subst, ap, ◌∙◌}
use Rattle.nn_types.specs.declared.tx.Tx.{Tx}
use Rattle.nn_scenario.specs.Cut.{EditLine}
use Rattle.nn_live.specs.Serving.{HasPart, part_alone}
use Rattle.nn_live.specs.contracts.in_hand.SegmentInHand.{the_view as kept_of}
use Rattle.nn_live.proofs.SegmentInHand.{one_more_edit, too_long}
use Rattle.nn_live.proofs.in_hand.SegmentInHand.push.Goals as goal

pub returns-then-is_too_long-clause-ok : goal.returns-then-is_too_long-clause-ok
returns-then-is_too_long-clause-ok c = λ part keeps.
    let line : EditLine = record { text = c.args.text.now; tx = c.args.tx } in
    let has = subst (HasPart part) (sym c.self.view_is) keeps in
    let check = c.push.ensures.of (part_alone part) has.check in
    one_more_edit part line (kept_of c.self.inside) c.push.new.self c.clear.new.self.items has check (λ short same. absurd (too_long part line c.push.new.self check c.if-is_too_long.ensures short))

pub returns-else-is_too_long-clause-ok : goal.returns-else-is_too_long-clause-ok
returns-else-is_too_long-clause-ok c = λ part keeps.
    let line : EditLine = record { text = c.args.text.now; tx = c.args.tx } in
    let has = subst (HasPart part) (sym c.self.view_is) keeps in
    let check = c.push.ensures.of (part_alone part) has.check in
    one_more_edit part line (kept_of c.self.inside) c.push.new.self c.push_reserved.new.self.items has check (λ short same.
    (c.push_reserved.ensures.items ∙ ap (λ (ts : List Tx). ts ++ c.args.tx ∷ []) (c.in_default.ensures.items ∙ same)))
