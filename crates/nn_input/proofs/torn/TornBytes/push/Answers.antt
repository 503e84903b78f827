use Rattle.std.proofs.Common.{rules, ◌≡◌, ◌-◌, ◌++◌, ◌&&◌, take, length, ap, sym, subst, ◌∙◌}
use Rattle.nn_input.specs.Cut.{KeepsFirst}
use Rattle.nn_input.proofs.Cuts.{keeps_more}
use Rattle.nn_input.proofs.torn.TornBytes.push.Goals as goal

pub returns-clause-ok : goal.returns-clause-ok
returns-clause-ok c torn there =
    let old = c.self.inside.kept.items in
    let bytes = c.args.bytes.now in
    let most = c.args.most in
    let len : c.len.result ≡ length old = search rules in
    keeps_more most torn bytes (record { kept = old; blank = c.self.inside.blank }) _ (subst (KeepsFirst most torn) (sym c.self.view_is) there)
    (c.in_default.ensures.items ∙ ap (λ t. old ++ t) (c.prefix.ensures ∙ ap (λ k. take k bytes) (c.saturating_sub-room.ensures ∙ ap (λ k. most - k) len))) (ap (λ b. c.self.inside.blank && b) c.is_blank.ensures)
