use Rattle.std.proofs.Common.{◌≤◌, ◌<◌, ℕ, length, get_or, sym, ap, subst, ◌∙◌, nat_eq}
use Rattle.nn_replicas.specs.declared.entry.Cell.{Cell}
use Rattle.nn_replicas.proofs.Scanned.{here_at, not_here}
use Rattle.nn_replicas.proofs.entry.has_cell.Goals as goal

pub returns-in-None : goal.returns-in-None
returns-in-None c = sym (not_here c.args.dn c.args.slots.now (subst (λ (k : ℕ). length c.args.slots.now ≤ k) c.requires c.in-None.ensures.lookup.3))

pub returns-in-Some : goal.returns-in-Some
returns-in-Some c =
    let h = c.in-Some.ensures.lookup.3 in
    ap (λ d. nat_eq d c.args.dn) c.dn.ensures ∙ ap (λ (x : ℕ × Cell). nat_eq x.0 c.args.dn) (h.1 c.in-Some.slot.now ∙ ap (λ k. get_or c.args.slots.now k c.in-Some.slot.now) c.requires)
    ∙ here_at c.args.dn c.args.slots.now c.in-Some.slot.now (subst (λ (k : ℕ). k < length c.args.slots.now) c.requires h.0)
