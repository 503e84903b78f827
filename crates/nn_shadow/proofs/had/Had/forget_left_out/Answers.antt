use Rattle.std.proofs.Common.{◌≡◌, ◌≤◌, rules, sym, ap, subst, ◌∙◌, arith}
use Rattle.std.specs.Prelude.{T, vec_len, nat_le, filter}
use Rattle.std.specs.FinMap.Entries.{is_sorted}
use Rattle.std.specs.Ordering.{nat_cmp}
use Rattle.std.proofs.lemmas.Bool.{eqb-true}
use Rattle.std.proofs.lemmas.Fn.{filter_same}
use Rattle.nn_shadow.specs.Notes.{Notes, node_state_of, most_told}
use Rattle.nn_shadow.proofs.Forgetting.{sorted_filter, none_waits, forgotten}
use Rattle.nn_shadow.proofs.had.Had.forget_left_out.Goals as goal

kept_is : (c : goal.After-retain) → c.retain.new.self.items ≡ filter (λ had. nat_le c.in-Some.begin had.1) c.self.inside.has.items
kept_is c = filter_same _ (λ had. nat_le c.in-Some.begin had.1) _ (λ x b f k. search rules) c.self.inside.has.items c.retain.new.self.items c.retain.ensures.filtered

no_notes : (c : goal.After-retain) → vec_len c.self.inside.told ≡ 0
no_notes c = eqb-true (vec_len c.self.inside.told) 0 (ap (λ (n : Notes). n.settled) c.self.view_is ∙ c.requires.settled)

pub invariant_of-self : goal.invariant_of-self
invariant_of-self c = record {
  sorted = subst (λ l. T (is_sorted nat_cmp l)) (sym (kept_is c)) (sorted_filter (λ had. nat_le c.in-Some.begin had.1) c.self.inside.has.items c.self.invariant.sorted);
  few = subst (λ n. n ≤ most_told (vec_len c.retain.new.self)) (sym (no_notes c)) (omega arith);
}

pub returns : goal.returns
returns c = λ finish. forgotten c.in-Some.begin finish c.self.inside.has.items c.self.inside.told.items c.retain.new.self.items c.self.inside.begun c.args.self.now.having
    c.in-Some.is c.self.invariant.sorted (none_waits c.self.inside.told.items (sym c.self.inside.told.ok.0 ∙ no_notes c)) (kept_is c) (ap node_state_of c.self.view_is)
