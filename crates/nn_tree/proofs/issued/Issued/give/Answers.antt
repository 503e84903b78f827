use Rattle.std.proofs.Common.{◌≡◌, not, ap, sym, subst, ◌∙◌}
use Rattle.std.specs.Prelude.{filter, ◌==◌}
use Rattle.std.specs.List.Sorted.{IsStrictlySortedBy}
use Rattle.std.specs.Ordering.{nat_cmp}
use Rattle.nn_tree.proofs.Waiting.{without_id}
use Rattle.nn_tree.proofs.issued.Issued.give.Goals as goal

pub returns : goal.returns
returns c =
    let i = c.self.inside in
    let sorted : IsStrictlySortedBy nat_cmp i.awaiting.keys = subst (λ ks. IsStrictlySortedBy nat_cmp ks) (sym (ap (λ s. s.awaiting) c.self.view_is)) c.requires in
    let keys : c.remove-waited.new.self.keys ≡ filter (λ k. not (k == c.args.id)) i.awaiting.keys =
    c.remove-waited.ensures.keys ∙ without_id i.awaiting.keys c.args.id sorted in
    (λ j. record { last_block = i.last_block; last_stamp = i.last_stamp; awaiting = keys j; profile = i.profile })
    ∙ ap (λ s. record { last_block = s.last_block; last_stamp = s.last_stamp; awaiting = filter (λ k. not (k == c.args.id)) s.awaiting; profile = s.profile }) c.self.view_is
