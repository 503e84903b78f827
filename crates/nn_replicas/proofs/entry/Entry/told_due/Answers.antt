use Rattle.std.proofs.Common.{cond, sym, ap, ◌∙◌}
use Rattle.nn_replicas.specs.declared.entry.Told.TheVariants.{Room}
use Rattle.nn_replicas.specs.Entry.{told_by}
use Rattle.nn_replicas.specs.Calls.{reaches}
use Rattle.nn_replicas.proofs.entry.Entry.told_due.Goals as goal

pub returns-then-not-reaches : goal.returns-then-not-reaches
returns-then-not-reaches c =
    let h = sym (c.reaches.ensures ∙ ap (λ o. reaches o c.args.stamp) c.stamp.ensures) ∙ c.if-not-reaches.true in
    ap (λ b. cond b (told_by c.args.replica) Room) (sym h)

pub returns : goal.returns
returns c =
    let h = sym (c.reaches.ensures ∙ ap (λ o. reaches o c.args.stamp) c.stamp.ensures) ∙ c.if-not-reaches.false in
    c.told_by.ensures ∙ ap (λ b. cond b (told_by c.args.replica) Room) (sym h)
