use Rattle.std.proofs.Common.{rules, ◌∷◌, [], ◌++◌, take, sym, ap, ◌∙◌}
use Rattle.std.proofs.lemmas.List.{take_more}
use Rattle.nn_replicas.specs.Calls.{pair_placed}
use Rattle.nn_shadow.specs.Steps.{all_placed}
use Rattle.nn_shadow.proofs.Rest.{place_more}
use Rattle.nn_shadow.proofs.table.place_all.Goals as goal

pub loop-item-preserved : goal.loop-item-preserved
loop-item-preserved c =
    c.in_ok-place.ensures.ok
    ∙ ap (λ t. pair_placed t c.item-item.result.dn c.item-item.result.block) c.loop-item.invariant
    ∙ sym (place_more c.args.table.now (take c.loop-item.item-index c.args.items.now) c.item-item.result)
    ∙ ap (λ x. all_placed c.args.table.now (take c.loop-item.item-index c.args.items.now ++ x ∷ [])) c.item-item.is
    ∙ ap (all_placed c.args.table.now) (sym (take_more c.args.items.now c.loop-item.item-index c.item-item.result c.loop-item-test.true))

pub returns-in_err-place-clause-err : goal.returns-in_err-place-clause-err
returns-in_err-place-clause-err c = search rules
