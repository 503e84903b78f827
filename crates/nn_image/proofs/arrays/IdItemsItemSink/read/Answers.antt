use Rattle.std.proofs.Common.{Some, option_map, sym, ap, ◌∙◌}
use Rattle.nn_image.specs.Arrays.{awaiting_from, awaiting_of}
use Rattle.nn_image.proofs.ItemReads.{none_more, none_own, own_more}
use Rattle.nn_image.proofs.arrays.IdItemsItemSink.read.Goals as goal

pub returns-in_default-clause-ok : goal.returns-in_default-clause-ok
returns-in_default-clause-ok c =
    let found = c.in_ok-value.ensures.ok in
    (found.0, found.1, λ ds old. ap (option_map (λ v. v.items)) c.take.ensures.after ∙ sym (none_more awaiting_of ds found.0 (sym old ∙ ap (option_map (λ v. v.items)) (sym c.take.ensures.value ∙ c.in_default.is))))

pub returns-in_default-awaiting_from-clause-ok : goal.returns-in_default-awaiting_from-clause-ok
returns-in_default-awaiting_from-clause-ok c =
    let found = c.in_ok-value.ensures.ok in
    let is = ap awaiting_from (sym (c.whole_of.ensures found.0 found.2)) ∙ sym c.awaiting_from.ensures ∙ c.in_default-awaiting_from.is in
    (found.0, found.1, λ ds old. ap (option_map (λ v. v.items)) c.take.ensures.after ∙ sym (none_own awaiting_of ds found.0 is))

pub returns-clause-ok : goal.returns-clause-ok
returns-clause-ok c =
    let found = c.in_ok-value.ensures.ok in
    let is = ap awaiting_from (sym (c.whole_of.ensures found.0 found.2)) ∙ sym c.awaiting_from.ensures ∙ c.in-Some-awaiting_from.is in (
      found.0,
      found.1,
      λ ds old. ap Some c.in-Ok.ensures.items
          ∙ sym (own_more awaiting_of ds found.0 c.in-Some.ids.items c.in-Some-awaiting_from.id (sym old ∙ ap (option_map (λ v. v.items)) (sym c.take.ensures.value ∙ c.in-Some.is)) is),
    )
