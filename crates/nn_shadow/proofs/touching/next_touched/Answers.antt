use Rattle.std.proofs.Common.{None, ap, ◌∙◌, subst, sym}
use Rattle.nn_model.specs.Touched.{changed_ids}
use Rattle.nn_tree.specs.Touched.{touched_of}
use Rattle.nn_shadow.specs.Touching.{lowest, earlier, Rises}
use Rattle.nn_shadow.proofs.Quiet.{next_is}
use Rattle.nn_shadow.proofs.Searching.{ascending_rises, lowest_ascending}
use Rattle.nn_shadow.proofs.touching.next_touched.Goals as goal

pub least_from-changed-requires : goal.least_from-changed-requires
least_from-changed-requires c = subst Rises (sym c.requires.written) (ascending_rises (changed_ids (touched_of c.args.touched.now)))

pub least_from-retired-requires : goal.least_from-retired-requires
least_from-retired-requires c = subst Rises (sym c.as_slice.ensures.value) c.requires.rises

pub returns : goal.returns
returns c =
    next_is (touched_of c.args.touched.now) c.args.from c.args.held.now c.least_from-changed.result c.least_from-retired.result
    c.next_skipped-skipped.result c.earlier-2.result
    (c.least_from-changed.ensures ∙ ap (lowest c.args.from None) c.requires.written ∙ lowest_ascending c.args.from None (changed_ids (touched_of c.args.touched.now)))
    (c.least_from-retired.ensures ∙ ap (lowest c.args.from None) c.as_slice.ensures.value)
    c.next_skipped-skipped.ensures
    (c.earlier-2.ensures ∙ ap (λ o. earlier o c.next_skipped-skipped.result) c.earlier.ensures)
