use Rattle.std.proofs.Common.{◌≡◌, ◌++◌, rules, sym, subst, ◌∙◌}
use Rattle.std.specs.Prelude.{T}
use Rattle.std.specs.FinMap.Entries.{is_sorted}
use Rattle.std.specs.Ordering.{nat_cmp}
use Rattle.std.proofs.lemmas.List.Sorted.{answers_always}
use Rattle.nn_shadow.specs.Notes.{with_notes, merged}
use Rattle.nn_shadow.proofs.Sorting.{merged_notes, notes_sorted}
use Rattle.nn_shadow.proofs.had.settle.Goals as goal

all_is : (c : goal.After-clear) → c.merge.new.all.items ≡ with_notes c.args.has.now.items c.args.told.now.items
all_is c =
    c.merge.ensures
    ∙ (λ j. (c.in-Ok.ensures.items ∙ c.new-all.ensures.items) j ++ merged (c.as_slice.ensures.value j) (c.as_slice-2.ensures.value j))
    ∙ merged_notes c.args.has.now.items c.args.told.now.items c.sort_by_key.new.self.items c.requires.sorted
    (c.in-Ok-sort_by_key.ensures.sorted (λ note. note.0) (answers_always _ _ _ (λ f a r g h. search rules)))
    (c.in-Ok-sort_by_key.ensures.stable (λ note. note.0) (answers_always _ _ _ (λ f a r g h. search rules)))

pub returns-clause-has : goal.returns-clause-has
returns-clause-has c = all_is c

pub returns-clause-sorted : goal.returns-clause-sorted
returns-clause-sorted c = subst (λ l. T (is_sorted nat_cmp l)) (sym (all_is c)) (notes_sorted c.args.has.now.items c.args.told.now.items c.requires.sorted)
