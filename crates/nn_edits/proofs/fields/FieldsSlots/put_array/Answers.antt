use Rattle.std.proofs.Common.{◌≡◌, Some, None, refl, sym, ap, ap₂, ◌∙◌, arith}
use Rattle.serde_json.specs.Data.{array, object}
use Rattle.nn_edits.specs.Parts.{parts_of, slot_of, put_if_slot, put_blocks, number_of_value, text_of_value, text_fault, put_number, put_text}
use Rattle.nn_edits.specs.declared.keys.Slot.TheVariants.{Number, Text, Blocks}
use Rattle.nn_edits.proofs.Asked.{parts_put}
use Rattle.nn_edits.proofs.PlainValues.{blocks_read}
use Rattle.nn_edits.proofs.fields.FieldsSlots.put_array.Goals as goal

pub returns-in_default : goal.returns-in_default
returns-in_default c = λ k ms ds named spelled old.
    let d = array ds in
    let found : slot_of k ≡ None = grind (arith, named) in
    old ∙ ap (λ o. put_if_slot o d (parts_of (object ms))) (sym found) ∙ sym (parts_put k d ms)

pub returns-in-Number : goal.returns-in-Number
returns-in-Number c = λ k ms ds named spelled old.
    let d = array ds in
    let found : slot_of k ≡ Some (Number c.in-Number.number) = grind (arith, named) in
    c.put_number.ensures d refl ∙ ap (put_number c.in-Number.number (number_of_value d)) old
    ∙ ap (λ o. put_if_slot o d (parts_of (object ms))) (sym found) ∙ sym (parts_put k d ms)

pub returns-in-Text : goal.returns-in-Text
returns-in-Text c = λ k ms ds named spelled old.
    let d = array ds in
    let key = c.in-Text.text in
    let found : slot_of k ≡ Some (Text key) = grind (arith, named) in
    c.put_text.ensures d refl ∙ ap (put_text key (text_of_value (text_fault key) d)) old
    ∙ ap (λ o. put_if_slot o d (parts_of (object ms))) (sym found) ∙ sym (parts_put k d ms)

pub returns-in-Blocks : goal.returns-in-Blocks
returns-in-Blocks c = λ k ms ds named spelled old.
    let d = array ds in
    let found : slot_of k ≡ Some Blocks = grind (arith, named) in
    c.put_blocks.ensures ∙ ap₂ put_blocks (sym (blocks_read ds c.args.blocks spelled c.recall_invariant.ensures)) old
    ∙ ap (λ o. put_if_slot o d (parts_of (object ms))) (sym found) ∙ sym (parts_put k d ms)
