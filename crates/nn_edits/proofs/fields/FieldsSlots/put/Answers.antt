use Rattle.std.proofs.Common.{◌≡◌, Some, None, sym, ap, ap₂, ◌∙◌, arith}
use Rattle.serde_json.specs.Data.{object}
use Rattle.nn_edits.specs.Parts.{parts_of, slot_of, put_if_slot, put_blocks, number_of_value, text_of_value, text_fault, put_number, put_text}
use Rattle.nn_edits.specs.declared.keys.Slot.TheVariants.{Number, Text, Blocks}
use Rattle.nn_edits.proofs.Asked.{parts_put}
use Rattle.nn_edits.proofs.PlainValues.{spells_plain, no_blocks_read}
use Rattle.nn_edits.proofs.fields.FieldsSlots.put.Goals as goal

pub returns-in_default : goal.returns-in_default
returns-in_default c = λ k ms d named spelled old.
    let found : slot_of k ≡ None = grind (arith, named) in
    old ∙ ap (λ o. put_if_slot o d (parts_of (object ms))) (sym found) ∙ sym (parts_put k d ms)

pub returns-in-Number : goal.returns-in-Number
returns-in-Number c = λ k ms d named spelled old.
    let found : slot_of k ≡ Some (Number c.in-Number.number) = grind (arith, named) in
    c.put_number.ensures d (spells_plain d c.args.value spelled) ∙ ap (put_number c.in-Number.number (number_of_value d)) old
    ∙ ap (λ o. put_if_slot o d (parts_of (object ms))) (sym found) ∙ sym (parts_put k d ms)

pub returns-in-Text : goal.returns-in-Text
returns-in-Text c = λ k ms d named spelled old.
    let key = c.in-Text.text in
    let found : slot_of k ≡ Some (Text key) = grind (arith, named) in
    c.put_text.ensures d (spells_plain d c.args.value spelled) ∙ ap (put_text key (text_of_value (text_fault key) d)) old
    ∙ ap (λ o. put_if_slot o d (parts_of (object ms))) (sym found) ∙ sym (parts_put k d ms)

pub returns-in-Blocks : goal.returns-in-Blocks
returns-in-Blocks c = λ k ms d named spelled old.
    let found : slot_of k ≡ Some Blocks = grind (arith, named) in
    c.put_blocks.ensures ∙ ap₂ put_blocks (sym (no_blocks_read d c.args.value spelled)) old
    ∙ ap (λ o. put_if_slot o d (parts_of (object ms))) (sym found) ∙ sym (parts_put k d ms)
