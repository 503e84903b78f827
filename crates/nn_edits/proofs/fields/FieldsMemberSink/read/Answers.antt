use Rattle.std.proofs.Common.{◌≡◌, Some, None, sym, ap, ap₂, ◌∙◌, arith}
use Rattle.serde_json.specs.Data.{object}
use Rattle.nn_edits.specs.Parts.{parts_of, slot_of, put_if_slot, put_blocks, number_of_value, text_of_value, text_fault, put_number, put_text}
use Rattle.nn_edits.specs.declared.keys.Slot.TheVariants.{Number, Text, Blocks}
use Rattle.nn_edits.proofs.Asked.{parts_put}
use Rattle.nn_edits.proofs.fields.FieldsMemberSink.read.Goals as goal

pub returns-in_default-clause-ok : goal.returns-in_default-clause-ok
returns-in_default-clause-ok c =
    let k = c.args.key.now in
    let read = c.in_ok-_dropped.ensures.ok in
    let d = read.0 in
    let found : slot_of k ≡ None = grind arith in (
      d,
      read.1,
      λ ms old. old ∙ ap (λ o. put_if_slot o d (parts_of (object ms))) (sym found) ∙ sym (parts_put k d ms),
    )

pub returns-in_ok-value-in-Number-clause-ok : goal.returns-in_ok-value-in-Number-clause-ok
returns-in_ok-value-in-Number-clause-ok c =
    let k = c.args.key.now in
    let read = c.in_ok-value-in-Number.ensures.ok in
    let d = read.0 in
    let found : slot_of k ≡ Some (Number c.in-Number.number) = grind arith in (
      d,
      read.1,
      λ ms old. c.put_number.ensures d read.2 ∙ ap (put_number c.in-Number.number (number_of_value d)) old
          ∙ ap (λ o. put_if_slot o d (parts_of (object ms))) (sym found) ∙ sym (parts_put k d ms),
    )

pub returns-in_ok-value-in-Text-clause-ok : goal.returns-in_ok-value-in-Text-clause-ok
returns-in_ok-value-in-Text-clause-ok c =
    let k = c.args.key.now in
    let read = c.in_ok-value-in-Text.ensures.ok in
    let d = read.0 in
    let key = c.in-Text.text in
    let found : slot_of k ≡ Some (Text key) = grind arith in (
      d,
      read.1,
      λ ms old. c.put_text.ensures d read.2 ∙ ap (put_text key (text_of_value (text_fault key) d)) old
          ∙ ap (λ o. put_if_slot o d (parts_of (object ms))) (sym found) ∙ sym (parts_put k d ms),
    )

pub returns-in_ok-blocks-in-Blocks-clause-ok : goal.returns-in_ok-blocks-in-Blocks-clause-ok
returns-in_ok-blocks-in-Blocks-clause-ok c =
    let k = c.args.key.now in
    let read = c.in_ok-blocks-in-Blocks.ensures.ok in
    let d = read.0 in
    let found : slot_of k ≡ Some Blocks = grind arith in (
      d,
      read.1,
      λ ms old. c.put_blocks.ensures ∙ ap₂ put_blocks read.2 old
          ∙ ap (λ o. put_if_slot o d (parts_of (object ms))) (sym found) ∙ sym (parts_put k d ms),
    )
