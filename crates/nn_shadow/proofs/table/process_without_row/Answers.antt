use Rattle.std.proofs.Common.{◌≡◌, refl, sym, ap, ◌∙◌, inl, inr}
use Rattle.nn_types.specs.declared.report.Kind.TheVariants.{Receiving, Received}
use Rattle.nn_shadow.specs.Room.{taken_without_row, taken_and_given_back}
use Rattle.nn_shadow.specs.Steps.{message_taken}
use Rattle.nn_shadow.proofs.OneItem.{told_keeps}
use Rattle.nn_shadow.proofs.table.process_without_row.Goals as goal

-- there is an order, or a replica where there is a row: its room is needed
pub returns-in-Receiving : goal.returns-in-Receiving
returns-in-Receiving c =
    let keeps : message_taken c.args.table.now c.args.m.now ≡ taken_and_given_back c.args.held.now c.args.table.now c.args.m.now =
    elim c.in-Receiving.is [
      | inl is ↦ told_keeps c.args.held.now c.args.table.now c.args.m.now Receiving is refl
      | inr is ↦ told_keeps c.args.held.now c.args.table.now c.args.m.now Received is refl
    ] in
    c.process.ensures ∙ keeps ∙ ap (λ o. taken_without_row o c.args.held.now c.args.table.now c.args.m.now) (sym c.in-None.is)
