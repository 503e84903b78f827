use Rattle.std.proofs.Common.{◌≡◌, ◌⊎◌, ◌≤◌, ◌<◌, ◌+◌, ◌-◌, ◌∙◌, true≢false, false, length, refl, sym, inl, inr, arith, lt_of_not-le, rules}
use Rattle.nn_tree.specs.Found.{form_of}
use Rattle.nn_image.proofs.InParts.{full_part, none_put, row_put, unlost_prefix}
use Rattle.nn_image.proofs.saving.parts.put_part.Goals.{then-lines-rows-via-then-lines-rows, then-lines-rows-via-else-lines-rows+then-has_put}
use Rattle.nn_image.proofs.saving.parts.put_part.Goals as goal

pub rows-init : goal.rows-init
rows-init g c = (c.taken-before.ensures, none_put c.args.writer.now c.args.rows c.args.bytes c.args.walk.left c.args.page.now c.requires)

pub returns-in_default-clause-prefix : goal.returns-in_default-clause-prefix
returns-in_default-clause-prefix g c tail some =
    let well : c.rows.page.lost ≡ false = sym c.has_failed.ensures ∙ c.if-has_failed.false in
    unlost_prefix c.args.writer.now c.args.rows c.args.bytes c.args.walk.left c.rows.lines c.rows.walk.left c.rows.page c.rows.writer c.rows.invariant.1 tail some well

pub returns-in_default-copied_names-clause-prefix : goal.returns-in_default-copied_names-clause-prefix
returns-in_default-copied_names-clause-prefix g c tail some =
    let well : c.rows.page.lost ≡ false = sym c.has_failed.ensures ∙ c.if-has_failed.false in
    unlost_prefix c.args.writer.now c.args.rows c.args.bytes c.args.walk.left c.rows.lines c.rows.walk.left c.rows.page c.rows.writer c.rows.invariant.1 tail some well

pub returns-then-lines-rows-clause-part : goal.returns-then-lines-rows-clause-part
returns-then-lines-rows-clause-part g c =
    let start = c.args.writer.now in
    let well : c.rows.page.lost ≡ false = sym c.has_failed.ensures ∙ c.if-has_failed.false in
    let full : (c.args.rows ≤ c.rows.lines) ⊎ (c.args.bytes ≤ (c.rows.writer.taken - start.taken) + length c.rows.page.left) = elim c.then-lines-rows.branch [
      | then-lines-rows-via-then-lines-rows w ↦ inl w.if-lines-rows.true
      | then-lines-rows-via-else-lines-rows+then-has_put w ↦ inr (omega (arith, w.if-has_put.ensures.0 refl, c.taken-before.ensures))
    ] in
    full_part start c.args.rows c.args.bytes c.args.walk.left c.rows.lines c.rows.walk.left c.rows.page c.rows.writer c.rows.invariant.1 well full c.in-Ok-copied_names.place
    (c.next_row.new.self.names, form_of c.in-Some.found) c.next_row.new.self.left (search rules) (c.in-Ok-copied_names.ensures ∙ c.names.ensures)

pub rows-preserved : goal.rows-preserved
rows-preserved g c =
    let start = c.args.writer.now in
    let well : c.rows.page.lost ≡ false = sym c.has_failed.ensures ∙ c.if-has_failed.false in
    let short : (c.rows.writer.taken - start.taken) + length c.rows.page.left < c.args.bytes = lt_of_not-le (λ h. true≢false (sym (c.if-has_put.ensures.1 (omega (arith, h, c.taken-before.ensures))))) in (
      c.rows.invariant.0,
      row_put start c.args.rows c.args.bytes c.args.walk.left c.rows.lines c.rows.walk.left c.rows.page c.rows.writer c.rows.invariant.1 well c.if-lines-rows.false short
          (c.next_row.new.self.names, form_of c.in-Some.found) c.next_row.new.self.left (search rules) c.put_row.new.page c.put_row.new.writer (rw c.names-in-rows.ensures at c.put_row.ensures),
    )
