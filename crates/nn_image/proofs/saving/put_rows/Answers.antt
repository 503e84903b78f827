use Rattle.std.proofs.Common.{rules, ◌≡◌, ◌∷◌, true}
use Rattle.nn_device.proofs.Pages.{next_first, rest_dropped}
use Rattle.nn_model.specs.declared.form.Form.{Form}
use Rattle.nn_model.specs.Namespace.{Path}
use Rattle.nn_tree.specs.Found.{form_of}
use Rattle.nn_image.specs.Text.{value_line, row_data, row_lines}
use Rattle.nn_image.proofs.Putting.{room_left}
use Rattle.nn_image.proofs.saving.put_rows.Goals as goal

pub rows-preserved : goal.rows-preserved
rows-preserved g c =
    let row : Path × Form = (c.next_ready.new.self.names, form_of c.in-Some.found) in
    let next : c.rows.rows.left ≡ row ∷ c.next_ready.new.self.left = search rules in
    record {
      put = next_first (λ row. value_line (row_data row)) (row_lines c.args.rows.left) row c.rows.rows.left c.next_ready.new.self.left c.args.page.now c.rows.page c.put_row.new.page
          c.args.writer.now c.rows.writer c.put_row.new.writer next c.rows.invariant.put (rw c.names.ensures at c.put_row.ensures);
      room = room_left row c.rows.rows.left c.next_ready.new.self.left c.rows.rows.room c.next_ready.new.self.room next c.rows.invariant.room c.next_ready.ensures.more_room;
    }

pub returns : goal.returns
returns g c =
    let lost : c.rows.page.lost ≡ true = search rules in
    rest_dropped (row_lines c.args.rows.left) (row_lines c.rows.rows.left) c.args.page.now c.rows.page c.args.writer.now c.rows.writer lost c.rows.invariant.put
