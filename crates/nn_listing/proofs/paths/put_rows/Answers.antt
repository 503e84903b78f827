use Rattle.std.proofs.Common.{rules, ◌≡◌, ◌∷◌, true, ap, arith}
use Rattle.std.specs.Prelude.{flat_map}
use Rattle.nn_device.specs.Page.{PutsPiece}
use Rattle.nn_device.proofs.Pages.{next_first, rest_dropped}
use Rattle.nn_model.specs.declared.form.Form.{Form}
use Rattle.nn_model.specs.Namespace.{Path}
use Rattle.nn_tree.specs.Found.{form_of}
use Rattle.nn_tree.specs.Rows.{greatest_depth}
use Rattle.nn_listing.specs.Listing.{row_line}
use Rattle.nn_listing.proofs.paths.put_rows.Goals as goal

pub rows-preserved : goal.rows-preserved
rows-preserved g c =
    let row : Path × Form = (c.next_ready.new.self.names, form_of c.in-Some.found) in
    let next : c.rows.rows.left ≡ row ∷ c.next_ready.new.self.left = search rules in
    let line : PutsPiece (row_line row) c.rows.page c.rows.writer c.put_row.new.page c.put_row.new.writer = search rules in (
      next_first row_line (flat_map row_line c.args.rows.left) row c.rows.rows.left c.next_ready.new.self.left c.args.page.now c.rows.page c.put_row.new.page
          c.args.writer.now c.rows.writer c.put_row.new.writer next c.rows.invariant.0 line,
      omega (arith, ap greatest_depth next, c.rows.invariant.1, c.next_ready.ensures.more_room),
    )

pub returns : goal.returns
returns g c =
    let lost : c.rows.page.lost ≡ true = search rules in
    rest_dropped (flat_map row_line c.args.rows.left) (flat_map row_line c.rows.rows.left) c.args.page.now c.rows.page c.args.writer.now c.rows.writer lost c.rows.invariant.0
