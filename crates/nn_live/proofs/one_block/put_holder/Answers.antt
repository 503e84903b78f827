use Rattle.std.proofs.Common.{rules, ◌≡◌, ◌∷◌, ap, subst, arith}
use Rattle.std.specs.Prelude.{flat_map}
use Rattle.nn_device.specs.Page.{PutsPiece}
use Rattle.nn_device.proofs.Pages.{next_first}
use Rattle.nn_model.specs.Namespace.{Path}
use Rattle.nn_model.specs.declared.form.Form.{Form}
use Rattle.nn_tree.specs.Found.{form_of}
use Rattle.nn_tree.specs.Rows.{greatest_depth}
use Rattle.nn_live.specs.Answers.{holder_lines}
use Rattle.nn_live.proofs.one_block.put_holder.Goals as goal

pub rows-preserved : goal.rows-preserved
rows-preserved g c =
    let row : Path × Form = (c.next_ready.new.self.names, form_of c.in-Some.found) in
    let next : c.rows.rows.left ≡ row ∷ c.next_ready.new.self.left = search rules in
    let line = subst (λ (p : Path). PutsPiece (holder_lines c.args.id (p, form_of c.in-Some.found)) c.rows.page c.rows.writer c.put_holder_row.new.page c.put_holder_row.new.writer) c.names.ensures c.put_holder_row.ensures in (
      next_first (holder_lines c.args.id) (flat_map (holder_lines c.args.id) c.args.rows.left) row c.rows.rows.left c.next_ready.new.self.left c.args.page.now c.rows.page c.put_holder_row.new.page
          c.args.writer.now c.rows.writer c.put_holder_row.new.writer next c.rows.invariant.0 line,
      omega (arith, ap greatest_depth next, c.rows.invariant.1, c.next_ready.ensures.more_room),
    )
