use Rattle.std.proofs.Common.{◌∙◌, ap}
use Rattle.nn_tree.specs.Found.{form_of}
use Rattle.nn_tree.specs.Rows.{Walk}
use Rattle.nn_image.proofs.InParts.{named_place, paths_resume, root_passed}
use Rattle.nn_image.proofs.saving.parts.paths_from.Goals.{then-is_empty+in_ok-next_row, else-is_empty}
use Rattle.nn_image.proofs.saving.parts.paths_from.Goals as goal

pub returns-clause-left : goal.returns-clause-left
returns-clause-left c = elim c.if-is_empty.branch [
  | then-is_empty+in_ok-next_row w ↦
      let n = c.args.namespace.now in
      let next = w.in_ok-next_row.ensures in
      ap (λ (r : Walk). r.left) w.rows-is ∙ root_passed n c.recall_invariant.ensures.well_formed (λ found. (w.next_row.new.self.names, form_of found)) w.in_ok-next_row.field-0 c.args.place.now c.in_ok-rows.rows.left w.next_row.new.self.left
      w.if-is_empty.ensures c.in_ok-rows.ensures.left next.row next.end
  | else-is_empty w ↦
      let n = c.args.namespace.now in
      ap (λ (r : Walk). r.left) w.rows-is ∙ c.in_ok-rows.ensures.left ∙ named_place n c.recall_invariant.ensures.well_formed c.args.place.now w.if-is_empty.ensures
]

pub returns-clause-resumes : goal.returns-clause-resumes
returns-clause-resumes c = paths_resume c.args.namespace.now c.recall_invariant.ensures.well_formed c.rows_from.ensures.resumes

pub returns-in_err-rows-clause-resumes : goal.returns-in_err-rows-clause-resumes
returns-in_err-rows-clause-resumes c = paths_resume c.args.namespace.now c.recall_invariant.ensures.well_formed c.rows_from.ensures.resumes

pub returns-in_err-next_row-clause-resumes : goal.returns-in_err-next_row-clause-resumes
returns-in_err-next_row-clause-resumes c = paths_resume c.args.namespace.now c.recall_invariant.ensures.well_formed c.rows_from.ensures.resumes
