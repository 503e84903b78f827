use Rattle.std.proofs.Common.{◌≡◌, ◌+◌, ◌++◌, ◌∙◌, ap, append-nil, arith, subst, sym, Global, String, Vec}
use Rattle.nn_device.specs.Device.{Took}
use Rattle.nn_device.specs.Parts.{TookPrefix}
use Rattle.nn_tree.specs.At.{names_of}
use Rattle.nn_image.specs.InParts.{WrotePart, last_line, part_at, paths_from, rest_text}
use Rattle.nn_image.specs.Text.{row_lines}
use Rattle.nn_image.proofs.InParts.{at_err, end_prefix, none_written, part_there, part_unwritten, part_written, put_there, rest_written, walk_prefix}
use Rattle.nn_image.proofs.saving.parts.Saving.write_on.Goals as goal

pub returns-in_default-clause-prefix : goal.returns-in_default-clause-prefix
returns-in_default-clause-prefix g c = none_written c.args.namespace.now c.args.rows c.args.self c.args.writer.now

pub returns-in_err-part-clause-prefix : goal.returns-in_err-part-clause-prefix
returns-in_err-part-clause-prefix g c =
    let n = c.args.namespace.now in
    let s = c.args.self in
    let start = c.args.writer.now in
    let now = c.put_part.new.writer in
    let left : c.in-Ok.walk.left ≡ paths_from s.path n = c.in-Ok.ensures.left ∙ ap (λ p. paths_from p n) (ap names_of c.deref.ensures.value ∙ ap (λ s. s.path) c.self.view_is) in
    let cause = c.in_err-part.field-0.0 in
    at_err c.from_residual.result (TookPrefix start now (rest_text s n)) cause c.from_residual.ensures.1 (walk_prefix n c.args.rows s c.in-Ok.walk.left left start now cause c.in_err-part.ensures.prefix)

pub returns-in_default-checked_add-clause-prefix : goal.returns-in_default-checked_add-clause-prefix
returns-in_default-checked_add-clause-prefix g c =
    let n = c.args.namespace.now in
    let s = c.args.self in
    let start = c.args.writer.now in
    let now = c.put_part.new.writer in
    let page = c.put_part.new.page in
    let left : c.in-Ok.walk.left ≡ paths_from s.path n = c.in-Ok.ensures.left ∙ ap (λ p. paths_from p n) (ap names_of c.deref.ensures.value ∙ ap (λ s. s.path) c.self.view_is) in
    part_unwritten n c.args.rows s start now page c.in_ok-part.ensures.well (put_there n c.args.rows s c.in-Ok.walk.left left start now page c.in_ok-part.ensures.put)

pub returns-in_err-end-clause-prefix : goal.returns-in_err-end-clause-prefix
returns-in_err-end-clause-prefix g c =
    let n = c.args.namespace.now in
    let s = c.args.self in
    let start = c.args.writer.now in
    let part = c.in_ok-part.part in
    let count = c.in-Some.count in
    let left : c.in-Ok.walk.left ≡ paths_from s.path n = c.in-Ok.ensures.left ∙ ap (λ p. paths_from p n) (ap names_of c.deref.ensures.value ∙ ap (λ s. s.path) c.self.view_is) in
    let put = put_there n c.args.rows s c.in-Ok.walk.left left start c.put_part.new.writer c.put_part.new.page c.in_ok-part.ensures.put in
    let counted : count ≡ s.count + part.lines = omega (arith, c.in-Some.ensures.1, ap (λ s. s.count) c.self.view_is) in
    let lines = row_lines (part_at c.args.rows s n) in
    let is_part = part_there n c.args.rows s c.in-Ok.walk.left left part c.in_ok-part.ensures.part in
    let now = c.end.new.writer in
    let cause = c.in_err-end.field-0.0 in
    at_err c.from_residual-in_err-end.result (TookPrefix start now (rest_text s n)) cause c.from_residual-in_err-end.ensures.1
    (end_prefix n c.args.rows s part is_part count counted start now cause
    (c.in_err-end.ensures.prefix start (lines ++ last_line part.next count) (c.put_last.ensures start lines put)))

pub returns-in_default-next-clause-rest : goal.returns-in_default-next-clause-rest
returns-in_default-next-clause-rest g c =
    let n = c.args.namespace.now in
    let s = c.args.self in
    let start = c.args.writer.now in
    let part = c.in_ok-part.part in
    let count = c.in-Some.count in
    let left : c.in-Ok.walk.left ≡ paths_from s.path n = c.in-Ok.ensures.left ∙ ap (λ p. paths_from p n) (ap names_of c.deref.ensures.value ∙ ap (λ s. s.path) c.self.view_is) in
    let put = put_there n c.args.rows s c.in-Ok.walk.left left start c.put_part.new.writer c.put_part.new.page c.in_ok-part.ensures.put in
    let counted : count ≡ s.count + part.lines = omega (arith, c.in-Some.ensures.1, ap (λ s. s.count) c.self.view_is) in
    let lines = row_lines (part_at c.args.rows s n) in
    let is_part = part_there n c.args.rows s c.in-Ok.walk.left left part c.in_ok-part.ensures.part in
    let now = c.end.new.writer in
    λ _. rest_written n c.args.rows s part is_part c.in_default-next.is count counted start now
    (subst (λ o. Took start now (lines ++ last_line o count)) c.in_default-next.is (c.in_ok-end.ensures.ok start (lines ++ last_line part.next count) (c.put_last.ensures start lines put)))

pub returns-clause-part : goal.returns-clause-part
returns-clause-part g c =
    let n = c.args.namespace.now in
    let s = c.args.self in
    let start = c.args.writer.now in
    let part = c.in_ok-part.part in
    let count = c.in-Some.count in
    let left : c.in-Ok.walk.left ≡ paths_from s.path n = c.in-Ok.ensures.left ∙ ap (λ p. paths_from p n) (ap names_of c.deref.ensures.value ∙ ap (λ s. s.path) c.self.view_is) in
    let put = put_there n c.args.rows s c.in-Ok.walk.left left start c.put_part.new.writer c.put_part.new.page c.in_ok-part.ensures.put in
    let counted : count ≡ s.count + part.lines = omega (arith, c.in-Some.ensures.1, ap (λ s. s.count) c.self.view_is) in
    let lines = row_lines (part_at c.args.rows s n) in
    let is_part = part_there n c.args.rows s c.in-Ok.walk.left left part c.in_ok-part.ensures.part in
    let now = c.end.new.writer in
    subst (λ (v : Vec (String Global) Global). WrotePart n c.args.rows s start now (record { path = names_of v.items; count = count })) (sym c.in-Some-next.place-is)
    (part_written n c.args.rows s part is_part c.in-Ok.ensures.resumes c.in-Some-next.place c.in-Some-next.is count counted start now
    (subst (Took start now) (ap (λ o. lines ++ last_line o count) c.in-Some-next.is ∙ append-nil lines) (c.in_ok-end.ensures.ok start (lines ++ last_line part.next count) (c.put_last.ensures start lines put))))
