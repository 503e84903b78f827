use Rattle.std.proofs.Common.{◌≡◌, ◌+◌, ap, Err, true, false, ◌∙◌, sym, arith}
use Rattle.std.proofs.lemmas.Bool.{false≢true}
use Rattle.nn_model.specs.declared.form.Form.{Form}
use Rattle.nn_model.specs.Namespace.{Path}
use Rattle.nn_image.proofs.LoadedLines.{row_fails, row_added}
use Rattle.nn_image.proofs.Order.{refused, out_of_order, pushed, added, still_loading, order_is}
use Rattle.nn_image.proofs.PathsRead.{one_more_path}
use Rattle.nn_image.proofs.loading.Begun.place.Goals as goal

pub returns-then-not-comes_before-clause-taken : goal.returns-then-not-comes_before-clause-taken
returns-then-not-comes_before-clause-taken c =
    let b = c.args.self.now in
    let order = order_is _ _ _ _ c.comes_before.result false c.names.ensures.names c.names-2.ensures.names c.comes_before.ensures c.if-not-comes_before.true in
    row_fails b c.requires.rows c.args.path c.args.form _ (out_of_order b.namespace _ b.number c.requires.begun.loading (c.args.path, c.args.form) order)

pub returns-in-Err-Refused-clause-taken : goal.returns-in-Err-Refused-clause-taken
returns-in-Err-Refused-clause-taken c =
    let b = c.args.self.now in
    let order = order_is _ _ _ _ c.comes_before.result true c.names.ensures.names c.names-2.ensures.names c.comes_before.ensures c.if-not-comes_before.false in
    row_fails b c.requires.rows c.args.path c.args.form _
    (refused b.namespace _ b.number c.requires.begun.loading (c.args.path, c.args.form) order (c.in-Err-Refused.ensures.refused (ap Err c.in-Err-Refused.field-0-is)))

pub returns-clause-taken : goal.returns-clause-taken
returns-clause-taken c =
    let b = c.args.self.now in
    let order = order_is _ _ _ _ c.comes_before.result true c.names.ensures.names c.names-2.ensures.names c.comes_before.ensures c.if-not-comes_before.false in
    row_added b c.requires.rows (record b { namespace = c.restore.new.self; before = c.args.path; number = c.in-Some.next }) c.args.path c.args.form
    (added b.namespace _ b.number c.requires.begun.loading (c.args.path, c.args.form) order c.restore.new.self c.in-Ok.ensures.ok c.in-Ok.ensures.lawful) c.requires.rows

pub returns-clause-begun : goal.returns-clause-begun
returns-clause-begun c =
    let b = c.args.self.now in
    let row : Path × Form = (c.args.path, c.args.form) in
    let order = order_is _ _ _ _ c.comes_before.result true c.names.ensures.names c.names-2.ensures.names c.comes_before.ensures c.if-not-comes_before.false in
    let next : c.in-Some.next ≡ b.number + 1 = grind arith in
    record {
      loading = rw next (still_loading b.namespace _ b.number c.requires.begun.loading row order c.restore.new.self c.in-Ok.ensures.ok);
      from = omega (arith, next, c.requires.begun.from);
      paths = one_more_path b.namespace c.restore.new.self row (pushed b.namespace _ b.number c.requires.begun.loading row order c.restore.new.self c.in-Ok.ensures.ok) c.names-2.ensures.lawful c.requires.begun.paths;
      counted = λ ended. absurd (false≢true (sym c.requires.rows ∙ ended));
    }
