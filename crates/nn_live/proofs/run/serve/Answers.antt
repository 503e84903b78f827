use Rattle.std.proofs.Common.{◌++◌, ◌∙◌, [], sym, subst, append-nil}
use Rattle.nn_device.specs.Page.{PutsPiece}
use Rattle.nn_device.proofs.Pages.{puts_both}
use Rattle.nn_live.specs.Running.{IsUnderWay, serving_by}
use Rattle.nn_live.proofs.UnderWay.{end_halts, ends_run, is_so_far, line_halts, lines_told, read_halts, read_more}
use Rattle.nn_live.proofs.run.serve.Goals as goal

pub take_lines-requires : goal.take_lines-requires
take_lines-requires g c =
    let begun = c.requires.begun in
    let u = c.reads.invariant.2 begun.0 begun.1 begun.2 in
    record { come = (u.rest, u.served.lines, u.served.come) }

pub returns-in_default-clause-halted : goal.returns-in_default-clause-halted
returns-in_default-clause-halted g c =
    let was = c.reads.invariant in
    let broke = c.in_default.ensures.prefix in (
      was.0 ++ broke.0,
      puts_both was.0 broke.0 _ _ _ _ _ _ was.1 broke.1,
      λ o before begun. line_halts (serving_by o before c.reads.input) was.0 c.reads.served (was.2 o before begun) broke.0 broke.2,
    )

pub returns-then-has_failed-clause-ended : goal.returns-then-has_failed-clause-ended
returns-then-has_failed-clause-ended g c =
    let was = c.reads.invariant in
    let more = c.in-Ok.ensures.ok in
    let told = was.0 ++ more.0 in
    let x = c.take_lines.new.self in (
      told,
      subst (λ t. PutsPiece t c.args.page.now c.args.writer.now c.flush.new.self c.flush.new.writer) (append-nil told)
          (puts_both told [] _ _ _ _ _ _ (puts_both was.0 more.0 _ _ _ _ _ _ was.1 more.1) c.flush.ensures.same),
      λ o before begun. (
        sym c.has_failed.ensures ∙ c.if-has_failed.true,
        is_so_far (serving_by o before c.reads.input) told x (lines_told (serving_by o before c.reads.input) was.0 c.reads.served (was.2 o before begun) more.0 x more.2) c.in-Ok.ensures.all,
      ),
    )

pub returns-in_default-read_next-clause-halted : goal.returns-in_default-read_next-clause-halted
returns-in_default-read_next-clause-halted g c =
    let was = c.reads.invariant in
    let more = c.in-Ok.ensures.ok in
    let told = was.0 ++ more.0 in
    let x = c.take_lines.new.self in (
      told,
      subst (λ t. PutsPiece t c.args.page.now c.args.writer.now c.flush.new.self c.flush.new.writer) (append-nil told)
          (puts_both told [] _ _ _ _ _ _ (puts_both was.0 more.0 _ _ _ _ _ _ was.1 more.1) c.flush.ensures.same),
      λ o before begun.
          let run = serving_by o before c.reads.input in
          read_halts run told x (lines_told run was.0 c.reads.served (was.2 o before begun) more.0 x more.2) c.in-Ok.ensures.all c.read_next.new.input c.in_default-read_next.ensures.failed,
    )

pub end-requires : goal.end-requires
end-requires g c =
    let was = c.reads.invariant in
    let more = c.in-Ok.ensures.ok in
    let told = was.0 ++ more.0 in
    let x = c.take_lines.new.self in
    let begun = c.requires.begun in
    let run = serving_by begun.0 begun.1 c.reads.input in
    let u = lines_told run was.0 c.reads.served (was.2 begun.0 begun.1 begun.2) more.0 x more.2 in
    let v = read_more run told x u c.in-Ok.ensures.all c.in-Ok-read_next.more c.read_next.new.input c.read_next.new.served c.in-Ok-read_next.ensures.ok in
    record { line = (v.served.come.torn, v.served.come.unbroken, v.served.come.kept) }

pub returns-in_default-end-clause-halted : goal.returns-in_default-end-clause-halted
returns-in_default-end-clause-halted g c =
    let was = c.reads.invariant in
    let more = c.in-Ok.ensures.ok in
    let told = was.0 ++ more.0 in
    let x = c.take_lines.new.self in
    let y = c.read_next.new.served in
    let input = c.read_next.new.input in
    let at_end = c.in-Ok-read_next.ensures.ok.none c.if-not-more.true in
    let broke = c.in_default-end.ensures.prefix in
    let puts = puts_both told [] _ _ _ _ _ _ (puts_both was.0 more.0 _ _ _ _ _ _ was.1 more.1) c.flush.ensures.same in (
      told ++ broke.0,
      puts_both told broke.0 _ _ _ _ _ _ (subst (λ t. PutsPiece t c.args.page.now c.args.writer.now c.flush.new.self c.flush.new.writer) (append-nil told) puts) broke.1,
      λ o before begun.
          let run = serving_by o before c.reads.input in
          let u = lines_told run was.0 c.reads.served (was.2 o before begun) more.0 x more.2 in
          let v : IsUnderWay (serving_by o before input) told y = read_more run told x u c.in-Ok.ensures.all c.in-Ok-read_next.more input y c.in-Ok-read_next.ensures.ok in
          end_halts (serving_by o before input) told y v at_end.0 at_end.1 broke.0 (broke.2 v.served.come.torn v.served.come.kept),
    )

pub returns-then-not-more-clause-ended : goal.returns-then-not-more-clause-ended
returns-then-not-more-clause-ended g c =
    let was = c.reads.invariant in
    let more = c.in-Ok.ensures.ok in
    let told = was.0 ++ more.0 in
    let x = c.take_lines.new.self in
    let y = c.read_next.new.served in
    let input = c.read_next.new.input in
    let at_end = c.in-Ok-read_next.ensures.ok.none c.if-not-more.true in
    let done = c.in-Ok-end.ensures.ok in
    let puts = puts_both told [] _ _ _ _ _ _ (puts_both was.0 more.0 _ _ _ _ _ _ was.1 more.1) c.flush.ensures.same in (
      told ++ done.0,
      puts_both told done.0 _ _ _ _ _ _ (subst (λ t. PutsPiece t c.args.page.now c.args.writer.now c.flush.new.self c.flush.new.writer) (append-nil told) puts) done.1,
      λ o before begun.
          let run = serving_by o before c.reads.input in
          let u = lines_told run was.0 c.reads.served (was.2 o before begun) more.0 x more.2 in
          let v : IsUnderWay (serving_by o before input) told y = read_more run told x u c.in-Ok.ensures.all c.in-Ok-read_next.more input y c.in-Ok-read_next.ensures.ok in
          ends_run (serving_by o before input) told y v at_end.0 at_end.1 done.0 c.end.new.self.service c.exit_status.result (done.2 v.served.come.torn v.served.come.kept) c.exit_status.ensures,
    )

pub reads-preserved : goal.reads-preserved
reads-preserved g c =
    let was = c.reads.invariant in
    let more = c.in-Ok.ensures.ok in
    let told = was.0 ++ more.0 in
    let x = c.take_lines.new.self in (
      told,
      subst (λ t. PutsPiece t c.args.page.now c.args.writer.now c.flush.new.self c.flush.new.writer) (append-nil told)
          (puts_both told [] _ _ _ _ _ _ (puts_both was.0 more.0 _ _ _ _ _ _ was.1 more.1) c.flush.ensures.same),
      λ o before begun.
          let run = serving_by o before c.reads.input in
          read_more run told x (lines_told run was.0 c.reads.served (was.2 o before begun) more.0 x more.2) c.in-Ok.ensures.all c.in-Ok-read_next.more c.read_next.new.input c.read_next.new.served c.in-Ok-read_next.ensures.ok,
    )
