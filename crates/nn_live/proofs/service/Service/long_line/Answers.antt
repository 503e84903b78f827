use Rattle.std.proofs.Common.{[], codes, subst, ◌∙◌}
use Rattle.nn_types.specs.declared.fault.TheConstants.{LINE_TOO_LONG}
use Rattle.nn_device.specs.Page.{PutsPiece}
use Rattle.nn_device.proofs.Pages.{puts_nothing}
use Rattle.nn_live.specs.Serving.{Service, fault_text}
use Rattle.nn_live.proofs.Reading.{blank_line, long_told}
use Rattle.nn_live.proofs.service.Service.long_line.Goals as goal

pub returns-then-blank-clause-ok : goal.returns-then-blank-clause-ok
returns-then-blank-clause-ok g c =
    ([], puts_nothing c.args.page.now c.args.writer.now, λ text is. blank_line text c.args.self.now c.next_line.new.self (is.all ∙ c.if-blank.true) c.in_ok-next_line.ensures.ok)

pub returns-clause-ok : goal.returns-clause-ok
returns-clause-ok g c =
    let y = c.next_line.new.self in
    let text = fault_text LINE_TOO_LONG (codes " line ") y.lines in
    let put = subst (λ (v : Service). PutsPiece (fault_text LINE_TOO_LONG (codes " line ") v.lines) c.args.page.now c.args.writer.now c.put_fault.new.page c.put_fault.new.writer) c.self.view_is c.put_fault.ensures in
    (text, put, λ line is. long_told line is.long c.args.self.now y (is.all ∙ c.if-blank.false) c.in_ok-next_line.ensures.ok)
