use Rattle.std.proofs.Common.{codes, ap, not, ◌∙◌}
use Rattle.clap.specs.Words.{found_of, one_text}
use Rattle.nn_command.proofs.Arguments.{on_none, said, unread}
use Rattle.nn_command.proofs.options.capacity.Goals as goal

pub returns-in_err-n-clause-none : goal.returns-in_err-n-clause-none
returns-in_err-n-clause-none c =
    let found = found_of c.args.matches.now in
    let text = said (λ s. s.now) found (codes "capacity") c.get_str.result c.get_str.ensures (c.is_none.ensures ∙ ap not c.if-is_none.false) in
    on_none _ c.from_residual.result (unread (one_text found (codes "capacity")) text.0 text.1 c.in_err-n.ensures)
