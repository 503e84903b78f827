use Rattle.std.proofs.Common.{sym, ◌∙◌}
use Rattle.nn_plain.proofs.tokens.colon_at.Goals as goal

pub returns-clause-there : goal.returns-clause-there
returns-clause-there c = sym c.byte_at-2.ensures.value ∙ c.if-byte_at-ne58.false
