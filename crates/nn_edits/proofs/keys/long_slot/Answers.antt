use Rattle.std.proofs.Common.{codes, sym, ◌∙◌}
use Rattle.std.proofs.lemmas.Slice.Eq.{bytes_eq-Decides}
use Rattle.nn_edits.proofs.ShortKeys.{long_key, no_long_key}
use Rattle.nn_edits.proofs.keys.long_slot.Goals as goal

pub returns-then-eq : goal.returns-then-eq
returns-then-eq c = long_key c.args.key.now ((bytes_eq-Decides c.args.key.now (codes "replication")).0 (sym c.eq.ensures ∙ c.if-eq.true))

pub returns : goal.returns
returns c = no_long_key c.args.key.now c.requires (sym c.eq.ensures ∙ c.if-eq.false)
