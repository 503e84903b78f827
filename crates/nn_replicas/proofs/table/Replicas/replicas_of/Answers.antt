use Rattle.std.proofs.Common.{ap, sym, ◌∙◌}
use Rattle.std.specs.Option.{option_copied}
use Rattle.nn_replicas.proofs.Tables.{no_replicas, replicas_there}
use Rattle.nn_replicas.proofs.table.Replicas.replicas_of.Goals as goal

pub returns-in_default-clause-all : goal.returns-in_default-clause-all
returns-in_default-clause-all c =
    c.new.ensures ∙ no_replicas c.args.self.now c.self.inside.min c.args.block c.self.inside.entries c.self.view_is (sym (ap option_copied c.in_default.is) ∙ c.get.ensures.value)

pub returns-clause-all : goal.returns-clause-all
returns-clause-all c =
    c.replicas.ensures.all ∙ replicas_there c.args.self.now c.self.inside.min c.args.block c.self.inside.entries c.in-Some.entry.now c.self.view_is c.in-Some.ensures.value
