use Rattle.nn_segment.proofs.Names.{names, named}
use Rattle.nn_segment.proofs.name.one_name.Goals as goal
use Rattle.std.proofs.Common.{refl}

pub returns-clause-reads : goal.returns-clause-reads
returns-clause-reads c =
    λ first last one order range. names _ first last (record { from_one = one; in_order = order; in_range = range; spelled = refl })

pub returns-clause-alone : goal.returns-clause-alone
returns-clause-alone c = λ text first last e. (named text first last e).spelled
