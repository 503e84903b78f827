use Rattle.nn_replicas.proofs.Ties.{counts_agree}
use Rattle.nn_replicas.proofs.laws.counts_are_the_namespaces.Goals as goal

pub returns : goal.returns
returns c = counts_agree
