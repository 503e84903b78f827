use Rattle.nn_live.proofs.laws.a_mistyped_word_changes_nothing.Goals as goal
use Rattle.nn_live.proofs.Mistyped.{mistyped_changes_nothing, nothing_changes_nothing, torn_word_changes_nothing}

pub returns-clause-word : goal.returns-clause-word
returns-clause-word c = mistyped_changes_nothing

pub returns-clause-other : goal.returns-clause-other
returns-clause-other c = nothing_changes_nothing

pub returns-clause-torn : goal.returns-clause-torn
returns-clause-torn c = torn_word_changes_nothing
