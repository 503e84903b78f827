-- The places of a queue on small examples, computed.
use Rattle.std.specs.Prelude.{◌≡◌, List, [], ◌∷◌, Option, Some, None, refl}
use Rattle.nn_types.specs.declared.report.Message.{Message}
use Rattle.nn_postponed.specs.Places.{present}
use Rattle.nn_postponed.specs.QueueRows.{first_report, other_report, second_report}

-- a hole stands before a message of another DataNode, and the first DataNode's second message is the last one
abbrev slots : List (Option Message)
slots = Some first_report ∷ None ∷ Some other_report ∷ Some second_report ∷ []

no_hole_counts : present slots ≡ first_report ∷ other_report ∷ second_report ∷ []
no_hole_counts = refl
