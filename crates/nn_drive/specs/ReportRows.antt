-- Reports as the messages that they become, computed.
use Rattle.std.specs.Prelude.{◌≡◌, ℕ, [], ◌∷◌, refl}
use Rattle.nn_types.specs.declared.report.Message.{Message}
use Rattle.nn_types.specs.declared.report.Report.{Report}
use Rattle.nn_types.specs.declared.report.Kind.TheVariants.{Received}
use Rattle.nn_drive.specs.Reports.{sent_after}

-- reports of one block, whatever DataNode they name
abbrev pub report : ℕ → Report
report dn = record { dn = dn; block = 1073741825; stamp = 1001; len = 5; kind = Received }

abbrev pub message : ℕ → ℕ → Message
message dn number = record { dn = dn; number = number; block = 1073741825; stamp = 1001; len = 5; kind = Received }

-- they go into the lane of DataNode 2, after what it had sent
numbered_in_order : sent_after 2 (message 2 1 ∷ []) (report 2 ∷ report 9 ∷ []) ≡ message 2 1 ∷ message 2 2 ∷ message 2 3 ∷ []
numbered_in_order = refl
