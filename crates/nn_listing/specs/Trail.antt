-- What the program prints of a standby's history: a line an event.
use Rattle.std.specs.Prelude.{ℕ, List, [], ◌∷◌, ◌++◌, flat_map, codes, decimal}
use Rattle.nn_bytes.specs.Lines.{line_feed}
use Rattle.nn_types.specs.declared.event.Event.{Event}
use Rattle.nn_types.specs.declared.event.Event.TheVariants.{Applied, Processed}
use Rattle.nn_types.specs.declared.event.Cause.{Cause}
use Rattle.nn_types.specs.declared.event.Cause.TheVariants.{Due, Flush}
use Rattle.nn_model.specs.History.{History}

-- why a message was processed
abbrev pub cause_text : Cause → List ℕ
cause_text Due = codes "due"
cause_text Flush = codes "flush"

-- `applied TXID`, or `processed DN NUMBER BLOCK due`, or `flush`
abbrev pub event_line : Event → List ℕ
event_line (Applied txid) = codes "applied " ++ decimal txid ++ line_feed ∷ []
event_line (Processed dn number block cause) =
    codes "processed " ++ decimal dn ++ codes " " ++ decimal number ++ codes " " ++ decimal block ++ codes " " ++ cause_text cause ++ line_feed ∷ []

abbrev pub history_text : History → List ℕ
history_text events = flat_map event_line events
