-- Lines of events.
use Rattle.std.specs.Prelude.{◌≡◌, [], ◌∷◌, ◌++◌, codes, refl}
use Rattle.std.specs.Fmt.{digits}
use Rattle.nn_bytes.specs.Lines.{line_feed}
use Rattle.nn_types.specs.declared.event.Event.TheVariants.{Applied, Processed}
use Rattle.nn_types.specs.declared.event.Cause.TheVariants.{Due, Flush}
use Rattle.nn_listing.specs.Trail.{history_text}

three_events : history_text (Applied 5 ∷ Processed 1 2 1073741825 Due ∷ Processed 256 1 7 Flush ∷ [])
    ≡ codes "applied 5" ++ line_feed ∷ codes "processed 1 2 1073741825 due" ++ line_feed ∷ codes "processed 256 1 7 flush" ++ line_feed ∷ []
unfolding digits
three_events = refl
