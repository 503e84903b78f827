-- What an end's pass shows, and what an end keeps of it.
use Rattle.std.specs.Prelude.{◌≡◌, true, false, List, [], ◌∷◌, Option, Some, None, Ok, Err}
use Rattle.crossbeam_channel.specs.Claims.{Pass, view}
use Rattle.nn_segment.specs.Source.{Answer}
use Rattle.nn_segment.specs.declared.source.Item.TheVariants as item
use Rattle.nn_feed.specs.declared.ends.Ending.{Ending}
use Rattle.nn_feed.specs.declared.ends.Ending.TheVariants.{End, Fault}
use Rattle.nn_feed.specs.declared.rule.Log.{Log}
use Rattle.nn_feed.specs.declared.rule.Placed.{Placed}
use Rattle.nn_feed.specs.Rule.{log}

-- all that was put, with its places
abbrev pub put_in : Pass Placed Log → List Placed
put_in p = (view p).put

-- all that was got
abbrev pub got_in : Pass Placed Log → List Placed
got_in p = (view p).got

abbrev pub MayPut : Pass Placed Log → Type 0
MayPut p = view p ≡ log true false (put_in p) []

abbrev pub MayGet : Pass Placed Log → Type 0
MayGet p = view p ≡ log false true [] (got_in p)

-- how an answer ends its source, if it is the last
abbrev pub ended_by : Answer → Option Ending
ended_by (Ok (item.Segment s)) = None
ended_by (Ok item.End) = Some End
ended_by (Err fault) = Some (Fault fault)

abbrev pub as_answer : Ending → Answer
as_answer End = Ok item.End
as_answer (Fault fault) = Err fault

-- how the last of these ends it
abbrev pub ending_in : List Placed → Option Ending
ending_in [] = None
ending_in (p ∷ []) = ended_by p.answer
ending_in (p ∷ q ∷ ps) = ending_in (q ∷ ps)
