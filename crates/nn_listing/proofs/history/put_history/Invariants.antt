use Rattle.std.proofs.Common.{drop}
use Rattle.std.specs.Prelude.{flat_map}
use Rattle.nn_device.specs.Page.{PutsAllBut}
use Rattle.nn_listing.specs.Trail.{event_line}
use Rattle.nn_listing.proofs.history.put_history.Given as goal

-- the events that are left are to be put
abbrev pub invariant-loop-event : goal.invariant-loop-event
invariant-loop-event g l = PutsAllBut (flat_map event_line l.events) (flat_map event_line (drop l.event-index l.events)) l.fn.page l.fn.writer l.page l.writer
