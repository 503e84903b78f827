use Rattle.std.proofs.Common.{rules, subst}
use Rattle.nn_device.specs.Page.{PutsPiece}
use Rattle.nn_device.proofs.Pages.{last_of, next_of}
use Rattle.nn_listing.specs.Trail.{event_line}
use Rattle.nn_listing.proofs.history.put_history.Goals as goal

pub loop-event-preserved : goal.loop-event-preserved
loop-event-preserved g c =
    next_of event_line c.args.events.now c.loop-event.event-index c.event-item.result c.args.page.now c.loop-event.page c.put_event.new.page c.args.writer.now c.loop-event.writer c.put_event.new.writer
    (search rules) c.loop-event.invariant (subst (λ x. PutsPiece (event_line x) c.loop-event.page c.loop-event.writer c.put_event.new.page c.put_event.new.writer) c.event-item.is c.put_event.ensures)

pub returns : goal.returns
returns g c = last_of event_line c.args.events.now c.loop-event.event-index c.args.page.now c.loop-event.page c.args.writer.now c.loop-event.writer (search rules) c.loop-event.invariant
