use Rattle.std.specs.Prelude.{reverse, vec_items}
use Rattle.std.specs.declared.thread.PromisedHandle.{PromisedHandle}
use Rattle.std.proofs.Common.{List, sym, ap, ◌∙◌, subst}
use Rattle.std.proofs.lemmas.List.{reverse-reverse}
use Rattle.nn_lane.specs.Ends.{Reporter}
use Rattle.nn_drive.specs.Served.{AreStarted}
use Rattle.nn_drive.specs.declared.driving.WorkerExit.{WorkerExit}
use Rattle.nn_drive.specs.declared.driving.WorkerPromise.{WorkerPromise}
use Rattle.nn_drive.proofs.Starts.{none_started}
use Rattle.nn_drive.proofs.crew.ServiceCrew.start_all.Goals as goal

pub returns-in_default : goal.returns-in_default
returns-in_default g c = subst (λ (hs : List (PromisedHandle (WorkerExit g.row.S.Denot) (WorkerPromise g.row.S.Denot))). AreStarted (vec_items c.args.workers.now) hs (vec_items c.args.workers.now)) (sym c.new.ensures.items) (none_started (vec_items c.args.workers.now))

pub returns : goal.returns
returns g c =
    let turned = c.reverse.ensures.items in let back = c.reverse-2.ensures.items in
    let whole = ap reverse turned ∙ reverse-reverse (vec_items c.args.workers.now) in
    subst (λ (ws : List (g.row.S.Denot × Reporter)). AreStarted ws (vec_items c.start_from_the_last-handles.result) (vec_items c.reverse-2.new.self)) whole
    (subst (λ (ws : List (g.row.S.Denot × Reporter)). AreStarted (reverse (vec_items c.reverse.new.self)) (vec_items c.start_from_the_last-handles.result) ws) (sym back) c.start_from_the_last-handles.ensures)
