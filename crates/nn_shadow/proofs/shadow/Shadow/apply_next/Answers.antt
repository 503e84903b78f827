use Rattle.std.proofs.Common.{◌∷◌, [], ◌++◌, sym, ap, subst, ◌∙◌}
use Rattle.nn_model.specs.Stands.{StandbyState}
use Rattle.nn_shadow.specs.Calls.{with_past}
use Rattle.nn_shadow.specs.Contents.{standby_of}
use Rattle.nn_shadow.specs.Laws.{StandsBy}
use Rattle.nn_shadow.proofs.Refusing.{turn_is_next}
use Rattle.nn_shadow.proofs.Standings.{applies}
use Rattle.nn_shadow.proofs.Taken.{applies_after}
use Rattle.nn_shadow.proofs.shadow.Shadow.apply_next.Goals as goal

pub returns-in-Ok-clause-stands : goal.returns-in-Ok-clause-stands
returns-in-Ok-clause-stands c past start base txs lanes st =
    let x = c.args.self.now in
    subst (λ (y : StandbyState). StandsBy start base (txs ++ c.args.tx.now ∷ []) lanes y)
    (applies_after past (standby_of x) c.args.tx.now ∙ ap (with_past past) (sym c.in-Ok.ensures.ok.standby))
    (applies start base txs lanes (with_past past (standby_of x)) c.args.tx.now st
    (turn_is_next x.phase (standby_of x) c.args.tx.now c.requires) c.in-Ok.ensures.applies)
