use Rattle.std.proofs.Common.{◌≡◌, IfOk, sym, ap, ◌∙◌, subst}
use Rattle.nn_tree.specs.At.{names_of}
use Rattle.nn_tree.specs.Rows.{rows_from}
use Rattle.nn_tree.proofs.Places.{from_none}
use Rattle.nn_tree.proofs.rows.Rows.from.Goals as goal

-- the place is the root
pub returns-in_default : goal.returns-in_default
returns-in_default c = c.new.ensures.left ∙ sym (from_none c.args.place.now c.args.root.now c.in_default.ensures.cases)

pub returns : goal.returns
returns c = subst (λ place. IfOk c.down.result (λ walk. walk.left ≡ rows_from place c.args.root.now)) (sym (ap names_of c.in-Some.ensures.cases.0)) c.down.ensures
