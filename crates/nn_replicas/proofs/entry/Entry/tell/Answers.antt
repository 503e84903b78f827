use Rattle.std.proofs.Common.{sym, subst}
use Rattle.nn_replicas.specs.Figures.{figures_in, MayReplace}
use Rattle.nn_replicas.proofs.entry.Entry.tell.Goals as goal

pub recount-requires : goal.recount-requires
recount-requires c =
    let may = subst (λ e. MayReplace c.args.figures.now (figures_in c.args.min c.args.self.now) (figures_in c.args.min e)) (sym c.in_ok-change.ensures.ok) (c.requires c.in_ok-change.ensures.order) in
    (c.args.self.now, c.args.dn, c.in_ok-change.ensures.change, c.in_ok-change.ensures.order, may)

pub returns-clause-figures : goal.returns-clause-figures
returns-clause-figures c =
    let may = subst (λ e. MayReplace c.args.figures.now (figures_in c.args.min c.args.self.now) (figures_in c.args.min e)) (sym c.in_ok-change.ensures.ok) (c.requires c.in_ok-change.ensures.order) in
    c.recount.ensures c.args.self.now c.args.dn c.in_ok-change.ensures.change c.in_ok-change.ensures.order may
