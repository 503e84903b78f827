use Rattle.std.proofs.Common.{sym, ap, ◌∙◌, arith}
use Rattle.nn_replicas.specs.Calls.{entry_at, with_entry}
use Rattle.nn_replicas.specs.Figures.{figures_of}
use Rattle.nn_replicas.proofs.Entries.{lookup_is_find}
use Rattle.nn_replicas.proofs.Tables.{table, added}
use Rattle.nn_replicas.proofs.Figured.{figures_set, may_set}
use Rattle.nn_replicas.proofs.table.Replicas.add.Goals as goal

pub invariant_of-self : goal.invariant_of-self
invariant_of-self c = (c.self.invariant.0 ∙ ap (λ es. figures_of (table c.self.inside.min es)) (sym c.in_err-insert.ensures.err), c.insert.ensures.ordered)

pub replace-requires : goal.replace-requires
replace-requires c =
    let none = sym (lookup_is_find c.args.block c.self.inside.entries ∙ ap (λ t. entry_at t c.args.block) c.self.view_is ∙ c.requires.none) in
    let h = added c.self.inside.entries c.insert.new.self c.args.block c.args.entry none c.self.invariant.1 c.in_ok-insert.ensures.entries in
    may_set h c.self.inside.min c.self.inside.figures c.none.result c.figures-is.result c.self.invariant.0 c.none.ensures c.figures-is.ensures
    (let n = c.len-recalled.ensures.len in omega (arith, n, c.len-recalled.ensures.small))
    (let was = ap (λ f. f.places) c.none.ensures in let is = ap (λ f. f.places) c.figures-is.ensures in omega (arith, was, is, c.requires.cells, c.if-self.false))

pub invariant_of-self-2 : goal.invariant_of-self-2
invariant_of-self-2 c =
    let none = sym (lookup_is_find c.args.block c.self.inside.entries ∙ ap (λ t. entry_at t c.args.block) c.self.view_is ∙ c.requires.none) in
    let h = added c.self.inside.entries c.insert.new.self c.args.block c.args.entry none c.self.invariant.1 c.in_ok-insert.ensures.entries in (
      c.replace.ensures ∙ figures_set h c.self.inside.min c.self.inside.figures c.none.result c.figures-is.result c.self.invariant.0 c.none.ensures c.figures-is.ensures,
      c.insert.ensures.ordered,
    )

pub returns-clause-ok : goal.returns-clause-ok
returns-clause-ok c =
    let none = sym (lookup_is_find c.args.block c.self.inside.entries ∙ ap (λ t. entry_at t c.args.block) c.self.view_is ∙ c.requires.none) in
    let h = added c.self.inside.entries c.insert.new.self c.args.block c.args.entry none c.self.invariant.1 c.in_ok-insert.ensures.entries in
    ap (table c.self.inside.min) h.put ∙ ap (λ t. with_entry t c.args.block c.args.entry) c.self.view_is
