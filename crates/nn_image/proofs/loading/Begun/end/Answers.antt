use Rattle.std.proofs.Common.{◌≡◌, length, ap, arith}
use Rattle.std.proofs.lemmas.Bool.{not-true, not-false}
use Rattle.std.proofs.lemmas.List.{nil_from_length}
use Rattle.nn_image.proofs.LoadedLines.{torn_rows, torn_end, whole_end}
use Rattle.nn_image.proofs.PathsRead.{rows_counted}
use Rattle.nn_image.proofs.Round.{reads_back}
use Rattle.nn_image.proofs.loading.Begun.end.Goals as goal

pub returns-then-not-self-clause-loaded : goal.returns-then-not-self-clause-loaded
returns-then-not-self-clause-loaded c = torn_rows c.args.self c.args.torn.now (not-true _ c.if-not-self.true)

pub returns-then-not-is_empty-clause-loaded : goal.returns-then-not-is_empty-clause-loaded
returns-then-not-is_empty-clause-loaded c =
    let some : length c.args.torn.now ≡ 0 → ⊥ = grind arith in
    torn_end c.args.self c.args.torn.now (not-false _ c.if-not-self.false) (λ none. some (ap length none))

pub returns-clause-loaded : goal.returns-clause-loaded
returns-clause-loaded c =
    let none : length c.args.torn.now ≡ 0 = grind arith in
    whole_end c.args.self c.args.torn.now (not-false _ c.if-not-self.false) (nil_from_length c.args.torn.now none)

pub returns-clause-again : goal.returns-clause-again
returns-clause-again c =
    let b = c.args.self in
    reads_back b.namespace b.txid c.recall_invariant.ensures.well_formed c.recall_invariant.ensures.utf8 c.requires.paths
    (rows_counted b.namespace b.number c.requires.loading.at (c.requires.counted (not-false _ c.if-not-self.false))) c.get-recalled.ensures.limit
