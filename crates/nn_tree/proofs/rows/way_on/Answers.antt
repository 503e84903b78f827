use Rattle.std.proofs.Common.{◌≡◌, length, string_bytes, subst}
use Rattle.std.specs.Prelude.{bytes_eq, MatchOption}
use Rattle.std.specs.List.{IsFirstAndRest}
use Rattle.nn_tree.specs.Flat.{below}
use Rattle.nn_tree.specs.Rows.{later_of}
use Rattle.nn_tree.proofs.Places.{child_whole}
use Rattle.nn_tree.proofs.rows.way_on.Goals as goal

pub returns-clause-none : goal.returns-clause-none
returns-clause-none c none =
    let rest = c.args.rest.now in
    let ended : length rest ≡ 0 = subst (λ o. MatchOption o (length rest ≡ 0) (λ p. IsFirstAndRest rest p.0.now p.1.now)) none c.split_first.ensures.cases in
    child_whole (bytes_eq (string_bytes c.args.name.now) c.args.children.now.name.now) c.args.children.now.name.now c.args.children.now.tree.now
    (below (later_of c.args.children.now.later)) rest ended
