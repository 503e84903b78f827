use Rattle.std.proofs.Common.{sym, get_or, ℕ, Bool, eqb}
use Rattle.std.proofs.lemmas.Bool.{ne_eqb, eq-eqb}
use Rattle.std.proofs.lemmas.List.Sums.{position_or_len_is}
use Rattle.nn_bytes.specs.Lines.{line_feed}
use Rattle.nn_bytes.proofs.lines.line_end.Goals as goal

abbrev ends : ℕ → Bool
ends b = eqb b line_feed

pub returns-clause-end : goal.returns-clause-end
returns-clause-end c =
    let found = c.first_feed.ensures in
    let bytes = c.args.bytes.now in
    sym (position_or_len_is ends bytes c.first_feed.result 0 found.within (λ k l. ne_eqb (get_or bytes k 0) line_feed (found.before k l)) (λ l. eq-eqb (get_or bytes c.first_feed.result 0) line_feed (found.there l)))
