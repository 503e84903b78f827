use Rattle.std.proofs.Common.{◌≡◌, ◌++◌, string_bytes, ap, ◌∙◌}
use Rattle.nn_types.proofs.Paths.{path_of_spelled}
use Rattle.nn_types.proofs.path.Path.parse_into.Goals as goal
use Rattle.nn_types.proofs.path.Path.parse_into.Goals.{In_ok-push_str}

-- The text that was filled is the text.
filled : (c : In_ok-push_str) → string_bytes c.push_str.new.self ≡ c.args.text.now
filled c = c.in_ok-push_str.ensures.bytes ∙ ap (λ front. front ++ c.args.text.now) c.clear.ensures.bytes

pub invariant_of-result : goal.invariant_of-result
invariant_of-result c =
    let is = path_of_spelled _ _ (c.spells_path.ensures.path c.if-not-spells_path.false) in
    rw (filled c) (record { lawful = is.0; is = is.1 })

pub returns-clause-ok : goal.returns-clause-ok
returns-clause-ok c = rw (filled c) (path_of_spelled _ _ (c.spells_path.ensures.path c.if-not-spells_path.false))
