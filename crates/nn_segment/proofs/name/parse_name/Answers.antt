use Rattle.std.proofs.Common.{◌≡◌, sym, ◌∙◌}
use Rattle.nn_segment.specs.Name.{txids_of}
use Rattle.nn_segment.proofs.Names.{unnamed, judged, names, if_found}
use Rattle.nn_segment.proofs.name.parse_name.Goals as goal

pub returns-in_default-clause-only : goal.returns-in_default-clause-only
returns-in_default-clause-only c = λ first last is. absurd (c.in_default.ensures.none first last (c.as_bytes.ensures.value ∙ is.spelled))

pub returns-in_default-clause-exact : goal.returns-in_default-clause-exact
returns-in_default-clause-exact c =
    sym (unnamed c.args.text.now (λ first last e. c.in_default.ensures.none first last (c.as_bytes.ensures.value ∙ e)))

exact : (c : goal.After-txids_between) → c.txids_between.result ≡ txids_of c.args.text.now
exact c =
    let numbers = c.in-Some.ensures.some in
    judged c.args.text.now c.in-Some.first c.in-Some.last c.txids_between.result numbers.0 numbers.1 (sym c.as_bytes.ensures.value ∙ numbers.2) c.txids_between.ensures

pub returns-clause-found : goal.returns-clause-found
returns-clause-found c = if_found c.args.text.now c.txids_between.result (exact c)

pub returns-clause-only : goal.returns-clause-only
returns-clause-only c = λ first last is. exact c ∙ names c.args.text.now first last is

pub returns-clause-exact : goal.returns-clause-exact
returns-clause-exact c = exact c
