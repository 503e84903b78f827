use Rattle.std.proofs.Common.{◌≡◌, ◌∙◌, [], ap, sym, map, string_bytes}
use Rattle.clap.specs.Words.{App, app_of, fault_of, found_of, is_simple, is_simple_and_free, matches_of, rows_of}
use Rattle.nn_command.specs.Options.{command_line}
use Rattle.nn_command.proofs.Arguments.{line_is_simple, line_is_free, asked_as_found, asked_so, contradictory, why_not, out_of_range}
use Rattle.nn_command.proofs.options.parse.Goals as goal

pub returns-clause-ok : goal.returns-clause-ok
returns-clause-ok c =
    let arguments = map string_bytes c.args.arguments.now in
    let line = c.in-Ok.ensures in
    let none : fault_of (app_of c.in-Ok.line) arguments ≡ [] = c.in-Ok-try_get_matches_from.ensures.kinds (ap is_simple_and_free line ∙ line_is_free) in
    let rows : rows_of (found_of c.in-Ok-try_get_matches_from.matches) ≡ matches_of command_line arguments =
    (c.in-Ok-try_get_matches_from.ensures.matches (ap is_simple line ∙ line_is_simple)).0 ∙ ap (λ (a : App). matches_of a arguments) line in (
      ap (λ (a : App). fault_of a arguments) (sym line) ∙ none,
      asked_as_found arguments (found_of c.in-Ok-try_get_matches_from.matches) c.in-Some.request.options.settings rows c.in-Some.ensures.some,
    )

pub returns-clause-asked : goal.returns-clause-asked
returns-clause-asked c =
    let arguments = map string_bytes c.args.arguments.now in
    let line = c.in-Ok.ensures in
    let rows : rows_of (found_of c.in-Ok-try_get_matches_from.matches) ≡ matches_of command_line arguments =
    (c.in-Ok-try_get_matches_from.ensures.matches (ap is_simple line ∙ line_is_simple)).0 ∙ ap (λ (a : App). matches_of a arguments) line in
    asked_so arguments (found_of c.in-Ok-try_get_matches_from.matches) c.in-Some.request rows c.in-Some.ensures.asked

pub returns-in-Err-clause-err : goal.returns-in-Err-clause-err
returns-in-Err-clause-err c =
    let line = c.in-Ok.ensures in
    why_not (map string_bytes c.args.arguments.now) (app_of c.in-Ok.line) c.in-Err.error line (c.in-Err.ensures.kinds (ap is_simple_and_free line ∙ line_is_free))

pub returns-in_default-matched-clause-err : goal.returns-in_default-matched-clause-err
returns-in_default-matched-clause-err c =
    let arguments = map string_bytes c.args.arguments.now in
    let line = c.in-Ok.ensures in
    let rows : rows_of (found_of c.in-Ok-try_get_matches_from.matches) ≡ matches_of command_line arguments =
    (c.in-Ok-try_get_matches_from.ensures.matches (ap is_simple line ∙ line_is_simple)).0 ∙ ap (λ (a : App). matches_of a arguments) line in
    out_of_range arguments (found_of c.in-Ok-try_get_matches_from.matches) c.out_of_range.result rows c.in_default-matched.ensures.none c.out_of_range.ensures

pub returns-then-is_contradictory-clause-err : goal.returns-then-is_contradictory-clause-err
returns-then-is_contradictory-clause-err c =
    let arguments = map string_bytes c.args.arguments.now in
    let line = c.in-Ok.ensures in
    let rows : rows_of (found_of c.in-Ok-try_get_matches_from.matches) ≡ matches_of command_line arguments =
    (c.in-Ok-try_get_matches_from.ensures.matches (ap is_simple line ∙ line_is_simple)).0 ∙ ap (λ (a : App). matches_of a arguments) line in
    contradictory arguments c.in-Some.request c.contradictory.result (asked_so arguments (found_of c.in-Ok-try_get_matches_from.matches) c.in-Some.request rows c.in-Some.ensures.asked)
    (sym c.is_contradictory.ensures ∙ c.if-is_contradictory.true) c.contradictory.ensures
