use Rattle.std.proofs.Common.{rules, ◌≡◌, ◌∙◌, ap}
use Rattle.clap.specs.Words.{rule_of}
use Rattle.clap.specs.declared.builder.value_parser.ValueParser.{ValueParser}
use Rattle.nn_command.specs.Options.{optional_rule}
use Rattle.nn_command.proofs.options.optional.Goals as goal

pub returns-clause-rule : goal.returns-clause-rule
returns-clause-rule c =
    let given = c.value_parser.ensures.given in
    let as_given : rule_of c.help.result ≡ optional_rule c.args.name.now given.0 = search rules in
    as_given ∙ ap (λ (p : ValueParser). optional_rule c.args.name.now p) given.2
