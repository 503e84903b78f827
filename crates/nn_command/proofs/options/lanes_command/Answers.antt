use Rattle.std.proofs.Common.{rules, ◌≡◌, ◌∙◌, ap, ap₂, codes, pos}
use Rattle.clap.specs.Words.{app_of, rule_of, with_rule}
use Rattle.clap.specs.declared.builder.value_parser.ValueParser.{ValueParser}
use Rattle.clap.specs.declared.builder.value_parser.ValueParser.TheVariants.{Signed}
use Rattle.nn_command.specs.Options.{flag_rule, optional_rule, settings_line, lanes_line}
use Rattle.nn_command.proofs.options.lanes_command.Goals as goal

pub returns : goal.returns
unfolding lanes_line
returns c =
    let range : c.range-capacity.result ≡ Signed (pos 1) (pos 1024) = search rules in
    let start : app_of c.in_ok-settings_command.field-0 ≡ settings_line = c.in_ok-settings_command.ensures in
    let capacity : rule_of c.optional.result ≡ optional_rule (codes "capacity") c.range-capacity.result = search rules in
    let threads : rule_of c.flag.result ≡ flag_rule (codes "threads") = search rules in
    c.in_ok-command.ensures.shape (search rules)
    ∙ ap₂ with_rule (c.in_ok-arg.ensures.shape (search rules)
    ∙ ap₂ with_rule start (capacity ∙ ap (λ (p : ValueParser). optional_rule (codes "capacity") p) range))
    threads
