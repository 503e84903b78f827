use Rattle.std.proofs.Common.{rules, ◌≡◌, ◌∙◌, ap₂, codes, pos}
use Rattle.clap.specs.Words.{app_of, rule_of, with_rule}
use Rattle.clap.specs.declared.builder.value_parser.ValueParser.TheVariants.{Signed}
use Rattle.nn_command.specs.Options.{flag_rule, optional_rule, lanes_line, command_line}
use Rattle.nn_command.proofs.options.command.Goals as goal

pub returns : goal.returns
unfolding command_line
returns c =
    let start : app_of c.in_ok-lanes_command.field-0 ≡ lanes_line = c.in_ok-lanes_command.ensures in
    let history : rule_of c.flag.result ≡ flag_rule (codes "history") = search rules in
    let summary : rule_of c.flag-2.result ≡ flag_rule (codes "summary") = search rules in
    let unsafe_blocks : rule_of c.flag-3.result ≡ flag_rule (codes "unsafe") = search rules in
    let image : rule_of c.flag-4.result ≡ flag_rule (codes "image") = search rules in
    let from_image : rule_of c.flag-5.result ≡ flag_rule (codes "from-image") = search rules in
    let live : rule_of c.flag-6.result ≡ flag_rule (codes "live") = search rules in
    let explained : rule_of c.optional.result ≡ optional_rule (codes "explain") (Signed (pos 0) (pos 255)) = search rules in
    c.in_ok-command.ensures.shape (search rules)
    ∙ ap₂ with_rule (c.in_ok-arg-6.ensures.shape (search rules)
    ∙ ap₂ with_rule (c.in_ok-arg-5.ensures.shape (search rules)
    ∙ ap₂ with_rule (c.in_ok-arg-4.ensures.shape (search rules)
    ∙ ap₂ with_rule (c.in_ok-arg-3.ensures.shape (search rules)
    ∙ ap₂ with_rule (c.in_ok-arg-2.ensures.shape (search rules)
    ∙ ap₂ with_rule (c.in_ok-arg.ensures.shape (search rules)
    ∙ ap₂ with_rule start history)
    summary) unsafe_blocks) image) from_image) live) explained
