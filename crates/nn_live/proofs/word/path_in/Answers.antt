use Rattle.std.proofs.Common.{◌≡◌, None, Some, sym, ap, ◌∙◌, arith}
use Rattle.std.specs.Prelude.{option_and_then, option_map}
use Rattle.json.specs.Lex.{tokens}
use Rattle.serde_json.specs.Find.{as_str}
use Rattle.nn_types.specs.Path.{path_of}
use Rattle.nn_plain.specs.Ahead.{data_at}
use Rattle.nn_live.proofs.WordTexts.{no_value, value_there, nothing_ahead, more_ahead, all_ahead, token_there, no_token}
use Rattle.nn_live.proofs.word.path_in.Goals as goal

pub returns-in_default : goal.returns-in_default
returns-in_default c = sym (no_value c.args.text.now (λ utf8. absurd (c.in_default.ensures utf8)))

pub returns-in_default-read_value : goal.returns-in_default-read_value
returns-in_default-read_value c =
    let text = c.args.text.now in
    let from : tokens text ≡ c.in_ok-reader.reader = ap tokens (sym c.in-Ok.ensures.0) ∙ sym c.in_ok-reader.ensures.ok in
    sym (no_value text (λ utf8. nothing_ahead text (ap (data_at 127) from ∙ c.in_default-read_value.ensures.err)))

pub returns-then-is_some : goal.returns-then-is_some
returns-then-is_some c =
    let text = c.args.text.now in
    let from : tokens text ≡ c.in_ok-reader.reader = ap tokens (sym c.in-Ok.ensures.0) ∙ sym c.in_ok-reader.ensures.ok in
    let found = c.in-Ok-read_value.ensures.ok in
    let more = token_there c.next.result c.read_value.new.reader c.next.new.self c.if-is_some.ensures c.next.ensures.value in
    sym (no_value text (λ utf8. more_ahead text found.0 more.0 c.next.new.self (ap (data_at 127) from ∙ found.1 ∙ ap (λ ts. Some (found.0, ts)) more.1)))

pub returns-in_default-text_of : goal.returns-in_default-text_of
returns-in_default-text_of c =
    let text = c.args.text.now in
    let from : tokens text ≡ c.in_ok-reader.reader = ap tokens (sym c.in-Ok.ensures.0) ∙ sym c.in_ok-reader.ensures.ok in
    let found = c.in-Ok-read_value.ensures.ok in
    let over = no_token c.next.result c.read_value.new.reader c.next.new.self c.if-is_some.ensures c.next.ensures.value in
    let is = all_ahead text found.0 (ap (data_at 127) from ∙ found.1 ∙ ap (λ ts. Some (found.0, ts)) over) in
    let none : as_str found.0 ≡ None = sym (c.text_of.ensures found.0 found.2) ∙ ap (option_map (λ s. s.now)) c.in_default-text_of.is in
    sym (value_there text found.0 c.in-Ok.ensures.1 is ∙ ap (option_and_then path_of) none)

pub returns-in-Ok-parse : goal.returns-in-Ok-parse
returns-in-Ok-parse c =
    let text = c.args.text.now in
    let from : tokens text ≡ c.in_ok-reader.reader = ap tokens (sym c.in-Ok.ensures.0) ∙ sym c.in_ok-reader.ensures.ok in
    let found = c.in-Ok-read_value.ensures.ok in
    let over = no_token c.next.result c.read_value.new.reader c.next.new.self c.if-is_some.ensures c.next.ensures.value in
    let is = all_ahead text found.0 (ap (data_at 127) from ∙ found.1 ∙ ap (λ ts. Some (found.0, ts)) over) in
    let spelled : as_str found.0 ≡ Some c.in-Some.path.now = sym (c.text_of.ensures found.0 found.2) ∙ ap (option_map (λ s. s.now)) c.in-Some.is in
    sym (value_there text found.0 c.in-Ok.ensures.1 is ∙ ap (option_and_then path_of) spelled ∙ c.in-Ok-parse.ensures.exact)

pub returns-in-Err-BadPath : goal.returns-in-Err-BadPath
returns-in-Err-BadPath c =
    let text = c.args.text.now in
    let from : tokens text ≡ c.in_ok-reader.reader = ap tokens (sym c.in-Ok.ensures.0) ∙ sym c.in_ok-reader.ensures.ok in
    let found = c.in-Ok-read_value.ensures.ok in
    let over = no_token c.next.result c.read_value.new.reader c.next.new.self c.if-is_some.ensures c.next.ensures.value in
    let is = all_ahead text found.0 (ap (data_at 127) from ∙ found.1 ∙ ap (λ ts. Some (found.0, ts)) over) in
    let spelled : as_str found.0 ≡ Some c.in-Some.path.now = sym (c.text_of.ensures found.0 found.2) ∙ ap (option_map (λ s. s.now)) c.in-Some.is in
    let bad : path_of c.in-Some.path.now ≡ None = c.parse.ensures.bad (grind arith) in
    sym (value_there text found.0 c.in-Ok.ensures.1 is ∙ ap (option_and_then path_of) spelled ∙ bad)
