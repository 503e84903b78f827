use Rattle.std.proofs.Common.{◌∷◌, sym, ap, ◌∙◌, arith}
use Rattle.std.specs.List.{list_all}
use Rattle.std.proofs.lemmas.Str.{IsCharBoundary-before_ascii, IsCharBoundary-after_ascii}
use Rattle.nn_types.specs.Path.{is_name, parts}
use Rattle.nn_types.proofs.NextPart.{FirstPart, first_part, only_part}
use Rattle.nn_types.proofs.names.Names.split_first.Goals as goal

pub returns-then-end-text-clause-some : goal.returns-then-end-text-clause-some
returns-then-end-text-clause-some c =
    sym c.self.view_is ∙ only_part c.self.inside.text.now c.text_name_len-end.result c.text_name_len-end.ensures.value (sym c.is_empty.ensures ∙ c.if-is_empty.false) c.if-end-text.true

pub range-requires-clause-end_boundary : goal.range-requires-clause-end_boundary
range-requires-clause-end_boundary c =
    let d = c.self.inside.text.now in
    let end = c.text_name_len-end.result in
    let first : FirstPart d end = first_part d end c.text_name_len-end.ensures.value c.self.invariant (sym c.is_empty.ensures ∙ c.if-is_empty.false) c.if-end-text.false in
    IsCharBoundary-before_ascii d end c.if-end-text.false (omega (arith, first.slash_there))

pub range_from-requires : goal.range_from-requires
range_from-requires c _ =
    let d = c.self.inside.text.now in
    let end = c.text_name_len-end.result in
    let first : FirstPart d end = first_part d end c.text_name_len-end.ensures.value c.self.invariant (sym c.is_empty.ensures ∙ c.if-is_empty.false) c.if-end-text.false in
    IsCharBoundary-after_ascii d end c.self.ranges.0.1 c.if-end-text.false (omega (arith, first.slash_there))

pub invariant_of-result-2 : goal.invariant_of-result-2
invariant_of-result-2 c =
    let d = c.self.inside.text.now in
    let end = c.text_name_len-end.result in
    let first : FirstPart d end = first_part d end c.text_name_len-end.ensures.value c.self.invariant (sym c.is_empty.ensures ∙ c.if-is_empty.false) c.if-end-text.false in
    ap (λ t. list_all is_name (parts t)) c.range_from.ensures.value ∙ first.rest

pub returns-clause-some : goal.returns-clause-some
returns-clause-some c =
    let d = c.self.inside.text.now in
    let end = c.text_name_len-end.result in
    let first : FirstPart d end = first_part d end c.text_name_len-end.ensures.value c.self.invariant (sym c.is_empty.ensures ∙ c.if-is_empty.false) c.if-end-text.false in
    sym c.self.view_is ∙ first.cut ∙ (λ i. sym c.range.ensures.value i ∷ parts (sym c.range_from.ensures.value i))
