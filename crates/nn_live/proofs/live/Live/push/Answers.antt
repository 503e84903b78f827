use Rattle.std.proofs.Common.{◌≡◌, arith, Err, ◌++◌, ◌∷◌, [], true, ap, ◌∙◌, subst, sym, refl, append-nil, append_assoc}
use Rattle.std.proofs.lemmas.Result.{IfOk-weaker, IfErr-weaker}
use Rattle.nn_bytes.specs.Lines.{line_feed}
use Rattle.nn_device.proofs.Pages.{puts_both, puts_nothing}
use Rattle.nn_bytes.proofs.PieceLemmas.{unbroken_to}
use Rattle.nn_bytes.specs.Pieces.{is_unbroken}
use Rattle.nn_live.specs.Taking.{Live, TakesBytes, Pushes}
use Rattle.nn_live.proofs.BrokenPushes.{rest_untaken, then_line_broke}
use Rattle.nn_live.proofs.Places.{not_memory, on_err}
use Rattle.nn_live.proofs.Cutting.{prefix_cut, none_cut, kept, none_taken, some_came, then_pushes}
use Rattle.nn_live.proofs.live.Live.push.Goals as goal

pub lines-init : goal.lines-init
lines-init g c = ([], puts_nothing c.args.page.now c.args.writer.now, [], refl, none_taken [] c.args.self.now)

pub returns-in_default-clause-ok : goal.returns-in_default-clause-ok
returns-in_default-clause-ok g c =
    let was = c.lines.invariant in
    let text = c.split_at.result.0.now in
    let old = c.args.self.now in
    let mid : Live = c.lines.self in
    let new : Live = c.keep.new.self in
    let cut = none_cut c.lines.rest.now text c.split_at.result.1.now c.line_end.result c.split_at.ensures.front c.split_at.ensures.back c.in_default.ensures.cases in
    let all : was.2 ++ text ≡ c.args.bytes.now = ap (λ t. was.2 ++ t) (sym (append-nil text) ∙ sym cut) ∙ sym was.3 in
    IfOk-weaker c.keep.result _ _ (λ _ has. (
      was.0,
      was.1,
      subst (λ b. Pushes b old new was.0) all (subst (λ t. Pushes (was.2 ++ text) old new t) (append-nil was.0) (then_pushes was.2 text was.0 [] old mid new was.4 (kept text mid new c.keep.ensures.service has))),
    )) c.keep.ensures.ok

pub returns-in_default-clause-exhausted : goal.returns-in_default-clause-exhausted
returns-in_default-clause-exhausted g c is = absurd (not_memory _ is c.keep.ensures.left)

pub returns-in_default-clause-prefix : goal.returns-in_default-clause-prefix
returns-in_default-clause-prefix g c =
    let was = c.lines.invariant in
    let text = c.split_at.result.0.now in
    let cut = none_cut c.lines.rest.now text c.split_at.result.1.now c.line_end.result c.split_at.ensures.front c.split_at.ensures.back c.in_default.ensures.cases in
    IfErr-weaker c.keep.result _ _ (λ _ some. (
      was.0,
      was.1,
      rest_untaken c.args.bytes.now was.2 c.lines.rest.now was.0 c.args.self.now c.lines.self was.3 (λ none. some (sym (append-nil text) ∙ sym cut ∙ none)) was.4,
    )) c.keep.ensures.some

pub returns-in_err-end_line-clause-exhausted : goal.returns-in_err-end_line-clause-exhausted
returns-in_err-end_line-clause-exhausted g c is =
    let was = c.lines.invariant in
    let told : c.from_residual.result ≡ Err c.in_err-end_line.field-0.0 = grind arith in
    let rest = c.lines.rest.now in
    let taken : TakesBytes c.args.bytes.now rest c.args.self.now c.lines.self was.0 =
    subst (λ b. TakesBytes b rest c.args.self.now c.lines.self was.0) (sym was.3) (some_came was.2 rest was.0 c.args.self.now c.lines.self was.4) in
    (c.lines.self, rest, was.0, taken, c.end_line.ensures.exhausted (c.in_err-end_line.was ∙ sym told ∙ is))

pub lines-preserved : goal.lines-preserved
lines-preserved g c =
    let was = c.lines.invariant in
    let line = c.in_ok-end_line.ensures.ok in
    let text = c.split_at.result.0.now in
    let after = c.in-Some.after.now in
    let old = c.args.self.now in
    let cut = prefix_cut c.lines.rest.now text c.split_at.result.1.now after c.in-Some.field-0-0.now c.line_end.result c.split_at.ensures.front c.split_at.ensures.back c.in-Some.ensures.cases.0 c.line_end.ensures.there in (
      was.0 ++ line.0,
      puts_both was.0 line.0 _ _ _ _ _ _ was.1 line.1,
      was.2 ++ (text ++ line_feed ∷ []),
      was.3 ∙ ap (λ r. was.2 ++ r) cut ∙ sym (append_assoc was.2 (text ++ line_feed ∷ []) after),
      then_pushes was.2 (text ++ line_feed ∷ []) was.0 line.0 old c.lines.self c.end_line.new.self was.4 line.2,
    )

pub returns-in_err-end_line-clause-prefix : goal.returns-in_err-end_line-clause-prefix
returns-in_err-end_line-clause-prefix g c =
    let was = c.lines.invariant in
    let prefix = c.in_err-end_line.ensures.prefix in
    let text = c.split_at.result.0.now in
    let after = c.in-Some.after.now in
    let whole : is_unbroken text ≡ true = ap is_unbroken c.split_at.ensures.front ∙ unbroken_to _ _ c.line_end.ensures.end in
    let cut = prefix_cut c.lines.rest.now text c.split_at.result.1.now after c.in-Some.field-0-0.now c.line_end.result c.split_at.ensures.front c.split_at.ensures.back c.in-Some.ensures.cases.0 c.line_end.ensures.there in
    on_err _ c.from_residual.result (
      was.0 ++ prefix.0,
      puts_both was.0 prefix.0 _ _ _ _ _ _ was.1 prefix.1,
      then_line_broke c.args.bytes.now was.2 text after was.0 prefix.0 c.args.self.now c.lines.self (was.3 ∙ ap (λ r. was.2 ++ r) cut) whole was.4 prefix.2,
    )

pub keep-requires : goal.keep-requires
keep-requires g c = ap is_unbroken c.split_at.ensures.front ∙ unbroken_to _ _ c.line_end.ensures.end

pub end_line-requires : goal.end_line-requires
end_line-requires g c = ap is_unbroken c.split_at.ensures.front ∙ unbroken_to _ _ c.line_end.ensures.end
