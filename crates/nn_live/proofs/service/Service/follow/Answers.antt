use Rattle.std.proofs.Common.{◌≡◌, [], ◌∷◌, ◌++◌, true, false, subst, arith}
use Rattle.std.specs.Prelude.{is_none}
use Rattle.std.proofs.lemmas.List.{nil_from_length}
use Rattle.nn_device.proofs.Pages.{puts_both, puts_nothing}
use Rattle.nn_shadow.specs.Contents.{standby_of}
use Rattle.nn_shadow.specs.Refusals.{apply_refusal}
use Rattle.nn_live.proofs.Breaking.{none_more}
use Rattle.nn_live.proofs.BrokenEdits.{some_followed}
use Rattle.nn_live.proofs.Places.{on_err}
use Rattle.nn_live.proofs.Following.{Came, none_came, one_more, last_one, all_came}
use Rattle.nn_live.specs.Live.{follows}
use Rattle.nn_live.proofs.service.Service.follow.Goals as goal

pub txs-init : goal.txs-init
txs-init g c = ([], puts_nothing c.args.page.now c.args.writer.now, none_came c.args.self.now c.args.txs.now)

pub returns-then-not-branch : goal.returns-then-not-branch
returns-then-not-branch g c =
    let held = c.txs.invariant in
    let step = c.in_ok-apply.ensures.ok in
    let cut : c.txs.rest.now ≡ c.in-Some.tx.now ∷ c.in-Some.later.now = grind arith in
    let came = subst (λ rest. Came c.args.self.now c.txs.self c.args.txs.now rest held.0) cut held.2 in
    let refused : false ≡ is_none (apply_refusal c.txs.self.shadow.phase (standby_of c.txs.self.shadow) c.in-Some.tx.now) = grind arith in
    record {
      ok = (
        held.0 ++ step.0,
        puts_both held.0 step.0 _ _ _ _ _ _ held.1 step.1,
        last_one c.args.self.now c.txs.self c.apply.new.self c.args.txs.now c.in-Some.later.now c.in-Some.tx.now held.0 step.0 step.2 came refused,
      );
      memory = tt;
      prefix = tt;
    }

pub txs-preserved : goal.txs-preserved
txs-preserved g c =
    let held = c.txs.invariant in
    let step = c.in_ok-apply.ensures.ok in
    let cut : c.txs.rest.now ≡ c.in-Some.tx.now ∷ c.in-Some.later.now = grind arith in
    let came = subst (λ rest. Came c.args.self.now c.txs.self c.args.txs.now rest held.0) cut held.2 in
    let fits : true ≡ is_none (apply_refusal c.txs.self.shadow.phase (standby_of c.txs.self.shadow) c.in-Some.tx.now) = grind arith in (
      held.0 ++ step.0,
      puts_both held.0 step.0 _ _ _ _ _ _ held.1 step.1,
      one_more c.args.self.now c.txs.self c.apply.new.self c.args.txs.now c.in-Some.later.now c.in-Some.tx.now held.0 step.0 step.2 came fits,
    )

pub returns : goal.returns
returns g c =
    let held = c.txs.invariant in
    let over : c.txs.rest.now ≡ [] = nil_from_length c.txs.rest.now c.in_default.ensures.cases in
    record {
      ok = (held.0, held.1, all_came c.args.self.now c.txs.self c.args.txs.now held.0 (subst (λ rest. Came c.args.self.now c.txs.self c.args.txs.now rest held.0) over held.2));
      memory = tt;
      prefix = tt;
    }

pub returns-in_err-apply-clause-prefix : goal.returns-in_err-apply-clause-prefix
returns-in_err-apply-clause-prefix g c =
    let held = c.txs.invariant in
    let cut : c.txs.rest.now ≡ c.in-Some.tx.now ∷ c.in-Some.later.now = grind arith in
    let came = subst (λ rest. Came c.args.self.now c.txs.self c.args.txs.now rest held.0) cut held.2 in
    let some = some_followed c.args.self.now c.txs.self c.args.txs.now c.in-Some.later.now c.in-Some.tx.now held.0 came in
    let more = none_more (λ asked s. follows asked c.args.txs.now s) c.args.self.now held.0 some in
    on_err _ c.from_residual.result (held.0 ++ [], puts_both held.0 [] _ _ _ _ _ _ held.1 c.in_err-apply.ensures.put, more)
