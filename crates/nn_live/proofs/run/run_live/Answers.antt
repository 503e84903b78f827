use Rattle.std.proofs.Common.{◌++◌, [], Some, None, refl, subst, arith, inl, inr}
use Rattle.std.proofs.lemmas.Result.{IfOk-weaker, IfErr-weaker}
use Rattle.nn_live.specs.Running.{IsEnd, halt_text, serving_by}
use Rattle.nn_live.proofs.Serves.{end_output, halt_output, lost_prefix}
use Rattle.nn_live.proofs.run.run_live.Goals as goal

pub returns-in-Err-clause-written : goal.returns-in-Err-clause-written
returns-in-Err-clause-written g c =
    let w = c.args.writer.now in
    IfOk-weaker c.halt.result _ _ (λ done so. record {
      output = record { text = halt_text c.in-Err.why; status = 1 };
      right = c.in-Err.ensures.output;
      took = so.1 w [] (c.new-page.ensures w);
      ends = so.0;
    }) c.halt.ensures.written

pub returns-in-Err-clause-prefix : goal.returns-in-Err-clause-prefix
returns-in-Err-clause-prefix g c =
    let w = c.args.writer.now in
    let text = halt_text c.in-Err.why in
    IfErr-weaker c.halt.result _ _ (λ fault prefix. record {
      text = text;
      right = inl (record { text = text; status = 1 }, c.in-Err.ensures.output, refl);
      prefix = prefix w [] (c.new-page.ensures w) c.taken-before.ensures;
    }) c.halt.ensures.prefix

pub returns-in-Ok-Some-clause-written : goal.returns-in-Ok-Some-clause-written
returns-in-Ok-Some-clause-written g c =
    let w = c.args.writer.now in
    let o = c.args.options.now in
    let run = serving_by o c.args.input.now c.serve.new.input in
    let end = c.in-Ok-Some.ensures.ended in
    let status = c.in-Ok-Some.status in
    let some : IsEnd run end.0 c.serve.new.page.lost (Some status) = subst (IsEnd run end.0 c.serve.new.page.lost) c.in-Ok-Some.field-0-is (end.2 o c.args.input.now c.in-Ok.ensures.begun) in
    let put = end.1 w [] (c.new-page.ensures w) in
    IfOk-weaker c.finish.result _ _ (λ done so. record {
      output = record { text = end.0; status = status };
      right = end_output run end.0 status some;
      took = so.1 w end.0 put;
      ends = so.0;
    }) c.finish.ensures.written

pub returns-in-Ok-Some-clause-prefix : goal.returns-in-Ok-Some-clause-prefix
returns-in-Ok-Some-clause-prefix g c =
    let w = c.args.writer.now in
    let o = c.args.options.now in
    let run = serving_by o c.args.input.now c.serve.new.input in
    let end = c.in-Ok-Some.ensures.ended in
    let status = c.in-Ok-Some.status in
    let some : IsEnd run end.0 c.serve.new.page.lost (Some status) = subst (IsEnd run end.0 c.serve.new.page.lost) c.in-Ok-Some.field-0-is (end.2 o c.args.input.now c.in-Ok.ensures.begun) in
    let put = end.1 w [] (c.new-page.ensures w) in
    IfErr-weaker c.finish.result _ _ (λ fault prefix. record {
      text = end.0;
      right = inl (record { text = end.0; status = status }, end_output run end.0 status some, refl);
      prefix = prefix w end.0 put c.taken-before.ensures;
    }) c.finish.ensures.prefix

pub returns-in-Ok-None-clause-prefix : goal.returns-in-Ok-None-clause-prefix
returns-in-Ok-None-clause-prefix g c =
    let w = c.args.writer.now in
    let o = c.args.options.now in
    let run = serving_by o c.args.input.now c.serve.new.input in
    let end = c.in-Ok-None.ensures.ended in
    let none : IsEnd run end.0 c.serve.new.page.lost None = subst (IsEnd run end.0 c.serve.new.page.lost) c.in-Ok-None.field-0-is (end.2 o c.args.input.now c.in-Ok.ensures.begun) in
    let took = lost_prefix c.serve.new.page w c.serve.new.writer end.0 none.0 (end.1 w [] (c.new-page.ensures w)) in
    record {
      text = end.0;
      right = inr none.1;
      prefix = record { took = took; told = omega (arith, c.taken-before.ensures, c.unwritten.ensures, took.counted) };
    }

pub returns-in-Err-serve-clause-written : goal.returns-in-Err-serve-clause-written
returns-in-Err-serve-clause-written g c =
    let w = c.args.writer.now in
    let o = c.args.options.now in
    let run = serving_by o c.args.input.now c.serve.new.input in
    let why = c.in-Err-serve.why in
    let halted = c.in-Err-serve.ensures.halted in
    IfOk-weaker c.halt-in-Err-serve.result _ _ (λ done so. record {
      output = record { text = halted.0 ++ halt_text why; status = 1 };
      right = halt_output run halted.0 why (halted.2 o c.args.input.now c.in-Ok.ensures.begun);
      took = so.1 w halted.0 (halted.1 w [] (c.new-page.ensures w));
      ends = so.0;
    }) c.halt-in-Err-serve.ensures.written

pub returns-in-Err-serve-clause-prefix : goal.returns-in-Err-serve-clause-prefix
returns-in-Err-serve-clause-prefix g c =
    let w = c.args.writer.now in
    let o = c.args.options.now in
    let run = serving_by o c.args.input.now c.serve.new.input in
    let why = c.in-Err-serve.why in
    let halted = c.in-Err-serve.ensures.halted in
    let text = halted.0 ++ halt_text why in
    IfErr-weaker c.halt-in-Err-serve.result _ _ (λ fault prefix. record {
      text = text;
      right = inl (record { text = text; status = 1 }, halt_output run halted.0 why (halted.2 o c.args.input.now c.in-Ok.ensures.begun), refl);
      prefix = prefix w halted.0 (halted.1 w [] (c.new-page.ensures w)) c.taken-before.ensures;
    }) c.halt-in-Err-serve.ensures.prefix
