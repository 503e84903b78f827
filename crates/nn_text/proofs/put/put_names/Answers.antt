use Rattle.std.proofs.Common.{rules}
use Rattle.std.specs.Map.Iter.{deref}
use Rattle.nn_device.proofs.Pages.{last_of, next_of, puts_both}
use Rattle.nn_text.specs.Plain.{escaped_name}
use Rattle.nn_text.proofs.put.put_names.Goals as goal

pub loop-name-preserved : goal.loop-name-preserved
loop-name-preserved g c =
    next_of (λ n. escaped_name (deref n)) c.args.names.now c.loop-name.name-index _ c.args.page.now c.loop-name.page c.put_name.new.page c.args.writer.now c.loop-name.writer c.put_name.new.writer
    (search rules) c.loop-name.invariant (puts_both _ _ _ _ _ _ _ _ c.put_byte.ensures c.put_name.ensures)

pub returns : goal.returns
returns g c = last_of (λ n. escaped_name (deref n)) c.args.names.now c.loop-name.name-index c.args.page.now c.loop-name.page c.args.writer.now c.loop-name.writer (search rules) c.loop-name.invariant
