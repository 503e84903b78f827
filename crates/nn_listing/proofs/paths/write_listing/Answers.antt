use Rattle.std.proofs.Common.{◌≡◌, [], IfErr, subst}
use Rattle.std.proofs.lemmas.Result.{on_ok_weaker, IfErr-weaker}
use Rattle.nn_device.specs.Page.{HasPut}
use Rattle.nn_device.specs.declared.writer.OutputFault.TheVariants.{WriteFailed, OutOfMemory}
use Rattle.nn_listing.specs.Listing.{listing_text}
use Rattle.nn_listing.proofs.paths.write_listing.Given.{Over}
use Rattle.nn_listing.proofs.paths.write_listing.Goals as goal

-- all of it was put
whole : (g : Over) (c : goal.After-end g) → HasPut c.args.writer.now (listing_text c.args.last c.args.namespace.now) c.put.new.page c.put.new.writer
whole g c = rw c.in-Ok.ensures at c.put.ensures c.args.writer.now [] (c.new-page.ensures c.args.writer.now)

pub returns-clause-ok : goal.returns-clause-ok
returns-clause-ok g c = on_ok_weaker c.end.result (λ took. took c.args.writer.now _ (whole g c)) c.end.ensures.ok

pub returns-clause-prefix : goal.returns-clause-prefix
returns-clause-prefix g c = IfErr-weaker c.end.result _ _ (λ cause prefix. prefix c.args.writer.now _ (whole g c)) c.end.ensures.prefix

pub returns-clause-memory : goal.returns-clause-memory
returns-clause-memory g c = λ is. let other : OutOfMemory ≡ WriteFailed = subst (λ r. IfErr r (λ cause. cause ≡ WriteFailed)) is c.end.ensures.cause in cc
