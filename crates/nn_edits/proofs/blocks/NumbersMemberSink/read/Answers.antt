use Rattle.std.proofs.Common.{codes}
use Rattle.nn_edits.proofs.Puts.{kept}
use Rattle.nn_edits.proofs.blocks.NumbersMemberSink.read.Goals as goal

pub returns-clause-ok : goal.returns-clause-ok
returns-clause-ok c =
    let found = c.in_ok-value.ensures.ok in
    let k = c.args.key.now in
    let d = found.0 in
    let n = c.number_of.result in
    let is = c.number_of.ensures d found.2 in
    let old = c.args.self.now in (
      d,
      found.1,
      λ ms was. (
        kept (codes "id") k d ms _ n old.id c.put.ensures.id is was.0,
        kept (codes "gen") k d ms _ n old.stamp c.put.ensures.stamp is was.1,
        kept (codes "len") k d ms _ n old.len c.put.ensures.len is was.2,
      ),
    )
