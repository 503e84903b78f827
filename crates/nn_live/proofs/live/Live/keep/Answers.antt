use Rattle.std.proofs.Common.{sym, subst}
use Rattle.nn_live.specs.Taking.{Live, HasTorn}
use Rattle.nn_live.proofs.Cutting.{kept_on, torn_more}
use Rattle.nn_live.proofs.live.Live.keep.Goals as goal

pub invariant_of-self : goal.invariant_of-self
invariant_of-self c = kept_on c.push.result c.args.bytes.now c.self.inside.torn c.push.new.self c.requires c.push.ensures.ok c.push.ensures.left c.self.invariant

pub invariant_of-self-2 : goal.invariant_of-self-2
invariant_of-self-2 c = kept_on c.push.result c.args.bytes.now c.self.inside.torn c.push.new.self c.requires c.push.ensures.ok c.push.ensures.left c.self.invariant

pub returns-clause-ok : goal.returns-clause-ok
returns-clause-ok c torn there =
    torn_more torn c.args.bytes.now c.self.inside.torn c.push.new.self c.requires (c.in_default.ensures.ok torn) (subst (λ (x : Live). HasTorn torn x.torn) (sym c.self.view_is) there)
