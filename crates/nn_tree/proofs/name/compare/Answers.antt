use Rattle.std.proofs.Common.{sym, arith}
use Rattle.nn_tree.proofs.Names.{is_below, is_above}
use Rattle.nn_tree.proofs.name.compare.Goals as goal

pub returns-then-prefix-other_prefix : goal.returns-then-prefix-other_prefix
returns-then-prefix-other_prefix c = sym (is_below c.args.prefix c.args.other_prefix c.args.text.now c.args.other.now (λ i. omega (arith, c.type_inv.text i)) (λ i. omega (arith, c.type_inv.other i)) c.requires.prefix c.requires.other c.if-prefix-other_prefix.true)

pub returns-then-prefix-other_prefix-2 : goal.returns-then-prefix-other_prefix-2
returns-then-prefix-other_prefix-2 c = sym (is_above c.args.prefix c.args.other_prefix c.args.text.now c.args.other.now (λ i. omega (arith, c.type_inv.text i)) (λ i. omega (arith, c.type_inv.other i)) c.requires.prefix c.requires.other c.if-prefix-other_prefix-2.true)
