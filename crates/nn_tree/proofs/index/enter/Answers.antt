use Rattle.std.proofs.Common.{refl, sym, ap, arith}
use Rattle.std.specs.BTreeMap.{is_at}
use Rattle.nn_sorted.specs.Values.{value_at}
use Rattle.std.specs.Map.{lookup as lookup_by}
use Rattle.std.specs.Ordering.{nat_cmp}
use Rattle.nn_tree.proofs.Entered.{forgotten, there_already, one_more}
use Rattle.nn_tree.proofs.index.enter.Goals as goal

pub returns-then-contains_key-clause-refused : goal.returns-then-contains_key-clause-refused
returns-then-contains_key-clause-refused c =
    λ refused. there_already (λ id. value_at nat_cmp c.args.index.now id) (λ id. value_at nat_cmp c.entering.index id) c.args.blocks.now c.args.closed c.entering.done c.entering.invariant.entering
    c.index-blocks-done.result c.entering-test.true c.index-blocks-done.is
    (sym c.if-contains_key.ensures)

pub returns-then-contains_key-clause-err : goal.returns-then-contains_key-clause-err
returns-then-contains_key-clause-err c =
    forgotten (λ id. value_at nat_cmp c.args.index.now id) (λ id. value_at nat_cmp c.entering.index id) c.args.blocks.now c.args.closed c.entering.done c.entering.invariant.entering
    (λ id. value_at nat_cmp c.entering.index id) (λ id. value_at nat_cmp c.forget.new.index id) c.args.ids.now c.requires (λ q. refl) c.forget.ensures

pub returns-in_default-clause-err : goal.returns-in_default-clause-err
returns-in_default-clause-err c =
    forgotten (λ id. value_at nat_cmp c.args.index.now id) (λ id. value_at nat_cmp c.entering.index id) c.args.blocks.now c.args.closed c.entering.done c.entering.invariant.entering
    (λ id. value_at nat_cmp c.insert.new.self id) (λ id. value_at nat_cmp c.forget-in_default.new.index id) c.args.ids.now c.requires (λ q. ap (lookup_by (is_at (nat_cmp q))) c.in_default.ensures.err) c.forget-in_default.ensures

pub entering-preserved : goal.entering-preserved
entering-preserved c = record {
  within = (let less = c.entering-test.true in omega (arith, less));
  entering =
      one_more (λ id. value_at nat_cmp c.args.index.now id) (λ id. value_at nat_cmp c.entering.index id) c.args.blocks.now c.args.closed c.entering.done c.entering.invariant.entering
      c.index-blocks-done.result c.entering-test.true c.index-blocks-done.is (λ id. value_at nat_cmp c.insert.new.self id)
      (sym c.if-contains_key.ensures)
      c.in-Ok.ensures.updates;
}
