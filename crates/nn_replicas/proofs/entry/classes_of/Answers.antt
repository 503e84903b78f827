use Rattle.std.proofs.Common.{◌≡◌, take, length, ap, ◌∙◌, arith}
use Rattle.std.proofs.Math.Seq.{take-length}
use Rattle.nn_types.specs.declared.replica.Class.TheVariants.{Stale, Ahead, Live, WrongLength}
use Rattle.nn_replicas.specs.Figures.{classes_in, with_class}
use Rattle.nn_replicas.proofs.Classed.{one_more, one_fits}
use Rattle.nn_replicas.proofs.entry.classes_of.Goals as goal

pub with-classes-requires : goal.with-classes-requires
with-classes-requires c =
    let cells = c.args.cells.now in
    let block = c.args.block.now in
    let at = c.loop-slot.slot-index in
    record {
      live = one_fits Live block cells at _ (ap (λ x. x.live) c.loop-slot.invariant) c.loop-slot-test.true (omega arith);
      stale = one_fits Stale block cells at _ (ap (λ x. x.stale) c.loop-slot.invariant) c.loop-slot-test.true (omega arith);
      ahead = one_fits Ahead block cells at _ (ap (λ x. x.ahead) c.loop-slot.invariant) c.loop-slot-test.true (omega arith);
      wrong_length = one_fits WrongLength block cells at _ (ap (λ x. x.wrong_length) c.loop-slot.invariant) c.loop-slot-test.true (omega arith);
    }

pub loop-slot-preserved : goal.loop-slot-preserved
loop-slot-preserved c =
    let cells = c.args.cells.now in
    let block = c.args.block.now in
    let at = c.loop-slot.slot-index in
    let slot = c.slot-item.result in
    c.with-classes.ensures ∙ ap (with_class c.loop-slot.classes) c.class_in.ensures
    ∙ (λ i. record {
      live = one_more Live block cells at slot _ (ap (λ x. x.live) c.loop-slot.invariant) c.loop-slot-test.true c.slot-item.is i;
      stale = one_more Stale block cells at slot _ (ap (λ x. x.stale) c.loop-slot.invariant) c.loop-slot-test.true c.slot-item.is i;
      ahead = one_more Ahead block cells at slot _ (ap (λ x. x.ahead) c.loop-slot.invariant) c.loop-slot-test.true c.slot-item.is i;
      wrong_length = one_more WrongLength block cells at slot _ (ap (λ x. x.wrong_length) c.loop-slot.invariant) c.loop-slot-test.true c.slot-item.is i;
    })

pub loop-slot-init : goal.loop-slot-init
loop-slot-init c = c.none-classes.ensures

pub returns : goal.returns
returns c =
    let at : c.loop-slot.slot-index ≡ length c.args.cells.now = omega (arith, c.loop-slot-test.false, c.loop-slot.auto.slot-index-end) in
    c.loop-slot.invariant ∙ ap (λ n. classes_in c.args.block.now (take n c.args.cells.now)) at ∙ ap (classes_in c.args.block.now) (take-length c.args.cells.now)
