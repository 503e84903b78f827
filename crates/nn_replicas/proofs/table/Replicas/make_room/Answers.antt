use Rattle.std.proofs.Common.{sym, ap, ◌∙◌, arith, length}
use Rattle.std.specs.Option.{option_copied}
use Rattle.nn_replicas.proofs.Tables.{none_there, add_new}
use Rattle.nn_replicas.proofs.RoomMade.{room_there}
use Rattle.nn_replicas.proofs.table.Replicas.make_room.Goals as goal

pub add-requires : goal.add-requires
add-requires c = record {
  none = none_there c.args.self.now c.self.inside.min c.args.block c.self.inside.entries c.self.view_is (sym (ap option_copied c.in_default.is) ∙ c.get.ensures.value);
  cells = (let new = ap (λ e. length e.cells) c.new.ensures in omega (arith, new));
}

pub returns-in_default-clause-ok : goal.returns-in_default-clause-ok
returns-in_default-clause-ok c =
    let none = none_there c.args.self.now c.self.inside.min c.args.block c.self.inside.entries c.self.view_is (sym (ap option_copied c.in_default.is) ∙ c.get.ensures.value) in
    c.in_ok-add.ensures.ok ∙ add_new c.args.self.now c.args.block (λ e. e) c.new.result none c.new.ensures

pub returns-clause-ok : goal.returns-clause-ok
returns-clause-ok c =
    room_there c.args.self.now c.self.inside.min c.args.block c.self.inside.entries c.in-Some._entry.now c.self.view_is c.in-Some.ensures.value c.self.invariant.1
