use Rattle.nn_replicas.proofs.Lookups.{new_in_order, make_room_in_order, set_block_in_order, place_in_order, put_in_order, erase_in_order, retire_in_order}
use Rattle.nn_replicas.proofs.Told.{due_in_order}
use Rattle.nn_replicas.proofs.GivenBack.{give_back_in_order}
use Rattle.nn_replicas.proofs.laws.tables_are_in_order.Goals as goal

pub returns-clause-new : goal.returns-clause-new
returns-clause-new c = new_in_order

pub returns-clause-make_room : goal.returns-clause-make_room
returns-clause-make_room c = make_room_in_order

pub returns-clause-set_block : goal.returns-clause-set_block
returns-clause-set_block c = set_block_in_order

pub returns-clause-place : goal.returns-clause-place
returns-clause-place c = place_in_order

pub returns-clause-put : goal.returns-clause-put
returns-clause-put c = put_in_order

pub returns-clause-erase : goal.returns-clause-erase
returns-clause-erase c = erase_in_order

pub returns-clause-tell_due : goal.returns-clause-tell_due
returns-clause-tell_due c = due_in_order

pub returns-clause-retire : goal.returns-clause-retire
returns-clause-retire c = retire_in_order

pub returns-clause-give_back : goal.returns-clause-give_back
returns-clause-give_back c = give_back_in_order
