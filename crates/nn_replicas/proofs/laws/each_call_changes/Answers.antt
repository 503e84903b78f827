use Rattle.nn_replicas.proofs.Lookups.{make_room_makes, set_block_names, place_places, put_writes, erase_writes, retire_retires}
use Rattle.nn_replicas.proofs.Told.{due_writes, early_places}
use Rattle.nn_replicas.proofs.GivenBack.{give_back_gives}
use Rattle.nn_replicas.proofs.laws.each_call_changes.Goals as goal

pub returns-clause-make_room : goal.returns-clause-make_room
returns-clause-make_room c = make_room_makes

pub returns-clause-set_block : goal.returns-clause-set_block
returns-clause-set_block c = set_block_names

pub returns-clause-place : goal.returns-clause-place
returns-clause-place c = place_places

pub returns-clause-put : goal.returns-clause-put
returns-clause-put c = put_writes

pub returns-clause-erase : goal.returns-clause-erase
returns-clause-erase c = erase_writes

pub returns-clause-tell_due : goal.returns-clause-tell_due
returns-clause-tell_due c = due_writes

pub returns-clause-tell_early : goal.returns-clause-tell_early
returns-clause-tell_early c = early_places

pub returns-clause-retire : goal.returns-clause-retire
returns-clause-retire c = retire_retires

pub returns-clause-give_back : goal.returns-clause-give_back
returns-clause-give_back c = give_back_gives
