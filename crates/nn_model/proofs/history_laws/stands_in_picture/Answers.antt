use Rattle.nn_model.proofs.history_laws.stands_in_picture.Goals as goal
use Rattle.nn_model.proofs.Standings.{replays_picture, tables_show_picture}

pub returns-clause-replay : goal.returns-clause-replay
returns-clause-replay c = replays_picture

pub returns-clause-tables : goal.returns-clause-tables
returns-clause-tables c = tables_show_picture
