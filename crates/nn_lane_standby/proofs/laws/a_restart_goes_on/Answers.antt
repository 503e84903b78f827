use Rattle.nn_lane_standby.proofs.Again.{goes_on, reads_again, stops_again, keeps_status, keeps_old_status}
use Rattle.nn_lane_standby.proofs.laws.a_restart_goes_on.Goals as goal

pub returns-clause-log : goal.returns-clause-log
returns-clause-log c = goes_on

pub returns-clause-again : goal.returns-clause-again
returns-clause-again c = reads_again

pub returns-clause-stopped : goal.returns-clause-stopped
returns-clause-stopped c = stops_again

pub returns-clause-status : goal.returns-clause-status
returns-clause-status c = keeps_status

pub returns-clause-old_status : goal.returns-clause-old_status
returns-clause-old_status c = keeps_old_status
