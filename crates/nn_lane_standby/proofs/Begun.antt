-- What is in hand when a source was asked.
use Rattle.std.proofs.Common.{◌≡◌, ℕ, List, Result, Ok, Err, subst, sym}
use Rattle.nn_types.specs.declared.tx.Tx.{Tx}
use Rattle.nn_model.specs.Log.{CountsUp}
use Rattle.nn_model.proofs.Logs.{counts_up}
use Rattle.nn_segment.specs.Source.{Answer}
use Rattle.nn_segment.specs.Cursor.{TakesUp}
use Rattle.nn_segment.specs.declared.fault.SourceFault.{SourceFault}
use Rattle.nn_segment.specs.declared.cursor.TakenUp.{TakenUp}
use Rattle.nn_segment.specs.declared.cursor.TakenUp.TheVariants as taken_up
use Rattle.nn_lane_standby.specs.Tailing.{Standby, Keeps, with_rest}

pub keeps_rest : (x : Standby) (rest : List Tx) → Keeps x → CountsUp x.shadow.last rest → Keeps (with_rest x rest)
keeps_rest x rest k h = record {
  lanes = k.lanes;
  few = k.few;
  count = k.count;
  numbers = k.numbers;
  next = h;
  live = k.live;
  stops = k.stops;
  begun_live = k.begun_live;
  not_begun = k.not_begun;
  before_flush = k.before_flush;
}

-- what is in hand goes on counting up, whatever the source answered
up_after : (last : ℕ) (hand new : List Tx) (answer : Answer) (r : Result TakenUp SourceFault) → TakesUp last hand answer new r → CountsUp last hand → CountsUp last new
up_after last hand new answer (Ok taken_up.New) h up = subst (CountsUp last) (sym h.4) (counts_up last h.0.txs)
up_after last hand new answer (Ok taken_up.Old) h up = subst (CountsUp last) (sym h.4) up
up_after last hand new answer (Ok taken_up.Disorder) h up = subst (CountsUp last) (sym h.4) up
up_after last hand new answer (Ok taken_up.End) h up = subst (CountsUp last) (sym h.1) up
up_after last hand new answer (Err fault) h up = subst (CountsUp last) (sym h.1) up

-- the cursor asked for what comes after the last txid
pub keeps_asked : (x : Standby) (last : ℕ) (new : List Tx) (answer : Answer) (r : Result TakenUp SourceFault) → Keeps x → last ≡ x.shadow.last → TakesUp last x.rest answer new r → Keeps (with_rest x new)
keeps_asked x last new answer r k is h =
    keeps_rest x new k (up_after x.shadow.last x.rest new answer r (subst (λ n. TakesUp n x.rest answer new r) is h) k.next)
