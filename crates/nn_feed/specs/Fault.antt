-- The numbers of the faults of this crate.
use Rattle.std.specs.Prelude.{ℕ}
use Rattle.nn_types.specs.declared.fault.TheConstants.{ENDED, GONE}
use Rattle.nn_segment.specs.Fault.{number_of_source}
use Rattle.nn_feed.specs.declared.fault.FeedFault.{FeedFault}
use Rattle.nn_feed.specs.declared.fault.FeedFault.TheVariants.{Source, Refused}
use Rattle.nn_feed.specs.declared.fault.Refusal.{Refusal}
use Rattle.nn_feed.specs.declared.fault.Refusal.TheVariants.{Ended, Gone}

abbrev pub number_of : Refusal → ℕ
number_of (Ended answer) = ENDED
number_of (Gone answer place) = GONE

abbrev pub number_of_fault : FeedFault → ℕ
number_of_fault (Source fault) = number_of_source fault
number_of_fault (Refused refusal) = number_of refusal
