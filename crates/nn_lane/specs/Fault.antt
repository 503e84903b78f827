-- The numbers of the faults of this crate.
use Rattle.std.specs.Prelude.{ℕ}
use Rattle.nn_types.specs.declared.fault.TheConstants.{FULL, CLOSED, EXHAUSTED}
use Rattle.nn_lane.specs.declared.fault.Refusal.{Refusal}
use Rattle.nn_lane.specs.declared.fault.Refusal.TheVariants.{Closed, Exhausted, Full}

abbrev pub number_of : Refusal → ℕ
number_of (Closed message accepted) = CLOSED
number_of (Exhausted message) = EXHAUSTED
number_of (Full message taken) = FULL
