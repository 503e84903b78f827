-- What follows for a caller from what a reading call gives.
use Rattle.std.proofs.Common.{◌≡◌, Result, Err}
use Rattle.nn_segment.specs.declared.fault.SegmentFault.{SegmentFault}
use Rattle.nn_segment.specs.declared.fault.SegmentFault.TheVariants.{BadName, TooLong, NoStart, TornLine, BadLine, Gap, WrongProfile, NoEnd, NameMismatch, OutOfMemory}
use Rattle.nn_segment.specs.Outcome.{SegmentGives}

pub gives_fault : {X : Type 0} (e : SegmentFault) (given : Result X SegmentFault) → given ≡ Err e → SegmentGives (Err e) given
gives_fault BadName given is = is
gives_fault TooLong given is = is
gives_fault NoStart given is = is
gives_fault (TornLine line) given is = is
gives_fault (BadLine line fault) given is = is
gives_fault (Gap expected) given is = is
gives_fault (WrongProfile line) given is = is
gives_fault NoEnd given is = is
gives_fault NameMismatch given is = is
gives_fault OutOfMemory given is = tt
