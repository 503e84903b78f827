-- The words for what happened to a replica, and for what a replica is worth.
use Rattle.std.specs.Prelude.{ℕ, List, codes}
use Rattle.nn_types.specs.declared.report.Kind.{Kind}
use Rattle.nn_types.specs.declared.report.Kind.TheVariants.{Receiving, Received, Deleted, Begin, Listed, Finish}
use Rattle.nn_types.specs.declared.replica.Class.{Class}
use Rattle.nn_types.specs.declared.replica.Class.TheVariants.{Stale, Ahead, Building, Live, WrongLength}

abbrev pub kind_text : Kind → List ℕ
kind_text Receiving = codes "receiving"
kind_text Received = codes "received"
kind_text Deleted = codes "deleted"
kind_text Begin = codes "report_begin"
kind_text Listed = codes "listed"
kind_text Finish = codes "report_end"

abbrev pub class_text : Class → List ℕ
class_text Live = codes "live"
class_text Building = codes "building"
class_text Stale = codes "stale"
class_text Ahead = codes "ahead"
class_text WrongLength = codes "wronglength"
