-- A standby that starts over a namespace and the txid of its last transaction.
use Rattle.std.specs.Prelude.{◌≡◌, ℕ, List, [], None, false}
use Rattle.nn_lane.specs.Ends.{LaneEnd}
use Rattle.nn_model.specs.Namespace.{Namespace}
use Rattle.nn_model.specs.Stands.{fresh}
use Rattle.nn_shadow.specs.Contents.{standby_of}
use Rattle.nn_lane_standby.specs.Tailing.{has_begun, Standby, StandsAt}

-- a standby with no log and no messages over this namespace, of which this was the last txid
pub record IsNewAt (start : Namespace) (base : ℕ) (own : List LaneEnd) (x : Standby) : Type 0 where
  pub ends : x.ends ≡ own
  pub begun : has_begun x ≡ false
  pub stop : x.stop ≡ None
  pub active : x.active ≡ false
  pub shadow : standby_of x.shadow ≡ fresh start base
  pub stands : StandsAt start base [] x

-- its namespace and its last txid, which make an image
abbrev pub point_of : Standby → Namespace × ℕ
point_of x = (x.shadow.namespace, x.shadow.last)
