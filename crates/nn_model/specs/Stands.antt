-- When a standby stands at a log and at lanes: what it shows is what they say.
use Rattle.std.specs.Prelude.{◌≡◌, ◌↔◌, ℕ, ◌+◌, Bool, false, ◌&&◌, List, [], ◌∷◌, length, Option, None, nat_le, nat_lt, ◌==◌}
use Rattle.std.specs.List.{list_any}
use Rattle.nn_types.specs.declared.report.Message.{Message}
use Rattle.nn_types.specs.declared.event.Cause.TheVariants.{Flush}
use Rattle.nn_types.specs.declared.tx.Tx.{Tx}
use Rattle.nn_types.specs.declared.replica.Replica.{Replica}
use Rattle.nn_model.specs.Namespace.{Namespace}
use Rattle.nn_model.specs.WellFormed.{Includes, HasWellFormedBlocks}
use Rattle.nn_model.specs.Log.{namespace_after, IsLog}
use Rattle.nn_model.specs.Lanes.{Lanes, AreNumberedLanes, IsSent}
use Rattle.nn_model.specs.Items.{items, NodeState, nothing_known, node_state, lane_items}
use Rattle.nn_model.specs.Held.{IsHeld}
use Rattle.nn_model.specs.History.{History, processed}
use Rattle.nn_model.specs.Lawful.{IsLawful}
use Rattle.nn_model.specs.Replay.{Sequential, replay}

-- what a standby shows
pub record StandbyState : Type 0 where
  pub namespace : Namespace
  pub last : ℕ  -- the last txid
  pub history : History
  pub replica : ℕ → ℕ → Option Replica  -- of a DataNode and a block
  pub has_order : ℕ → ℕ → Bool
  pub held : List Message  -- by block, and then in the order of arrival
  pub last_number : ℕ → ℕ  -- of each DataNode
  pub had : ℕ → NodeState  -- of each DataNode

-- a standby that did nothing yet
abbrev pub fresh : Namespace → ℕ → StandbyState
fresh n base = record {
  namespace = n;
  last = base;
  history = [];
  replica = λ dn id. None;
  has_order = λ dn id. false;
  held = [];
  last_number = λ dn. 0;
  had = λ dn. nothing_known;
}

-- its tables, as those of the sequential standby
abbrev pub tables_of : StandbyState → Sequential
tables_of x = record { namespace = x.namespace; replica = x.replica; has_order = x.has_order }

-- block ids ascend
abbrev pub AreByBlock : List Message → Type 0
AreByBlock [] = Unit {0}
AreByBlock (m ∷ messages) = (list_any (λ later. nat_lt later.block m.block) messages ≡ false) × AreByBlock messages

-- the second item is of the first one's DataNode and about its block, and has no greater number
abbrev pub is_no_later : Message → Message → Bool
is_no_later m other = (other.dn == m.dn) && (other.block == m.block) && nat_le other.number m.number

-- the numbers of one DataNode's items about one block ascend, so no item is there twice
abbrev pub AreByNumber : List Message → Type 0
AreByNumber [] = Unit {0}
AreByNumber (m ∷ messages) = (list_any (is_no_later m) messages ≡ false) × AreByNumber messages

-- the item is held at the end of the log, and was not flushed yet
pub record IsLeft (start : Namespace) (txs : List Tx) (lanes : Lanes) (events : History) (m : Message) : Type 0 where
  pub sent : IsSent lanes m
  pub held : IsHeld (namespace_after start txs) lanes m
  pub not_flushed : Includes events (processed Flush m) → ⊥

-- The standby stands at the log of these transactions, which goes on from a base txid and a starting namespace, and at these lanes
pub record Stands (start : Namespace) (base : ℕ) (txs : List Tx) (lanes : Lanes) (x : StandbyState) : Type 0 where
  pub log : IsLog start base txs
  pub well_formed : HasWellFormedBlocks start
  pub numbered : AreNumberedLanes lanes
  -- the namespace is the log's
  pub namespace : x.namespace ≡ namespace_after start txs
  pub last : x.last ≡ base + length txs
  pub lawful : IsLawful start txs (items lanes) x.history
  -- the tables are those of the sequential standby after this history
  pub replicas : (dn id : ℕ) → x.replica dn id ≡ (replay start txs (items lanes) x.history).replica dn id
  pub orders : (dn id : ℕ) → x.has_order dn id ≡ (replay start txs (items lanes) x.history).has_order dn id
  -- what is held, each item once
  pub held : (m : Message) → Includes x.held m ↔ IsLeft start txs (items lanes) x.history m
  pub by_block : AreByBlock x.held
  pub by_number : AreByNumber x.held
  pub last_numbers : (dn : ℕ) → x.last_number dn ≡ length (lanes dn)
  -- what each DataNode has, and the full report that it is sending
  pub had : (dn : ℕ) → x.had dn ≡ node_state (lane_items (lanes dn))
