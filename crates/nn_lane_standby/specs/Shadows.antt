-- What the standby of one thread underwent in a call, each in one record over what its calls promise.
use Rattle.std.specs.Prelude.{◌≡◌, ℕ, ◌+◌, true, List, [], ◌∷◌, ◌++◌}
use Rattle.nn_types.specs.declared.report.Message.{Message}
use Rattle.nn_types.specs.declared.tx.Tx.{Tx}
use Rattle.nn_model.specs.Namespace.{Namespace}
use Rattle.nn_model.specs.Held.{is_held}
use Rattle.nn_model.specs.History.{History}
use Rattle.nn_model.specs.Items.{items}
use Rattle.nn_model.specs.Lanes.{Lanes, followed_by}
use Rattle.nn_model.specs.Lawful.{IsWhole}
use Rattle.nn_model.specs.Picture.{ShowsPicture}
use Rattle.nn_model.specs.Stands.{Stands, tables_of}
use Rattle.nn_model.specs.WellFormed.{Includes}
use Rattle.nn_shadow.specs.Contents.{Shadow, standby_of, KeepsSettings}
use Rattle.nn_shadow.specs.Calls.{applied_to, waits, items_added, received, flushed, with_past}
use Rattle.nn_shadow.specs.Laws.{StandsBy}

-- the standby of one thread as if it had kept these events too, which were taken from its history before
abbrev pub shadow_with_past : History → Shadow → Shadow
shadow_with_past past x = record x { history = past ++ x.history }

-- it shows what it showed: room may have come
pub record ShowsSame (old new : Shadow) : Type 0 where
  pub standby : standby_of new ≡ standby_of old
  pub settings : KeepsSettings old new

pub record IsApplied (old : Shadow) (tx : Tx) (new : Shadow) : Type 0 where
  pub next : tx.txid ≡ old.last + 1
  pub standby : standby_of new ≡ applied_to (standby_of old) tx
  pub phase : new.phase ≡ old.phase
  pub settings : KeepsSettings old new
  pub stands : (past : History) (start : Namespace) (base : ℕ) (txs : List Tx) (lanes : Lanes) → StandsBy start base txs lanes (with_past past (standby_of old))
      → StandsBy start base (txs ++ tx ∷ []) lanes (with_past past (standby_of new))

pub record IsHanded (old : Shadow) (m : Message) (new : Shadow) : Type 0 where
  pub standby : standby_of new ≡ received (standby_of old) m
  pub phase : new.phase ≡ old.phase
  pub settings : KeepsSettings old new
  pub stands : (past : History) (start : Namespace) (base : ℕ) (txs : List Tx) (lanes : Lanes) → StandsBy start base txs lanes (with_past past (standby_of old))
      → StandsBy start base txs (followed_by lanes m) (with_past past (standby_of new))
  pub held : (past : History) (start : Namespace) (base : ℕ) (txs : List Tx) (lanes : Lanes) → StandsBy start base txs lanes (with_past past (standby_of old))
      → (item : Message) → Includes (items_added (standby_of old) m) item → waits (standby_of old) item ≡ is_held old.namespace (items (followed_by lanes m) m.dn) item

pub record IsFlushed (old new : Shadow) : Type 0 where
  pub standby : standby_of new ≡ flushed (standby_of old)
  pub phase : new.phase ≡ record old.phase { active = true }
  pub settings : KeepsSettings old new
  pub stands : (past : History) (start : Namespace) (base : ℕ) (txs : List Tx) (lanes : Lanes) → StandsBy start base txs lanes (with_past past (standby_of old))
      → Stands start base txs lanes (with_past past (standby_of new)) × IsWhole start txs (items lanes) (past ++ new.history) × ShowsPicture new.namespace (items lanes) (tables_of (standby_of new))
