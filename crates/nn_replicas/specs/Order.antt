-- Tables whose entries and cells are in order. An empty table is, and each call keeps it so.
use Rattle.std.specs.Prelude.{ℕ, IsTrue}
use Rattle.std.specs.FinMap.Entries.{is_sorted}
use Rattle.std.specs.Ordering.{nat_cmp}
use Rattle.nn_replicas.specs.Table.{Replicas}
use Rattle.nn_replicas.specs.Calls.{entry_or_none}

pub record IsSortedTable (t : Replicas) : Type 0 where
  pub blocks : IsTrue (is_sorted nat_cmp t.entries)  -- block ids ascend
  pub datanodes : (id : ℕ) → IsTrue (is_sorted nat_cmp (entry_or_none t id).cells)  -- and the DataNodes of each
