-- The replica table as its callers see it: for each block id its row, and a cell for each DataNode that was placed.
use Rattle.std.specs.Prelude.{ℕ, List, Option}
use Rattle.nn_model.specs.declared.form.BlockRow.{BlockRow}
use Rattle.nn_replicas.specs.declared.entry.Cell.{Cell}

-- what is known of a block id
pub record BlockEntry : Type 0 where
  pub row : Option BlockRow  -- where a file holds the block
  pub replication : ℕ  -- that file's, 0 where none holds it
  pub cells : List (ℕ × Cell)  -- by DataNode, in order

pub record Replicas : Type 0 where
  pub min : ℕ  -- how many live replicas make a block safe
  pub entries : List (ℕ × BlockEntry)  -- by block id, in order
