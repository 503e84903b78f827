-- The threshold that ends safe mode.
use Rattle.std.specs.Prelude.{ℕ, ◌≤◌, ◌*◌, ◌/◌}
use Rattle.nn_types.specs.Limits.{max_replication}

pub record Settings : Type 0 where
  pub permille : ℕ  -- how many blocks of each thousand have to be safe
  pub min : ℕ  -- how many live replicas make a block safe

-- the ranges of the two numbers
pub record AreSettings (permille min : ℕ) : Type 0 where
  pub most : permille ≤ 1000
  pub from_one : 1 ≤ min
  pub to_limit : min ≤ max_replication

-- how many of so many blocks have to be safe: so many of each thousand, rounded down
abbrev pub needed_of : ℕ → ℕ → ℕ
needed_of permille total = total * permille / 1000
