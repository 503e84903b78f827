-- Generation stamps at places, and the tree that finds the first low one.
use Rattle.std.specs.Prelude.{◌≡◌, ℕ, ◌+◌, ◌<◌, ◌≤◌, List, length, get_or, min}
use Rattle.nn_postponed.specs.declared.stamps.TheConstants.{NO_STAMP}

-- the stamp at a place
abbrev pub stamp_there : List ℕ → ℕ → ℕ
stamp_there stamps place = get_or stamps place NO_STAMP

-- no place has one
abbrev pub HaveNone : List ℕ → Type 0
HaveNone stamps = (place : ℕ) → stamp_there stamps place ≡ NO_STAMP

-- the first place with a stamp up to this one
pub record IsFirstUpTo (limit : ℕ) (stamps : List ℕ) (place : ℕ) : Type 0 where
  pub in_range : place < length stamps
  pub low : stamp_there stamps place ≤ limit
  pub before : (q : ℕ) → q < place → limit < stamp_there stamps q

-- a node of the tree above this many places has the lower one of the two numbers below it
abbrev pub AreLeast : ℕ → List ℕ → Type 0
AreLeast places nodes = (node : ℕ) → 1 ≤ node → node < places →
    get_or nodes node 0 ≡ min (get_or nodes (node + node) 0) (get_or nodes (node + node + 1) 0)
