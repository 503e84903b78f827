-- Ids below a bound.
use Rattle.std.specs.Prelude.{◌≡◌, ◌<◌, ℕ, true, List}
use Rattle.nn_model.specs.Apply.{has_id}

abbrev pub AreBelow : ℕ → List ℕ → Type 0
AreBelow bound ids = (id : ℕ) → has_id ids id ≡ true → id < bound
