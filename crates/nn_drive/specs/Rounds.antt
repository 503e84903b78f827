-- A rotation of a standby in service: the steps that it made.
use Rattle.std.specs.Prelude.{◌≡◌, ℕ, ◌+◌, ◌<◌, ◌⊎◌, List, [], ◌∷◌, length}
use Rattle.nn_segment.specs.Source.{Answer}
use Rattle.nn_lane_standby.specs.Public.{IsStepped, Leaves}
use Rattle.nn_lane_standby.specs.Tailing.{Standby}
use Rattle.nn_lane_standby.specs.declared.standby.Choice.{Choice}
use Rattle.nn_lane_standby.specs.declared.standby.Choice.TheVariants.{Lane}
use Rattle.nn_lane_standby.specs.declared.standby.Stepped.{Stepped}
use Rattle.nn_drive.specs.Driven.{Goes}

-- a step of the log or of a lane was made, and did not fail
abbrev pub StepWasMade : Standby → Choice → Standby → Type 0
StepWasMade old choice new = (answers : List Answer) × (stepped : Stepped) × IsStepped old choice answers new stepped × Leaves old choice new × Goes old answers new

-- these steps were made, the last first
abbrev pub HasMade : Standby → List Choice → Standby → Type 0
HasMade old [] new = new ≡ old
HasMade old (choice ∷ steps) new = (x : Standby) × HasMade old steps x × StepWasMade x choice new

-- one of them was of this DataNode's lane
abbrev pub Tries : List Choice → ℕ → Type 0
Tries [] dn = ⊥
Tries (choice ∷ steps) dn = (choice ≡ Lane dn) ⊎ Tries steps dn

-- some steps were made, of the log or of lanes
abbrev pub HasStepped : Standby → Standby → Type 0
HasStepped old new = (steps : List Choice) × HasMade old steps new

-- and one of this DataNode's lane at least
abbrev pub HasTried : Standby → ℕ → Standby → Type 0
HasTried old dn new = (steps : List Choice) × HasMade old steps new × Tries steps dn

-- and one of each lane at least, of the first so many
abbrev pub HasVisited : Standby → ℕ → Standby → Type 0
HasVisited old lanes new = (steps : List Choice) × HasMade old steps new × ((i : ℕ) → i < lanes → Tries steps (i + 1))

-- a rotation: each lane was tried, and its messages were handed on or there was none
abbrev pub IsRound : Standby → Standby → Type 0
IsRound old new = HasVisited old (length old.ends) new
