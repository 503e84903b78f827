-- The range of every number of the log and of every report.
use Rattle.std.specs.Prelude.{ℕ, ◌<◌, ◌^◌}

-- a number of the formats: at most 9223372036854775807
abbrev pub IsNumber : ℕ → Type 0
IsNumber n = n < 2 ^ 63
