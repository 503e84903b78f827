-- The numbers of the profiles.
use Rattle.std.specs.Prelude.{ℕ, Bool, nat_lt, Option, Some, None, ◌==◌, if◌then◌else◌}
use Rattle.nn_types.specs.declared.profile.Profile.{Profile}
use Rattle.nn_types.specs.declared.profile.Profile.TheVariants.{One, Two}

abbrev pub profile_number : Profile → ℕ
profile_number One = 1
profile_number Two = 2

-- the profile of a number
abbrev pub profile_of : ℕ → Option Profile
profile_of n = if n == 1 then Some One else if n == 2 then Some Two else None

abbrev pub is_lower : Profile → Profile → Bool
is_lower p other = nat_lt (profile_number p) (profile_number other)
