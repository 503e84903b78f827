-- Parts of an image, on small examples.
use Rattle.std.specs.Prelude.{◌≡◌, ℕ, List, [], ◌∷◌, ◌++◌, Some, None, map, length, codes, refl}
use Rattle.std.specs.Fmt.{digits}
use Rattle.std.proofs.Common.{ap, arith}
use Rattle.json.specs.Print.{escape_byte}
use Rattle.nn_device.specs.Device.{Writer}
use Rattle.nn_model.specs.declared.form.Form.{Form}
use Rattle.nn_model.specs.declared.form.Form.TheVariants.{Dir}
use Rattle.nn_model.specs.Namespace.{Path, Namespace, root_alone}
use Rattle.nn_image.specs.InParts.{WroteHeader, IsRest, Place, WrotePart, first_place, last_line, part_of, paths_from}
use Rattle.nn_image.specs.Text.{end_data, form_data}

abbrev a : Path
a = codes "a" ∷ []

abbrev b : Path
b = codes "a" ∷ codes "b" ∷ []

abbrev c : Path
c = codes "c" ∷ []

abbrev n : Namespace
n = record root_alone { rows = ([], Dir) ∷ (a, Dir) ∷ (b, Dir) ∷ (c, Dir) ∷ [] }

abbrev names : List (Path × Form) → List Path
names rows = map (λ row. row.0) rows

-- ---- What is left at a place.

-- the root has no line
all_but_the_root : names (paths_from [] n) ≡ a ∷ b ∷ c ∷ []
all_but_the_root = refl

from_the_second : names (paths_from b n) ≡ b ∷ c ∷ []
from_the_second = refl

-- the last line has the number of paths, and stands behind the last path alone
last_lines : (last_line {A = Path} None 3 ≡ codes "{\"end\":3}" ++ 10 ∷ []) × (last_line (Some b) 3 ≡ [])
unfolding end_data digits escape_byte
last_lines = (refl, refl)

-- ---- The rows of a part.

abbrev part : ℕ → ℕ → List Path
part rows bytes = names (part_of rows bytes (paths_from [] n))

no_more_than_so_many : part 2 1000 ≡ a ∷ b ∷ []
unfolding form_data escape_byte
no_more_than_so_many = refl

-- the line of the first has 27 bytes
none_behind_the_bytes : part 3 27 ≡ a ∷ []
unfolding form_data escape_byte
none_behind_the_bytes = refl

bytes_not_reached : part 3 28 ≡ a ∷ b ∷ []
unfolding form_data escape_byte
bytes_not_reached = refl

one_however_long : part 3 1 ≡ a ∷ []
unfolding form_data escape_byte
one_however_long = refl

all_that_are_left : part 9 1000 ≡ a ∷ b ∷ c ∷ []
unfolding form_data escape_byte
all_that_are_left = refl

-- ---- What a call does.

module _ (w0 w1 : Writer) where
  abbrev behind : Path → ℕ → Place
  behind p count = record { path = p; count = count }

  -- behind a part of one path the next path is left
  none_skipped : WrotePart n 1 first_place w0 w1 (behind c 1) → ⊥
  unfolding form_data escape_byte
  none_skipped h = omega (arith, ap length h.next)

  none_twice : WrotePart n 1 first_place w0 w1 (behind a 1) → ⊥
  unfolding form_data escape_byte
  none_twice h = omega (arith, ap length h.next)

  all_counted : WrotePart n 1 first_place w0 w1 (behind b 0) → ⊥
  unfolding form_data escape_byte
  all_counted h = omega (arith, h.counted)

  -- behind the last path comes the end
  no_part_without_a_path_left : WrotePart n 3 first_place w0 w1 (behind [] 3) → ⊥
  unfolding form_data escape_byte
  no_part_without_a_path_left h = omega (arith, h.left)

  no_early_end : IsRest n 1 (behind b 1) w0 w1 → ⊥
  unfolding form_data escape_byte
  no_early_end h = omega (arith, ap length h.none_left)

  begun_at_the_first : (txid : ℕ) → WroteHeader n txid w0 w1 (behind b 0) → ⊥
  begun_at_the_first txid h = omega (arith, ap (λ s. length s.path) h.place)
