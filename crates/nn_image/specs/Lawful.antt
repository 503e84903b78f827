-- Namespaces that an image can be read back as.
use Rattle.std.specs.Prelude.{◌≡◌, ℕ, ◌<◌, ◌≤◌, length, ◌^◌, Ok}
use Rattle.nn_types.specs.Path.{IsPath}
use Rattle.nn_model.specs.declared.form.Form.{Form}
use Rattle.nn_model.specs.Namespace.{Path, Namespace}
use Rattle.nn_model.specs.WellFormed.{Includes, IsWellFormed, HasUtf8Names}
use Rattle.nn_model.specs.Laws.{in_profile}
use Rattle.nn_types.specs.declared.profile.Profile.TheVariants.{One}
use Rattle.nn_image.specs.Text.{image_text}
use Rattle.nn_image.specs.OldText.{old_image_text}
use Rattle.nn_image.specs.Reading.{read_image}

-- each path keeps the limits of paths
abbrev pub HasPaths : Namespace → Type 0
HasPaths n = (row : Path × Form) → Includes n.rows row → IsPath row.0

-- each number of the image is below 2^63: the number of its paths, too
abbrev pub IsCountable : Namespace → Type 0
IsCountable n = length n.rows ≤ 2 ^ 63

-- an image of a well formed namespace whose names are UTF-8 is read as that namespace, if its paths keep the limits of paths
abbrev pub ReadsBack : Type 0
ReadsBack = (n : Namespace) (txid : ℕ) → IsWellFormed n → HasUtf8Names n → HasPaths n → IsCountable n → txid < 2 ^ 63 → read_image (image_text n txid) ≡ Ok (n, txid)

-- the text of version 1 is read as that namespace with profile 1
abbrev pub ReadsOldBack : Type 0
ReadsOldBack = (n : Namespace) (txid : ℕ) → IsWellFormed n → HasUtf8Names n → HasPaths n → IsCountable n → txid < 2 ^ 63 → read_image (old_image_text n txid) ≡ Ok (in_profile One n, txid)

-- The image is read as the namespace and the txid that it was written of, if the paths keep the limits of paths.
abbrev pub IsReadBack : Namespace → ℕ → Type 0
IsReadBack n txid = HasPaths n → IsCountable n → read_image (image_text n txid) ≡ Ok (n, txid)
