-- The ids below a name.
use Rattle.std.proofs.Common.{◌≡◌, ℕ, List, [], ◌∷◌, ◌++◌, refl, ap}
use Rattle.nn_model.specs.declared.form.Form.{Form}
use Rattle.nn_model.specs.Namespace.{Path}
use Rattle.nn_tree.specs.Flat.{under}
use Rattle.nn_tree.specs.Ids.{ids_of_rows, row_ids}

pub ids_under : (n : List ℕ) (es : List (Path × Form)) → ids_of_rows (under n es) ≡ ids_of_rows es
ids_under n [] = refl
ids_under n (e ∷ es) = ap (λ r. row_ids e.1 ++ r) (ids_under n es)
