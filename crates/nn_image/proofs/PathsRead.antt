-- Paths of lines that are read keep the limits of paths.
use Rattle.std.proofs.Common.{◌≡◌, ℕ, ◌≤◌, ◌^◌, ◌+◌, [], ◌∷◌, ◌++◌, inl, inr, refl, sym, subst, lit≤, arith}
use Rattle.nn_types.specs.Path.{IsPath}
use Rattle.nn_model.specs.declared.form.Form.{Form}
use Rattle.nn_model.specs.declared.form.Form.TheVariants.{Dir}
use Rattle.nn_model.specs.Namespace.{Path, Issued, Namespace}
use Rattle.nn_model.specs.WellFormed.{Includes}
use Rattle.nn_model.proofs.InRows.{has_either}
use Rattle.nn_tree.specs.Restore.{bare}
use Rattle.nn_image.specs.Lawful.{HasPaths, IsCountable}
use Rattle.nn_image.specs.Reading.{with_rows, next_line_number}

only : (row r : Path × Form) → IsPath row.0 → Includes (row ∷ []) r → IsPath r.0
only row r is here = elim here as (λ _. IsPath r.0) [ inl same ↦ subst (λ (x : Path × Form). IsPath x.0) same is | inr none ↦ absurd none ]

pub one_more_path : (n m : Namespace) (row : Path × Form) → m ≡ with_rows n (n.rows ++ row ∷ []) → IsPath row.0 → HasPaths n → HasPaths m
one_more_path n m row same path paths =
    subst HasPaths (sym same) (λ r here. elim (has_either n.rows (row ∷ []) r here) as (λ _. IsPath r.0) [ inl before ↦ paths r before | inr last ↦ only row r path last ])

root_is_path : IsPath []
root_is_path = record { each = refl; few = lit≤ tt; short = lit≤ tt }

pub bare_paths : (issued : Issued) → HasPaths (bare issued)
bare_paths issued r here = only ([], Dir) r root_is_path here

-- the number behind the last path counts the paths
pub rows_counted : (n : Namespace) (number : ℕ) → next_line_number n ≡ number → number ≤ 2 ^ 63 + 1 → IsCountable n
rows_counted n number at few = omega (arith, at)
