-- Files of a tree.
use Rattle.std.proofs.Common.{ℕ, ◌≡◌, List, [], ◌∷◌, append-nil, Option, Some, None, refl, sym, ap, subst, ◌∙◌, Bor, Box, Global}
use Rattle.std.specs.Option.{option_copied}
use Rattle.nn_model.specs.declared.form.Form.{Form}
use Rattle.nn_model.specs.Namespace.{Path}
use Rattle.nn_model.specs.declared.form.FileRow.{FileRow}
use Rattle.nn_model.specs.declared.form.Form.TheVariants.{Dir}
use Rattle.nn_tree.specs.At.{at, IsSubtree}
use Rattle.nn_tree.specs.Flat.{flat}
use Rattle.nn_model.specs.Apply.{first_fault, walk, is_root, missing, not_file}
use Rattle.nn_tree.specs.Walks.{file_fault}
use Rattle.nn_tree.specs.declared.tree.Tree.{Tree}
use Rattle.nn_tree.specs.declared.tree.Node.{Node}
use Rattle.nn_tree.specs.declared.tree.Node.TheVariants.{Folder, Narrow, Leaf}

pub file_by_row : (f : Path → Option Form) (p : Path) (o : Option Form) → is_root p ≡ None → walk f p ≡ None → f p ≡ o → file_fault f p ≡ first_fault (missing o ∷ not_file o ∷ [])
file_by_row f p o r w s = (λ j. first_fault (r j ∷ w j ∷ missing (s j) ∷ not_file (s j) ∷ []))

pub at_found : (es t : List (Path × Form)) (p : Path) (r : Option Form) → IsSubtree es p (Some t) → at t [] ≡ r → at es p ≡ r
at_found es t p r h e = ap (at es) (sym (append-nil p)) ∙ h [] ∙ e

pub at_reached : (es : List (Path × Form)) (p : Path) (o : Option (Bor Tree)) (t : Bor Tree) (r : Option Form) → o ≡ Some t → IsSubtree es p (option_copied o) → at t.now [] ≡ r → at es p ≡ r
at_reached es p o t r is h e = at_found es t.now p r (subst (λ x. IsSubtree es p (option_copied x)) is h) e

pub top_of_folder : (es : List (Path × Form)) (node : Node) (m : List (List ℕ × Tree)) → flat node ≡ es → node ≡ Folder m → at es [] ≡ Some Dir
top_of_folder es node m v e = sym (ap (λ z. at z []) (sym (ap flat e) ∙ v))

pub top_of_narrow : (es : List (Path × Form)) (node : Node) (k : List ℕ) (t : Box Tree Global) → flat node ≡ es → node ≡ Narrow k t → at es [] ≡ Some Dir
top_of_narrow es node k t v e = sym (ap (λ z. at z []) (sym (ap flat e) ∙ v))

-- what is no file is a directory
pub top_of_dir : (es : List (Path × Form)) (node : Node) → flat node ≡ es → ((f : FileRow) → node ≡ Leaf f → ⊥) → at es [] ≡ Some Dir
top_of_dir es (Folder m) v h = top_of_folder es (Folder m) m v refl
top_of_dir es (Narrow k t) v h = top_of_narrow es (Narrow k t) k t v refl
top_of_dir es (Leaf f) v h = absurd (h f refl)
