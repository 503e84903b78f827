-- What stands below a directory's child.
use Rattle.std.proofs.Common.{◌≡◌, ℕ, List, [], ◌∷◌, ◌++◌, length, Option, Some, None, IsSome, refl, sym, ap, subst, ◌∙◌, Global, arith, Box}
use Rattle.std.specs.BTreeMap.{is_at}
use Rattle.std.specs.Map.{lookup, keys_of, set_value}
use Rattle.std.specs.List.Sorted.{IsStrictlySortedBy}
use Rattle.nn_model.specs.declared.form.Form.{Form}
use Rattle.nn_model.specs.Namespace.{Path}
use Rattle.nn_model.specs.declared.form.Form.TheVariants.{Dir, File}
use Rattle.nn_model.specs.declared.form.FileRow.{FileRow}
use Rattle.nn_tree.specs.Flat.{flat, below, IsInOrder}
use Rattle.nn_tree.specs.At.{at, rows, IsSubtree}
use Rattle.nn_tree.specs.declared.tree.Tree.{Tree}
use Rattle.nn_tree.specs.declared.tree.Node.{Node}
use Rattle.nn_tree.specs.declared.tree.Node.TheVariants.{Folder, Narrow, Leaf}
use Rattle.nn_tree.proofs.Below.{at-below}
use Rattle.nn_tree.specs.Name.{name_cmp}

-- a directory's children by name
abbrev pub Children : Type 0
Children = List (List ℕ × Tree)

-- the child of the name n
abbrev pub child : Children → List ℕ → Option Tree
child cs n = lookup (is_at (name_cmp n)) cs

-- the children, with another tree for the child of the name n
abbrev pub with_child : Children → List ℕ → Tree → Children
with_child cs n t = set_value (is_at (name_cmp n)) cs t

-- the rows of a directory with the children cs
abbrev pub dir_rows : Children → List (Path × Form)
dir_rows cs = ([], Dir) ∷ below cs

-- es are the rows of an opened directory with the children cs
pub record IsDir (es : List (Path × Form)) (cs : Children) : Type 0 where
  pub is : dir_rows cs ≡ es
  pub ordered : IsStrictlySortedBy name_cmp (keys_of cs)

-- fewer than two names are in order
pub none_in_order : IsStrictlySortedBy {K = List ℕ} name_cmp []
unfolding IsStrictlySortedBy
none_in_order = tt

pub one_in_order : (k : List ℕ) → IsStrictlySortedBy name_cmp (k ∷ [])
unfolding IsStrictlySortedBy
one_in_order k = (tt, tt)

pub opened : (es : List (Path × Form)) (node : Node) (m : List (List ℕ × Tree)) → flat node ≡ es → IsInOrder node → node ≡ Folder m → IsDir es m
opened es node m v i e = record { is = sym (ap flat e) ∙ v; ordered = subst IsInOrder e i }

pub opened_narrow : (es : List (Path × Form)) (node : Node) (k : List ℕ) (t : Box Tree Global) → flat node ≡ es → node ≡ Narrow k t → IsDir es ((k, t.value) ∷ [])
opened_narrow es node k t v e = record { is = sym (ap flat e) ∙ v; ordered = one_in_order k }

pub no_names : (ps : Path) → length ps ≡ 0 → ps ≡ []
no_names [] e = refl
no_names (p ∷ ps) e = absurd (omega arith)

pub no_children : (cs : Children) → length cs ≡ 0 → cs ≡ []
no_children [] e = refl
no_children (c ∷ cs) e = absurd (omega arith)

pub at_top : (es : List (Path × Form)) (m : Children) → IsDir es m → at es [] ≡ Some Dir
at_top es m d = sym (ap (λ z. at z []) d.is)

pub at_child : (es : List (Path × Form)) (m : Children) (n : List ℕ) (q : Path) → IsDir es m → at es (n ∷ q) ≡ rows (child m n) q
at_child es m n q d = sym (ap (λ z. at z (n ∷ q)) d.is) ∙ at-below n q m d.ordered

pub found : (es : List (Path × Form)) (m : Children) (n : List ℕ) (o : Option Tree) → IsDir es m → o ≡ child m n → (q : Path) → at es (n ∷ q) ≡ rows o q
found es m n o d g q = at_child es m n q d ∙ ap (λ r. rows r q) (sym g)

pub at_file : (es : List (Path × Form)) (node : Node) (f : FileRow) (n : List ℕ) (q : Path) → flat node ≡ es → node ≡ Leaf f → at es (n ∷ q) ≡ None
at_file es node f n q v e = sym (ap (λ z. at z (n ∷ q)) (sym (ap flat e) ∙ v))

pub top_of_file : (es : List (Path × Form)) (node : Node) (f : FileRow) → flat node ≡ es → node ≡ Leaf f → at es [] ≡ Some (File f)
top_of_file es node f v e = sym (ap (λ z. at z []) (sym (ap flat e) ∙ v))

pub subtree_below : (es t : List (Path × Form)) (n : List ℕ) (ns ps : Path) (o : Option (List (Path × Form))) → ps ≡ n ∷ ns → ((q : Path) → at es (n ∷ q) ≡ at t q) → IsSubtree t ns o → IsSubtree es ps o
subtree_below es t n ns ps o e h k q = ap (λ p. at es (p ++ q)) e ∙ h (ns ++ q) ∙ k q

-- where the first name has no child
pub no_child : (es : List (Path × Form)) (n : List ℕ) (ns ps : Path) → ps ≡ n ∷ ns → ((q : Path) → at es (n ∷ q) ≡ None) → IsSubtree es ps None
no_child es n ns ps e h q = ap (λ p. at es (p ++ q)) e ∙ h (ns ++ q)

-- what is no directory is a file
pub leaf_of : (node : Node) → ((k : List ℕ) (t : Box Tree Global) → node ≡ Narrow k t → ⊥) → ((m : List (List ℕ × Tree)) → node ≡ Folder m → ⊥) → (f : FileRow) × (node ≡ Leaf f)
leaf_of (Folder m) h k = absurd (k m refl)
leaf_of (Narrow n t) h k = absurd (h n t refl)
leaf_of (Leaf f) h k = (f, refl)

pub none_is_some : IsSome {T = Form} None → ⊥
none_is_some h = cc
