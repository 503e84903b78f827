-- How a tree and its index show a namespace.
use Rattle.std.specs.Prelude.{◌≡◌, ℕ, Bool, false, List, [], ◌∷◌, Option, Some, None, cond, option_map, ◌==◌}
use Rattle.nn_types.specs.declared.block.Block.{Block}
use Rattle.nn_model.specs.declared.form.Form.{Form}
use Rattle.nn_model.specs.declared.form.Form.TheVariants.{Dir, File}
use Rattle.nn_model.specs.Namespace.{Path, Issued, Namespace, lookup, blocks_of}
use Rattle.nn_model.specs.Apply.{in_path_order}
use Rattle.nn_model.specs.WellFormed.{Includes, IsWellFormed, HasUtf8Names}
use Rattle.nn_model.specs.declared.form.BlockRow.{BlockRow}
use Rattle.nn_tree.specs.declared.sizes.Sizes.{Sizes}
use Rattle.nn_tree.specs.Sizes.{sizes_of}

-- the namespace of a tree's paths, and of what was issued
abbrev pub seen : List (Path × Form) → Issued → Namespace
seen es issued = record { rows = in_path_order es; issued = issued }

-- whether it is a closed file
abbrev pub closed_of : Form → Bool
closed_of Dir = false
closed_of (File x) = x.closed

-- it is a file with the block, closed or open as the index says
abbrev pub InRow : BlockRow → Form → Type 0
InRow b r = (b.closed ≡ closed_of r) × Includes (blocks_of r) b.block

-- the block stands in some file
abbrev pub IsInSomeFile : (Path → Option Form) → BlockRow → Type 0
IsInSomeFile f b = (p : Path) × (r : Form) × (f p ≡ Some r) × InRow b r

-- the index has the blocks of the files, and no others
pub record IsIndex (f : Path → Option Form) (look : ℕ → Option BlockRow) : Type 0 where
  pub sound : (id : ℕ) (b : BlockRow) → look id ≡ Some b → (b.block.id ≡ id) × IsInSomeFile f b
  pub complete : (b : BlockRow) → IsInSomeFile f b → look b.block.id ≡ Some b

-- what each edit keeps: the namespace is well formed, its names are UTF-8, and the index is its own
pub record IsKept (n : Namespace) (look : ℕ → Option BlockRow) : Type 0 where
  pub well : IsWellFormed n
  pub utf8 : HasUtf8Names n
  pub index : IsIndex (lookup n) look

-- what holds between two calls: that, and these are how many files and directories there are
abbrev pub Holds : Namespace → (ℕ → Option BlockRow) → Sizes → Type 0
Holds n look sizes = IsKept n look × (sizes ≡ sizes_of n.rows)

-- the index after the row of a block was written anew, if there is one
abbrev pub rewritten : (ℕ → Option BlockRow) → Block → Bool → ℕ → Option BlockRow
rewritten look b closed id = cond (b.id == id) (option_map (λ _. record { block = b; closed = closed }) (look id)) (look id)

-- The index after a file's list `old` was replaced by `new`, which has the ids of the old one, all of them or all but the last.
abbrev pub renewed : (ℕ → Option BlockRow) → List Block → List Block → Bool → ℕ → Option BlockRow
renewed look [] new closed id = look id
renewed look (a ∷ old) [] closed id = cond (a.id == id) None (look id)
renewed look (a ∷ old) (b ∷ new) closed id = rewritten (renewed look old new closed) b closed id
