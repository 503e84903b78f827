-- Which namespaces are well formed.
use Rattle.std.specs.Prelude.{◌≡◌, ℕ, ◌+◌, ◌≤◌, List, [], ◌∷◌, ◌++◌, ◌⊎◌, Some, is_some, true, false, IsTrue, ◌==◌, if◌then◌else◌}
use Rattle.std.specs.FinMap.Entries.{is_sorted}
use Rattle.std.specs.List.Sorted.{IsStrictlySortedBy}
use Rattle.std.specs.Ordering.{nat_cmp}
use Rattle.nn_types.specs.declared.block.Block.{Block}
use Rattle.nn_types.specs.Number.{IsNumber}
use Rattle.nn_types.specs.Path.{AreUtf8}
use Rattle.nn_types.specs.Limits.{max_replication}
use Rattle.nn_model.specs.declared.form.Form.TheVariants.{Dir, File}
use Rattle.nn_model.specs.declared.form.FileRow.{FileRow}
use Rattle.nn_model.specs.Namespace.{Path, path_cmp, Issued, Namespace, lookup, all_blocks, no_block, no_stamp}
use Rattle.nn_model.specs.Apply.{has_id}

-- the element is in the list
abbrev pub Includes : {A : Type 0} → List A → A → Type 0
Includes [] x = ⊥
Includes (y ∷ ys) x = (y ≡ x) ⊎ Includes ys x

-- how often a block id is in the list
abbrev pub times : ℕ → List Block → ℕ
times id [] = 0
times id (b ∷ bs) = (if b.id == id then 1 else 0) + times id bs

-- a block of a file: its id was issued and awaits no more, its generation stamp was issued, its length is a number
pub record IsIssued (issued : Issued) (b : Block) : Type 0 where
  pub from_first : no_block + 1 ≤ b.id
  pub to_last : b.id ≤ issued.last_block
  pub not_awaiting : has_id issued.awaiting b.id ≡ false
  pub stamp_from : no_stamp + 1 ≤ b.stamp
  pub stamp_to : b.stamp ≤ issued.last_stamp
  pub length : IsNumber b.len

-- what a well formed namespace says of ids and blocks: rows and awaiting ids are in order, awaiting ids were issued,
-- each block was issued, and no id is there twice
pub record HasWellFormedBlocks (n : Namespace) : Type 0 where
  pub in_order : IsTrue (is_sorted path_cmp n.rows)
  pub last_block_from : no_block ≤ n.issued.last_block
  pub awaiting_in_order : IsStrictlySortedBy nat_cmp n.issued.awaiting
  pub awaiting_from : (id : ℕ) → has_id n.issued.awaiting id ≡ true → (no_block + 1 ≤ id) × (id ≤ n.issued.last_block)
  pub once : (id : ℕ) → times id (all_blocks n) ≤ 1
  pub issued : (b : Block) → Includes (all_blocks n) b → IsIssued n.issued b

-- a well formed namespace: a tree of directories with files as leaves, with well formed blocks, in the limits of its numbers
pub record IsWellFormed (n : Namespace) : Type 0 where
  pub root : lookup n [] ≡ Some Dir
  pub parents : (p : Path) (name : List ℕ) → is_some (lookup n (p ++ name ∷ [])) ≡ true → lookup n p ≡ Some Dir
  pub replications : (p : Path) (file : FileRow) → lookup n p ≡ Some (File file) → (1 ≤ file.replication) × (file.replication ≤ max_replication)
  pub blocks : HasWellFormedBlocks n
  pub last_block_to : IsNumber n.issued.last_block
  pub last_stamp_from : no_stamp ≤ n.issued.last_stamp
  pub last_stamp_to : IsNumber n.issued.last_stamp

-- each name in the namespace is UTF-8
abbrev pub HasUtf8Names : Namespace → Type 0
HasUtf8Names n = (p : Path) → is_some (lookup n p) ≡ true → AreUtf8 p
