-- What is used of a well formed namespace, row by row.
use Rattle.std.specs.Prelude.{◌≡◌, ◌≤◌, ◌<◌, ◌^◌, [], true, IsTrue, Some}
use Rattle.std.specs.FinMap.Entries.{is_sorted}
use Rattle.nn_types.specs.declared.block.Block.{Block}
use Rattle.nn_model.specs.declared.form.Form.{Form}
use Rattle.nn_model.specs.declared.form.Form.TheVariants.{Dir, File}
use Rattle.nn_model.specs.Namespace.{Path, path_cmp, Namespace, lookup}
use Rattle.nn_model.specs.WellFormed.{Includes}
use Rattle.nn_model.proofs.Dues.{blocks_in}
use Rattle.nn_tree.specs.Restore.{parent_of, awaiting_fits, replication_fits, block_fits, once}

abbrev pub file_fits : Form → Type 0
file_fits Dir = Unit {0}
file_fits (File file) = replication_fits file.replication ≡ true

pub record Keeps (n : Namespace) : Type 0 where
  pub in_order : IsTrue (is_sorted path_cmp n.rows)
  pub root : lookup n [] ≡ Some Dir
  pub parents : (row : Path × Form) → Includes n.rows row → lookup n (parent_of row.0) ≡ Some Dir
  pub replications : (row : Path × Form) → Includes n.rows row → file_fits row.1
  pub last_block_from : 1073741824 ≤ n.issued.last_block
  pub last_block_to : n.issued.last_block < 2 ^ 63
  pub last_stamp_from : 1000 ≤ n.issued.last_stamp
  pub last_stamp_to : n.issued.last_stamp < 2 ^ 63
  pub awaiting : awaiting_fits n.issued.last_block n.issued.awaiting ≡ true
  pub issued : (b : Block) → Includes (blocks_in n.rows) b → block_fits n.issued b ≡ true
  pub once : once (blocks_in n.rows) ≡ true
  pub lengths : (b : Block) → Includes (blocks_in n.rows) b → b.len < 2 ^ 63
