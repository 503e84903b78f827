-- An edit that a tree did applies.
use Rattle.std.proofs.Common.{◌≡◌, ℕ, true, false, not, ◌||◌, List, [], ◌∷◌, Some, None, is_some, refl, sym, ap, ◌∙◌, nat_lt, nat_le}
use Rattle.nn_types.specs.declared.block.Block.{Block}
use Rattle.nn_types.specs.declared.edit.Edit.TheVariants as edit
use Rattle.nn_types.specs.declared.edit_fault.EditFault.TheVariants.{NotOpen, BadBlockId, BadGeneration, WrongBlocks, BadReplication, NotClosed}
use Rattle.nn_model.specs.declared.form.Form.{Form}
use Rattle.nn_model.specs.declared.form.Form.TheVariants.{File}
use Rattle.nn_model.specs.declared.form.FileRow.{FileRow}
use Rattle.nn_model.specs.Namespace.{Path, Namespace, lookup, file_or_none, no_stamp}
use Rattle.nn_model.specs.Apply.{refusal, first_fault, fault_if, walk, is_root, missing, not_file, not_open, not_closed, checks, list_checks, in_path_order, has_id, keeps_ids, keeps_stamps}
use Rattle.nn_model.proofs.Dues.{all_none}
use Rattle.nn_tree.specs.At.{at, IsSubtree}
use Rattle.nn_tree.specs.Walks.{mkdir_fault, delete_fault}
use Rattle.nn_tree.proofs.Bridge.{looks, add_past}
use Rattle.nn_tree.proofs.Files.{at_found}
use Rattle.nn_tree.proofs.Maps.{delete_by_row}

pub add_applies : (es : List (Path × Form)) (n : Namespace) (p ns : Path) (r : ℕ) → in_path_order es ≡ n.rows → ns ≡ p → mkdir_fault (at es) ns ≡ None → (nat_lt r 1 || nat_lt 512 r) ≡ false → refusal n (edit.Add p r) ≡ None
add_applies es n p ns r h e made range =
    let applies : refusal n (edit.Mkdir p) ≡ None = sym (λ j. mkdir_fault (looks es n h j) (e j)) ∙ made in
    sym (add_past n p r (all_none (checks n (edit.Mkdir p)) applies).0 range) ∙ applies

pub delete_applies : (es : List (Path × Form)) (n : Namespace) (p ns : Path) → in_path_order es ≡ n.rows → ns ≡ p → is_root ns ≡ None → walk (at es) ns ≡ None → is_some (at es ns) ≡ true → refusal n (edit.Delete p) ≡ None
delete_applies es n p ns h e root walked there = sym (λ j. delete_fault (looks es n h j) (e j)) ∙ sym (delete_by_row (at es) ns true root walked there)

-- the file x stands at the path p
pub record HasFile (n : Namespace) (p : Path) (x : FileRow) : Type 0 where
  pub root : is_root p ≡ None
  pub walked : walk (lookup n) p ≡ None
  pub stands : lookup n p ≡ Some (File x)

pub has_file : (es : List (Path × Form)) (n : Namespace) (p ns : Path) (x : FileRow) → in_path_order es ≡ n.rows → ns ≡ p → is_root ns ≡ None → walk (at es) ns ≡ None → IsSubtree es ns (Some (([], File x) ∷ [])) → HasFile n p x
has_file es n p ns x h e root walked stands = record {
  root = sym (ap is_root e) ∙ root;
  walked = sym (λ j. walk (looks es n h j) (e j)) ∙ walked;
  stands = sym (λ j. looks es n h j (e j)) ∙ at_found es (([], File x) ∷ []) ns (Some (File x)) stands refl;
}

pub add_block_applies : (n : Namespace) (p : Path) (x : FileRow) (i stamp : ℕ) → HasFile n p x → x.closed ≡ false → not (has_id n.issued.awaiting i) ≡ false → (nat_le stamp no_stamp || nat_lt n.issued.last_stamp stamp) ≡ false → refusal n (edit.AddBlock p i stamp) ≡ None
add_block_applies n p x i stamp h is_open waits issued =
    (λ j. first_fault (h.root j ∷ h.walked j ∷ missing (h.stands j) ∷ not_file (h.stands j) ∷ not_open (h.stands j) ∷ fault_if (waits j) BadBlockId ∷ fault_if (issued j) BadGeneration ∷ []))
    ∙ ap (λ b. first_fault (fault_if b NotOpen ∷ None ∷ None ∷ [])) is_open

pub list_applies : (n : Namespace) (p : Path) (x : FileRow) (bs : List Block) → HasFile n p x → x.closed ≡ false → not (keeps_ids x.blocks bs) ≡ false → not (keeps_stamps n.issued.last_stamp x.blocks bs) ≡ false → first_fault (list_checks n p bs) ≡ None
list_applies n p x bs h is_open ids stamps =
    (λ j. first_fault (h.root j ∷ h.walked j ∷ missing (h.stands j) ∷ not_file (h.stands j) ∷ not_open (h.stands j)
    ∷ fault_if (not (keeps_ids (file_or_none (h.stands j)).blocks bs)) WrongBlocks ∷ fault_if (not (keeps_stamps n.issued.last_stamp (file_or_none (h.stands j)).blocks bs)) BadGeneration ∷ []))
    ∙ (λ j. first_fault (fault_if (is_open j) NotOpen ∷ fault_if (ids j) WrongBlocks ∷ fault_if (stamps j) BadGeneration ∷ []))

pub append_applies : (n : Namespace) (p : Path) (x : FileRow) → HasFile n p x → x.closed ≡ true → refusal n (edit.Append p) ≡ None
append_applies n p x h closed =
    (λ j. first_fault (h.root j ∷ h.walked j ∷ missing (h.stands j) ∷ not_file (h.stands j) ∷ not_closed (h.stands j) ∷ []))
    ∙ ap (λ b. first_fault (fault_if (not b) NotClosed ∷ [])) closed

pub set_replication_applies : (n : Namespace) (p : Path) (x : FileRow) (r : ℕ) → HasFile n p x → (nat_lt r 1 || nat_lt 512 r) ≡ false → refusal n (edit.SetReplication p r) ≡ None
set_replication_applies n p x r h range = λ j. first_fault (h.root j ∷ fault_if (range j) BadReplication ∷ h.walked j ∷ missing (h.stands j) ∷ not_file (h.stands j) ∷ [])
