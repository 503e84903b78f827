-- What a tree refuses is what the namespace of its rows refuses.
use Rattle.std.proofs.Common.{◌≡◌, ℕ, Bool, true, false, not, ◌||◌, List, [], ◌∷◌, Option, Some, None, refl, sym, ap, ◌∙◌, nat_lt}
use Rattle.std.specs.Prelude.{nat_le}
use Rattle.std.specs.FinMap.Entries.{find as find_entry}
use Rattle.nn_types.specs.declared.block.Block.{Block}
use Rattle.nn_types.specs.declared.edit.Edit.TheVariants as edit
use Rattle.nn_types.specs.declared.edit_fault.EditFault.{EditFault}
use Rattle.nn_types.specs.declared.edit_fault.EditFault.TheVariants.{NotOpen, NotClosed, BadReplication, BadBlockId, BadGeneration, WrongBlocks}
use Rattle.nn_model.specs.declared.form.Form.{Form}
use Rattle.nn_model.specs.declared.form.Form.TheVariants.{File}
use Rattle.nn_model.specs.declared.form.FileRow.{FileRow}
use Rattle.nn_model.specs.Namespace.{Path, Namespace, path_cmp, lookup, file_or_none, no_stamp}
use Rattle.nn_model.specs.Apply.{refusal, first_fault, fault_if, walk, is_root, exists, missing, not_file, not_open, not_closed, list_checks, in_path_order, has_id, keeps_ids, keeps_stamps}
use Rattle.nn_model.proofs.Lookups.{find_in_order}
use Rattle.nn_tree.specs.At.{at}
use Rattle.nn_tree.specs.Walks.{file_fault}
use Rattle.nn_tree.proofs.Maps.{found_first, found_later}

pub looks : (es : List (Path × Form)) (n : Namespace) → in_path_order es ≡ n.rows → at es ≡ lookup n
looks es n e j q = (sym (find_in_order q es) ∙ ap (λ r. find_entry path_cmp q r) e) j

-- ---- the checks that a path is a file's, and others after them
pub file_refused : (es : List (Path × Form)) (n : Namespace) (p ns : Path) (os : List (Option EditFault)) (e : EditFault) → in_path_order es ≡ n.rows → ns ≡ p → file_fault (at es) ns ≡ Some e →
    Some e ≡ first_fault (is_root p ∷ walk (lookup n) p ∷ missing (lookup n p) ∷ not_file (lookup n p) ∷ os)
file_refused es n p ns os e h k f =
    found_first (is_root p ∷ walk (lookup n) p ∷ missing (lookup n p) ∷ not_file (lookup n p) ∷ []) os e (sym (λ j. file_fault (looks es n h j) (k j)) ∙ f)

pub file_found : (es : List (Path × Form)) (n : Namespace) (p ns : Path) (os : List (Option EditFault)) → in_path_order es ≡ n.rows → ns ≡ p → file_fault (at es) ns ≡ None →
    first_fault os ≡ first_fault (is_root p ∷ walk (lookup n) p ∷ missing (lookup n p) ∷ not_file (lookup n p) ∷ os)
file_found es n p ns os h k f =
    found_later (is_root p ∷ walk (lookup n) p ∷ missing (lookup n p) ∷ not_file (lookup n p) ∷ []) os (sym (λ j. file_fault (looks es n h j) (k j)) ∙ f)

-- the checks of AddBlock and of a new list, at the file x
pub add_block_at : (es : List (Path × Form)) (n : Namespace) (p ns : Path) (x : FileRow) (i stamp : ℕ) → in_path_order es ≡ n.rows → ns ≡ p → file_fault (at es) ns ≡ None → at es ns ≡ Some (File x) →
    first_fault (fault_if x.closed NotOpen ∷ fault_if (not (has_id n.issued.awaiting i)) BadBlockId ∷ fault_if (nat_le stamp no_stamp || nat_lt n.issued.last_stamp stamp) BadGeneration ∷ []) ≡ refusal n (edit.AddBlock p i stamp)
add_block_at es n p ns x i stamp h k f g =
    let more = fault_if (not (has_id n.issued.awaiting i)) BadBlockId ∷ fault_if (nat_le stamp no_stamp || nat_lt n.issued.last_stamp stamp) BadGeneration ∷ [] in
    ap (λ o. first_fault (not_open o ∷ more)) (sym g ∙ (λ j. looks es n h j (k j))) ∙ file_found es n p ns (not_open (lookup n p) ∷ more) h k f

pub list_at : (es : List (Path × Form)) (n : Namespace) (p ns : Path) (x : FileRow) (bs : List Block) → in_path_order es ≡ n.rows → ns ≡ p → file_fault (at es) ns ≡ None → at es ns ≡ Some (File x) →
    first_fault (fault_if x.closed NotOpen ∷ fault_if (not (keeps_ids x.blocks bs)) WrongBlocks ∷ fault_if (not (keeps_stamps n.issued.last_stamp x.blocks bs)) BadGeneration ∷ []) ≡ first_fault (list_checks n p bs)
list_at es n p ns x bs h k f g =
    let more : Option Form → List (Option EditFault) = λ o. not_open o ∷ fault_if (not (keeps_ids (file_or_none o).blocks bs)) WrongBlocks ∷ fault_if (not (keeps_stamps n.issued.last_stamp (file_or_none o).blocks bs)) BadGeneration ∷ [] in
    ap (λ o. first_fault (more o)) (sym g ∙ (λ j. looks es n h j (k j))) ∙ file_found es n p ns (more (lookup n p)) h k f

pub append_at : (es : List (Path × Form)) (n : Namespace) (p ns : Path) (x : FileRow) → in_path_order es ≡ n.rows → ns ≡ p → file_fault (at es) ns ≡ None → at es ns ≡ Some (File x) →
    first_fault (fault_if (not x.closed) NotClosed ∷ []) ≡ refusal n (edit.Append p)
append_at es n p ns x h k f g =
    ap (λ o. first_fault (not_closed o ∷ [])) (sym g ∙ (λ j. looks es n h j (k j))) ∙ file_found es n p ns (not_closed (lookup n p) ∷ []) h k f

-- the checks of Add and of SetReplication, past the first two
pub add_past : (n : Namespace) (p : Path) (r : ℕ) → is_root p ≡ None → (nat_lt r 1 || nat_lt 512 r) ≡ false → refusal n (edit.Mkdir p) ≡ refusal n (edit.Add p r)
add_past n p r h k =
    let more = walk (lookup n) p ∷ exists (lookup n p) ∷ [] in
    (λ j. first_fault (h j ∷ more)) ∙ sym (λ j. first_fault (h j ∷ fault_if (k j) BadReplication ∷ more))

pub set_past : (n : Namespace) (p : Path) (r : ℕ) → is_root p ≡ None → (nat_lt r 1 || nat_lt 512 r) ≡ false → file_fault (lookup n) p ≡ refusal n (edit.SetReplication p r)
set_past n p r h k =
    let more = walk (lookup n) p ∷ missing (lookup n p) ∷ not_file (lookup n p) ∷ [] in
    (λ j. first_fault (h j ∷ more)) ∙ sym (λ j. first_fault (h j ∷ fault_if (k j) BadReplication ∷ more))

-- ---- three tests in turn
pub at_first : (a b c : Bool) (e f g : EditFault) → a ≡ true → Some e ≡ first_fault (fault_if a e ∷ fault_if b f ∷ fault_if c g ∷ [])
at_first true b c e f g h = refl
at_first false b c e f g h = cc

pub at_second : (a b c : Bool) (e f g : EditFault) → a ≡ false → b ≡ true → Some f ≡ first_fault (fault_if a e ∷ fault_if b f ∷ fault_if c g ∷ [])
at_second false true c e f g h k = refl
at_second false false c e f g h k = cc
at_second true b c e f g h k = cc

pub at_third : (a b c : Bool) (e f g : EditFault) → a ≡ false → b ≡ false → c ≡ true → Some g ≡ first_fault (fault_if a e ∷ fault_if b f ∷ fault_if c g ∷ [])
at_third false false true e f g h k l = refl
at_third false false false e f g h k l = cc
at_third false true c e f g h k l = cc
at_third true b c e f g h k l = cc

pub at_none : (a b c : Bool) (e f g : EditFault) → a ≡ false → b ≡ false → c ≡ false → None ≡ first_fault (fault_if a e ∷ fault_if b f ∷ fault_if c g ∷ [])
at_none false false false e f g h k l = refl
at_none false false true e f g h k l = cc
at_none false true c e f g h k l = cc
at_none true b c e f g h k l = cc
