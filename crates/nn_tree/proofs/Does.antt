-- An edit that was made does what it has to.
use Rattle.std.proofs.Common.{◌≡◌, ℕ, cond, Some, None, refl, sym, ap, subst, ◌∙◌}
use Rattle.nn_types.specs.declared.edit.Edit.{Edit}
use Rattle.nn_types.specs.declared.edit.Edit.TheVariants.{StartSegment, EndSegment, Mkdir, Add, AddBlock, UpdateBlocks, Close, Append, Rename, Delete}
use Rattle.nn_types.specs.declared.edit.Edit.TheVariants.{SetReplication, AllocateBlockId, SetGenstamp}
use Rattle.nn_model.specs.declared.form.Form.TheVariants.{File}
use Rattle.nn_model.specs.declared.form.FileRow.{FileRow}
use Rattle.nn_model.specs.Namespace.{Path, Namespace, lookup, with_row, file_or_none, file_at}
use Rattle.nn_model.specs.Apply.{refusal, effect}
use Rattle.nn_model.specs.Touched.{Touched, touched}
use Rattle.nn_model.proofs.Lookups.{lookup_put}
use Rattle.nn_model.proofs.Prefixes.{same_self}
use Rattle.nn_tree.specs.Touched.{file_replication}

-- the file that an edit puts at a path
pub file_put : (n : Namespace) (p : Path) (file : FileRow) → file_at (with_row n p (File file)) p ≡ file
file_put n p file = ap file_or_none (lookup_put n p p (File file) ∙ ap (λ b. cond b (Some (File file)) (lookup n p)) (same_self p))

pub replication_there : (n : Namespace) (p : Path) (file : FileRow) → (file_at (with_row n p (File file)) p).replication ≡ file.replication
replication_there n p file = ap (λ (f : FileRow). f.replication) (file_put n p file)

-- an edit that writes blocks leaves its file's replication as it is
still : (n : Namespace) (edit : Edit) → file_replication (effect n edit) edit ≡ file_replication n edit
still n (AddBlock p i stamp) = replication_there n p _
still n (UpdateBlocks p bs) = replication_there n p _
still n (Close p bs) = replication_there n p _
still n (Append p) = replication_there n p _
still n (StartSegment profile) = refl
still n EndSegment = refl
still n (Mkdir p) = refl
still n (Add p r) = refl
still n (Rename s d) = refl
still n (Delete p) = refl
still n (SetReplication p r) = refl
still n (AllocateBlockId i) = refl
still n (SetGenstamp stamp) = refl

-- what holds where s was seen holds of the old namespace, which is the one that was seen
pub done : (edit : Edit) {s old new : Namespace} {told : Touched} {replication : ℕ} → s ≡ old → refusal s edit ≡ None → new ≡ effect s edit → told ≡ touched s edit
    → replication ≡ file_replication s edit →
    (refusal old edit ≡ None) × (new ≡ effect old edit) × (told ≡ touched old edit) × (replication ≡ file_replication new edit)
done edit {s} {old} {new} {told} {replication} e applies is tells same =
    subst (λ (n : Namespace). (refusal n edit ≡ None) × (new ≡ effect n edit) × (told ≡ touched n edit) × (replication ≡ file_replication new edit)) e
    (applies, is, tells, same ∙ sym (still s edit) ∙ ap (λ (n : Namespace). file_replication n edit) (sym is))
