-- What came of the try to make an edit.
use Rattle.std.specs.Prelude.{◌≡◌, Result, Ok, Err, None}
use Rattle.nn_types.specs.declared.edit.Edit.{Edit}
use Rattle.nn_model.specs.Namespace.{Namespace}
use Rattle.nn_model.specs.Apply.{refusal, effect}
use Rattle.nn_model.specs.Touched.{touched}
use Rattle.nn_tree.specs.declared.touched.Touched.{Touched as Told}
use Rattle.nn_tree.specs.declared.tree.Unchanged.{Unchanged}
use Rattle.nn_tree.specs.Touched.{touched_of, file_replication}

-- The edit applies, has its effect, and tells what that touched and of which replication the file is; or nothing changed.
abbrev pub Does : Edit → Namespace → Result Told Unchanged → Namespace → Type 0
Does edit old (Ok told) new = (refusal old edit ≡ None) × (new ≡ effect old edit) × (touched_of told ≡ touched old edit) × (told.replication ≡ file_replication new edit)
Does edit old (Err unchanged) new = new ≡ old
