-- Examples of the part of a namespace that a log is about, and of the rest.
use Rattle.std.specs.Prelude.{◌≡◌, ℕ, true, false, List, [], ◌∷◌, ◌++◌, map, Some, Ok, Err, codes, refl}
use Rattle.std.specs.Result.{result_map_both}
use Rattle.nn_types.specs.declared.profile.Profile.TheVariants.{Two}
use Rattle.nn_types.specs.declared.edit.Edit.{Edit}
use Rattle.nn_types.specs.declared.edit.Edit.TheVariants.{StartSegment, EndSegment, Mkdir, Add, AddBlock, UpdateBlocks, Close, Append, Rename, Delete}
use Rattle.nn_types.specs.declared.edit.Edit.TheVariants.{SetReplication, AllocateBlockId, SetGenstamp}
use Rattle.nn_types.specs.declared.edit_fault.EditFault.TheVariants.{NotDirectory, Missing}
use Rattle.nn_types.specs.declared.tx.Tx.{Tx}
use Rattle.nn_model.specs.declared.form.Form.{Form}
use Rattle.nn_model.specs.declared.form.Form.TheVariants.{Dir}
use Rattle.nn_model.specs.Namespace.{Path, Namespace}
use Rattle.nn_model.specs.Apply.{refusal, effect, applied}
use Rattle.nn_model.specs.Log.{run}
use Rattle.nn_model.specs.Part.{has_name, ends_in, is_in_part, part, rest, carried, names_in}
use Rattle.nn_model.specs.NamespaceRows.{tx, a, b, c, f, block, file, namespace}

-- ---- A directory with two files, and a file beside it.

-- the names f, h and k, and the paths /a/f, /a/h, /h and /k
abbrev f_name : List ℕ
f_name = codes "f"

abbrev h_name : List ℕ
h_name = codes "h"

abbrev k_name : List ℕ
k_name = codes "k"

abbrev a_f : Path
a_f = a ++ f_name ∷ []

abbrev a_h : Path
a_h = a ++ h_name ∷ []

abbrev h : Path
h = h_name ∷ []

abbrev k : Path
k = k_name ∷ []

abbrev one : Form
one = file 2 true (block b 1001 5 ∷ [])

abbrev other : Form
other = file 3 true (block c 1002 6 ∷ [])

abbrev empty : Form
empty = file 1 false []

-- the root and these rows; one more id awaits
abbrev with_rows : List (Path × Form) → Namespace
with_rows rows = namespace rows 1073741827 1003 (1073741827 ∷ [])

abbrev n : Namespace
n = with_rows ((a, Dir) ∷ (a_f, one) ∷ (a_h, other) ∷ (f, empty) ∷ [])

-- ---- Names.

one_of_these : map (has_name (f_name ∷ h_name ∷ [])) (f_name ∷ h_name ∷ k_name ∷ codes "fh" ∷ [] ∷ []) ≡ true ∷ true ∷ false ∷ false ∷ false ∷ []
one_of_these = refl

-- of a path the last name counts; the root has none
last_name_counts : (map (ends_in (f_name ∷ [])) (f ∷ a_f ∷ a_h ∷ (f ++ a) ∷ []) ≡ true ∷ true ∷ false ∷ false ∷ []) × (ends_in ([] ∷ []) [] ≡ false)
last_name_counts = (refl, refl)

edits_name : map names_in (
    Mkdir a_f ∷ Add a_h 2 ∷ AddBlock f b 1001 ∷ UpdateBlocks h [] ∷ Close k [] ∷ Append f ∷ Rename a_f h ∷ Delete a ∷ SetReplication a_h 3
    ∷ StartSegment Two ∷ EndSegment ∷ AllocateBlockId b ∷ SetGenstamp 1001 ∷ []
    ) ≡ a_f ∷ a_h ∷ f ∷ h ∷ k ∷ f ∷ (a_f ++ h) ∷ a ∷ a_h ∷ [] ∷ [] ∷ [] ∷ [] ∷ []
edits_name = refl

-- ---- The part has all directories, and of the files those of these names; the rest has the other files.

is_in : map (is_in_part (h_name ∷ [])) (([], Dir) ∷ (a, Dir) ∷ (a_h, other) ∷ (a_f, one) ∷ (h ++ f, empty) ∷ []) ≡ true ∷ true ∷ true ∷ false ∷ false ∷ []
is_in = refl

parts : (part (h_name ∷ []) n ≡ with_rows ((a, Dir) ∷ (a_h, other) ∷ [])) × (part [] n ≡ with_rows ((a, Dir) ∷ []))
    × (part (f_name ∷ h_name ∷ []) n ≡ n)
parts = (refl, refl, refl)

rests : (rest (h_name ∷ []) n ≡ (a_f, one) ∷ (f, empty) ∷ []) × (rest (f_name ∷ h_name ∷ []) n ≡ [])
rests = (refl, refl)

-- the rest moves with a directory, to where it comes in path order, and is deleted with one
carries : (carried (rest (h_name ∷ []) n) (Rename a k) ≡ (f, empty) ∷ (k ++ f, one) ∷ [])
    × (carried (rest (h_name ∷ []) n) (Delete a) ≡ (f, empty) ∷ [])
    × (carried (rest (h_name ∷ []) n) (Append a_h) ≡ rest (h_name ∷ []) n)
carries = (refl, refl, refl)

-- ---- What an edit does to the part.

abbrev of_part : List (List ℕ) → Edit → Type 0
of_part names edit = applied (part names n) edit ≡ result_map_both (part names) (λ fault. fault) (applied n edit)

does_the_same : of_part (a ++ k) (Rename a k) × of_part a (Delete a) × of_part (a_f ++ k) (Rename a_f k) × of_part (a_h ++ k) (Append a_h)
does_the_same = (refl, refl, refl, refl)

-- a file among the parents of a path refuses the edit, and is in the part by its name
parent_is_a_file : (applied n (Mkdir (f ++ k)) ≡ Err NotDirectory) × (applied (part (f ++ k) n) (Mkdir (f ++ k)) ≡ Err NotDirectory)
    × (applied (part k n) (Mkdir (f ++ k)) ≡ Err Missing)
parent_is_a_file = (refl, refl, refl)

-- nor is it enough to have the name of a source alone, or of a target alone
both_paths_count : ((effect (part f n) (Rename f k)).rows ≡ ([], Dir) ∷ (a, Dir) ∷ (a_f, one) ∷ (k, empty) ∷ [])
    × ((part f (effect n (Rename f k))).rows ≡ ([], Dir) ∷ (a, Dir) ∷ (a_f, one) ∷ [])
    × (refusal (part k n) (Rename f k) ≡ Some Missing)
both_paths_count = (refl, refl, refl)

-- a log stops alike
abbrev log : List Tx
log = tx 1 (Rename a k) ∷ tx 2 (Mkdir (k ++ f ++ a)) ∷ tx 3 (Delete k) ∷ []

stops_alike : (run n log ≡ Err (2, NotDirectory)) × (run (part (a ++ k ++ f) n) log ≡ Err (2, NotDirectory))
    × (run (part (a ++ k) n) (tx 1 (Rename a k) ∷ tx 2 (Delete k) ∷ []) ≡ Ok (with_rows []))
stops_alike = (refl, refl, refl)
