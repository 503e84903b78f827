-- Why edits are refused: one table for each edit. Where two causes hold, the first in the order of the checks is the answer.
use Rattle.std.specs.Prelude.{◌≡◌, ℕ, true, false, List, [], ◌∷◌, map, Option, Some, None, Ok, Err, codes, refl}
use Rattle.nn_types.specs.declared.profile.Profile.TheVariants.{One, Two}
use Rattle.nn_types.specs.declared.edit.Edit.{Edit}
use Rattle.nn_types.specs.declared.edit.Edit.TheVariants.{StartSegment, EndSegment, Mkdir, Add, AddBlock, UpdateBlocks, Close, Append, Rename, Delete}
use Rattle.nn_types.specs.declared.edit.Edit.TheVariants.{SetReplication, AllocateBlockId, SetGenstamp}
use Rattle.nn_model.specs.declared.form.Form.TheVariants.{Dir}
use Rattle.nn_types.specs.declared.edit_fault.EditFault.{EditFault}
use Rattle.nn_types.specs.declared.edit_fault.EditFault.TheVariants.{Exists, Missing, NotDirectory, NotFile, IsRoot, IntoItself}
use Rattle.nn_types.specs.declared.edit_fault.EditFault.TheVariants.{NotOpen, WrongBlocks, BadGeneration, BadBlockId, BadReplication, NotClosed, LowerProfile}
use Rattle.nn_model.specs.Namespace.{Path, Namespace, lookup}
use Rattle.nn_model.specs.Apply.{walk, refusal, applied, effect, is_dir}
use Rattle.nn_model.specs.NamespaceRows.{a, a_b, ab, b, c, f, block, file, namespace}

-- ---- The namespace that the tables speak of.

-- a closed file, an open file with no blocks, and a path where nothing is
abbrev done : Path
done = codes "done" ∷ []

abbrev g : Path
g = codes "g" ∷ []

abbrev x : Path
x = codes "x" ∷ []

-- the path of a name below another
abbrev below : Path → Path
below [] = codes "y" ∷ []
below (name ∷ p) = name ∷ below p

-- two more ids: the one is a block of the open file, the other awaits
abbrev d : ℕ
d = 1073741827

abbrev e : ℕ
e = 1073741828

-- Directories /a and /a/b, a closed file /done, and the open files /f with two blocks and /g with none. The last id was passed over.
abbrev n : Namespace
n =
    namespace
    ((a, Dir) ∷ (a_b, Dir) ∷ (done, file 1 true (block b 1001 5 ∷ [])) ∷ (f, file 3 false (block c 1001 0 ∷ block d 1002 0 ∷ [])) ∷ (g, file 2 false []) ∷ [])
    1073741829 1003 (e ∷ [])

-- each edit of the table is refused so, or applies where it says None
abbrev Answers : List (Edit × Option EditFault) → Type 0
Answers table = map (λ row. refusal n row.0) table ≡ map (λ row. row.1) table

-- ---- Marks, directories and files.

marks : Answers ((StartSegment One, None) ∷ (StartSegment Two, None) ∷ (EndSegment, None) ∷ [])
marks = refl

-- once the profile is 2, it stays
marks_of_profile_two : map (refusal (effect n (StartSegment Two))) (StartSegment One ∷ StartSegment Two ∷ EndSegment ∷ []) ≡ Some LowerProfile ∷ None ∷ None ∷ []
marks_of_profile_two = refl

-- the walk goes from the root down: a file on the way is met before what is missing below it
mkdir : Answers
    (
    (Mkdir [], Some IsRoot)
    ∷ (Mkdir (below x), Some Missing)
    ∷ (Mkdir (below f), Some NotDirectory)
    ∷ (Mkdir (below (below f)), Some NotDirectory)
    ∷ (Mkdir a, Some Exists)
    ∷ (Mkdir f, Some Exists)
    ∷ (Mkdir x, None)
    ∷ (Mkdir (below a_b), None)
    ∷ []
    )
mkdir = refl

-- a replication out of range is found before the walk
add : Answers
    (
    (Add [] 0, Some IsRoot)
    ∷ (Add (below x) 0, Some BadReplication)
    ∷ (Add a 513, Some BadReplication)
    ∷ (Add (below x) 1, Some Missing)
    ∷ (Add (below f) 1, Some NotDirectory)
    ∷ (Add a 512, Some Exists)
    ∷ (Add f 512, Some Exists)
    ∷ (Add x 1, None)
    ∷ (Add (below a_b) 512, None)
    ∷ []
    )
add = refl

set_replication : Answers
    (
    (SetReplication [] 0, Some IsRoot)
    ∷ (SetReplication (below x) 0, Some BadReplication)
    ∷ (SetReplication f 513, Some BadReplication)
    ∷ (SetReplication (below x) 1, Some Missing)
    ∷ (SetReplication (below f) 1, Some NotDirectory)
    ∷ (SetReplication x 1, Some Missing)
    ∷ (SetReplication a 1, Some NotFile)
    ∷ (SetReplication f 1, None)
    ∷ (SetReplication done 512, None)
    ∷ []
    )
set_replication = refl

-- ---- Renames and deletes.

-- A source that is missing is found before the rename into itself; that, before the walk of the target and before what is there,
-- for a file too. A rename to itself finds that the target exists.
rename : Answers
    (
    (Rename [] x, Some IsRoot)
    ∷ (Rename (below x) [], Some IsRoot)
    ∷ (Rename (below f) (below x), Some NotDirectory)
    ∷ (Rename (below x) (below f), Some Missing)
    ∷ (Rename x (below x), Some Missing)
    ∷ (Rename a (below (below a)), Some IntoItself)
    ∷ (Rename a a_b, Some IntoItself)
    ∷ (Rename f (below f), Some IntoItself)
    ∷ (Rename a (below x), Some Missing)
    ∷ (Rename a (below f), Some NotDirectory)
    ∷ (Rename a f, Some Exists)
    ∷ (Rename a_b a, Some Exists)
    ∷ (Rename a a, Some Exists)
    ∷ (Rename a ab, None)
    ∷ (Rename f (below a), None)
    ∷ []
    )
rename = refl

delete : Answers
    (
    (Delete [], Some IsRoot)
    ∷ (Delete (below x), Some Missing)
    ∷ (Delete (below f), Some NotDirectory)
    ∷ (Delete x, Some Missing)
    ∷ (Delete a, None)
    ∷ (Delete done, None)
    ∷ []
    )
delete = refl

-- ---- Blocks.

-- a closed file is found before an id that doesn't await, and that before a stamp out of range
add_block : Answers
    (
    (AddBlock [] e 1001, Some IsRoot)
    ∷ (AddBlock (below x) e 1001, Some Missing)
    ∷ (AddBlock (below f) e 1001, Some NotDirectory)
    ∷ (AddBlock x e 1001, Some Missing)
    ∷ (AddBlock a e 1001, Some NotFile)
    ∷ (AddBlock done 7 0, Some NotOpen)
    ∷ (AddBlock f c 0, Some BadBlockId)
    ∷ (AddBlock f 1073741829 1001, Some BadBlockId)
    ∷ (AddBlock f e 1000, Some BadGeneration)
    ∷ (AddBlock f e 1004, Some BadGeneration)
    ∷ (AddBlock f e 1001, None)
    ∷ (AddBlock g e 1003, None)
    ∷ []
    )
add_block = refl

-- wrong ids in the whole list are found before a bad stamp in it
update_blocks : Answers
    (
    (UpdateBlocks [] [], Some IsRoot)
    ∷ (UpdateBlocks (below x) [], Some Missing)
    ∷ (UpdateBlocks (below f) [], Some NotDirectory)
    ∷ (UpdateBlocks x [], Some Missing)
    ∷ (UpdateBlocks a [], Some NotFile)
    ∷ (UpdateBlocks done (block c 1001 5 ∷ []), Some NotOpen)
    ∷ (UpdateBlocks f (block c 0 0 ∷ block e 1002 0 ∷ []), Some WrongBlocks)
    ∷ (UpdateBlocks f (block d 1002 0 ∷ []), Some WrongBlocks)
    ∷ (UpdateBlocks f [], Some WrongBlocks)
    ∷ (UpdateBlocks f (block c 1001 0 ∷ block d 1002 0 ∷ block e 1002 0 ∷ []), Some WrongBlocks)
    ∷ (UpdateBlocks g (block e 1001 0 ∷ []), Some WrongBlocks)
    ∷ (UpdateBlocks f (block c 1000 0 ∷ block d 1002 0 ∷ []), Some BadGeneration)
    ∷ (UpdateBlocks f (block c 1001 0 ∷ block d 1001 0 ∷ []), Some BadGeneration)
    ∷ (UpdateBlocks f (block c 1004 0 ∷ []), Some BadGeneration)
    ∷ (UpdateBlocks f (block c 1001 9 ∷ block d 1002 9 ∷ []), None)
    ∷ (UpdateBlocks f (block c 1003 9 ∷ []), None)
    ∷ (UpdateBlocks g [], None)
    ∷ []
    )
update_blocks = refl

-- a file with one block may lose it
close : Answers
    (
    (Close [] [], Some IsRoot)
    ∷ (Close (below x) [], Some Missing)
    ∷ (Close x [], Some Missing)
    ∷ (Close a [], Some NotFile)
    ∷ (Close done (block b 1001 5 ∷ []), Some NotOpen)
    ∷ (Close f [], Some WrongBlocks)
    ∷ (Close f (block c 1001 0 ∷ block d 1004 0 ∷ []), Some BadGeneration)
    ∷ (Close f (block c 1001 7 ∷ []), None)
    ∷ (Close g [], None)
    ∷ []
    )
close = refl

-- a closed file is opened, whatever marks came before
append : Answers
    (
    (Append [], Some IsRoot)
    ∷ (Append (below x), Some Missing)
    ∷ (Append (below f), Some NotDirectory)
    ∷ (Append x, Some Missing)
    ∷ (Append a, Some NotFile)
    ∷ (Append f, Some NotClosed)
    ∷ (Append g, Some NotClosed)
    ∷ (Append done, None)
    ∷ []
    )
append = refl

loses_its_one_block : refusal (namespace ((f, file 1 false (block b 1001 0 ∷ [])) ∷ []) b 1001 []) (Close f []) ≡ None
loses_its_one_block = refl

-- ---- Ids and stamps.

allocate_block_id : Answers ((AllocateBlockId 0, Some BadBlockId) ∷ (AllocateBlockId 1073741829, Some BadBlockId) ∷ (AllocateBlockId 1073741830, None) ∷ [])
allocate_block_id = refl

set_genstamp : Answers ((SetGenstamp 0, Some BadGeneration) ∷ (SetGenstamp 1003, Some BadGeneration) ∷ (SetGenstamp 1004, None) ∷ [])
set_genstamp = refl

-- ---- A refused edit has its fault as its outcome, and an edit that applies the namespace after it.

outcomes : (applied n (Mkdir a) ≡ Err Exists) × (applied n (Mkdir (below x)) ≡ Err Missing) × (applied n (Mkdir x) ≡ Ok (effect n (Mkdir x)))
outcomes = (refl, refl, refl)

-- a walk asks the parents of a path, from the root down, and not the path; the root has none
walks : map (walk (lookup n)) ([] ∷ x ∷ f ∷ below f ∷ below x ∷ below (below f) ∷ below a_b ∷ [])
    ≡ None ∷ None ∷ None ∷ Some NotDirectory ∷ Some Missing ∷ Some NotDirectory ∷ None ∷ []
walks = refl

-- where nothing is, not even the root, each path except the root misses a parent
walks_of_nothing : map (walk (λ q. None)) ([] ∷ x ∷ a_b ∷ []) ≡ None ∷ Some Missing ∷ Some Missing ∷ []
walks_of_nothing = refl

-- neither a file nor nothing is a directory
directories : map is_dir (Some Dir ∷ Some (file 1 true []) ∷ None ∷ []) ≡ true ∷ false ∷ false ∷ []
directories = refl
