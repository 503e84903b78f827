-- What edits do, what they touch, and what the namespace answers: one example for each.
use Rattle.std.specs.Prelude.{◌≡◌, ℕ, true, false, List, [], ◌∷◌, ◌++◌, map, Some, None, codes, refl}
use Rattle.std.specs.declared.cmp.Ordering.TheVariants.{Less, Equal, Greater}
use Rattle.nn_types.specs.declared.block.Block.{Block}
use Rattle.nn_types.specs.declared.status.Status.TheVariants.{Unnamed, Awaiting, Named, Retired}
use Rattle.nn_types.specs.declared.profile.Profile.TheVariants.{One, Two}
use Rattle.nn_types.specs.declared.edit.Edit.TheVariants.{StartSegment, EndSegment, Mkdir, Add, AddBlock, UpdateBlocks, Close, Append, Rename, Delete}
use Rattle.nn_types.specs.declared.edit.Edit.TheVariants.{SetReplication, AllocateBlockId, SetGenstamp}
use Rattle.nn_model.specs.declared.form.Form.{Form}
use Rattle.nn_model.specs.declared.form.Form.TheVariants.{Dir}
use Rattle.nn_model.specs.Namespace.{Path, path_cmp, Namespace, lookup, with_row, begins_with, no_file, file_at, all_blocks, no_block, no_stamp, root_alone}
use Rattle.nn_model.specs.Apply.{effect, moved}
use Rattle.nn_model.specs.Status.{block_at, status_of, due_in}
use Rattle.nn_model.specs.Touched.{nothing, touched, changed_blocks, changed_ids, row_after, block_after, is_touched}
use Rattle.nn_model.specs.Blocks.{block_row, block_row_at}
use Rattle.nn_model.specs.NamespaceRows.{a, a_b, ab, b, c, f, block, file, namespace}

-- ---- Two directories with a file in each, and two ids that await. The last id was passed over.

abbrev d : ℕ
d = 1073741827

abbrev e : ℕ
e = 1073741828

abbrev last : ℕ
last = 1073741829

-- the paths /a-b, /a/f and /ab/f
abbrev a-b : Path
a-b = codes "a-b" ∷ []

abbrev a_f : Path
a_f = a ++ f

abbrev ab_f : Path
ab_f = ab ++ f

abbrev done : Form
done = file 2 true (block c 1001 5 ∷ block b 1002 6 ∷ [])

abbrev open_file : List Block → Form
open_file blocks = file 3 false blocks

-- the namespace with these two files, and these ids awaiting
abbrev two_files : Form → Form → List ℕ → Namespace
two_files one other awaiting = namespace ((a, Dir) ∷ (a_f, one) ∷ (ab, Dir) ∷ (ab_f, other) ∷ []) last 1003 awaiting

abbrev n : Namespace
n = two_files done (open_file []) (d ∷ e ∷ [])

-- ---- Paths and look-ups.

-- a path comes before what is below it, and that before a longer name
path_order : (path_cmp a a_b ≡ Less) × (path_cmp a_b a-b ≡ Less) × (path_cmp a a ≡ Equal) × (path_cmp ab a_b ≡ Greater)
path_order = (refl, refl, refl, refl)

begins : map (begins_with a) ([] ∷ a ∷ a_f ∷ ab ∷ f ∷ []) ≡ false ∷ true ∷ true ∷ false ∷ false ∷ []
begins = refl

everything_begins_at_the_root : map (begins_with []) ([] ∷ a_f ∷ []) ≡ true ∷ true ∷ []
everything_begins_at_the_root = refl

begins_with_every_name : map (begins_with a_f) (a ∷ a_f ∷ a_b ∷ []) ≡ false ∷ true ∷ false ∷ []
begins_with_every_name = refl

look_ups : map (lookup n) ([] ∷ a ∷ a_f ∷ a_b ∷ []) ≡ Some Dir ∷ Some Dir ∷ Some done ∷ None ∷ []
look_ups = refl

files : (file_at n a_f ≡ record { replication = 2; closed = true; blocks = block c 1001 5 ∷ block b 1002 6 ∷ [] })
    × (file_at n a ≡ no_file) × (file_at n a_b ≡ no_file)
files = (refl, refl, refl)

blocks_of_all_files : all_blocks (two_files done (open_file (block d 1003 0 ∷ [])) []) ≡ block c 1001 5 ∷ block b 1002 6 ∷ block d 1003 0 ∷ []
blocks_of_all_files = refl

new_row : with_row (namespace ((a, Dir) ∷ (f, Dir) ∷ []) last 1003 []) ab done ≡ namespace ((a, Dir) ∷ (ab, done) ∷ (f, Dir) ∷ []) last 1003 []
new_row = refl

row_in_place : with_row n a_f (open_file []) ≡ two_files (open_file []) (open_file []) (d ∷ e ∷ [])
row_in_place = refl

before_the_first_edit : root_alone ≡ record { rows = ([], Dir) ∷ []; issued = record { last_block = 1073741824; last_stamp = 1000; awaiting = []; profile = One } }
before_the_first_edit = refl

-- ---- Effects.

-- a start mark sets the profile, and an end mark does nothing
marks : map (effect n) (StartSegment One ∷ StartSegment Two ∷ EndSegment ∷ []) ≡ n ∷ record n { issued = record n.issued { profile = Two } } ∷ n ∷ []
marks = refl

mkdir : effect root_alone (Mkdir a) ≡ namespace ((a, Dir) ∷ []) no_block no_stamp []
mkdir = refl

add : effect root_alone (Add f 3) ≡ namespace ((f, open_file []) ∷ []) no_block no_stamp []
add = refl

-- the new block is the last of its file, with no length yet, and awaits no more
add_block : effect (two_files done (open_file (block 1 1001 7 ∷ [])) (d ∷ e ∷ [])) (AddBlock ab_f d 1003)
    ≡ two_files done (open_file (block 1 1001 7 ∷ block d 1003 0 ∷ [])) (e ∷ [])
add_block = refl

abbrev with_two : Namespace
with_two = two_files done (open_file (block d 1001 0 ∷ block e 1002 0 ∷ [])) []

update_blocks : effect with_two (UpdateBlocks ab_f (block d 1003 9 ∷ [])) ≡ two_files done (open_file (block d 1003 9 ∷ [])) []
update_blocks = refl

close : effect with_two (Close ab_f (block d 1003 9 ∷ block e 1003 8 ∷ [])) ≡ two_files done (file 3 true (block d 1003 9 ∷ block e 1003 8 ∷ [])) []
close = refl

-- the file is open, and all else of it is as it was
append : effect n (Append a_f) ≡ two_files (file 2 false (block c 1001 5 ∷ block b 1002 6 ∷ [])) (open_file []) (d ∷ e ∷ [])
append = refl

-- what is below goes with the directory, another path with a like name stays, and the rows are in order again
rename : effect n (Rename a (codes "z" ∷ []))
    ≡ namespace ((ab, Dir) ∷ (ab_f, open_file []) ∷ (codes "z" ∷ [], Dir) ∷ (codes "z" ∷ f, done) ∷ []) last 1003 (d ∷ e ∷ [])
rename = refl

rename_of_a_file : effect n (Rename a_f (ab ++ a)) ≡ namespace ((a, Dir) ∷ (ab, Dir) ∷ (ab ++ a, done) ∷ (ab_f, open_file []) ∷ []) last 1003 (d ∷ e ∷ [])
rename_of_a_file = refl

moved_paths : map (moved a f) (a ∷ a_b ∷ ab ∷ []) ≡ f ∷ (f ++ codes "b" ∷ []) ∷ ab ∷ []
moved_paths = refl

delete : effect n (Delete a) ≡ namespace ((ab, Dir) ∷ (ab_f, open_file []) ∷ []) last 1003 (d ∷ e ∷ [])
delete = refl

set_replication : effect n (SetReplication a_f 7) ≡ two_files (file 7 true (block c 1001 5 ∷ block b 1002 6 ∷ [])) (open_file []) (d ∷ e ∷ [])
set_replication = refl

allocate_block_id : effect n (AllocateBlockId 1073741840) ≡ record n { issued = record n.issued { last_block = 1073741840; awaiting = d ∷ e ∷ 1073741840 ∷ [] } }
allocate_block_id = refl

set_genstamp : effect n (SetGenstamp 2000) ≡ record n { issued = record n.issued { last_stamp = 2000 } }
set_genstamp = refl

-- ---- What edits touch.

touched_nothing : map (touched n) (StartSegment Two ∷ EndSegment ∷ Mkdir f ∷ Add f 1 ∷ Rename a f ∷ SetReplication a_f 1 ∷ SetGenstamp 2000 ∷ [])
    ≡ nothing ∷ nothing ∷ nothing ∷ nothing ∷ nothing ∷ nothing ∷ nothing ∷ []
touched_nothing = refl

nothing_is_empty : nothing ≡ record { changed = []; retired = []; skipped = None }
nothing_is_empty = refl

touched_by_add_block : touched with_two (AddBlock ab_f 7 1003) ≡ record nothing { changed = block_row false (block 7 1003 0) ∷ [] }
touched_by_add_block = refl

touched_by_update_blocks : touched with_two (UpdateBlocks ab_f (block d 1003 9 ∷ [])) ≡ record nothing { changed = block_row false (block d 1003 9) ∷ []; retired = e ∷ [] }
touched_by_update_blocks = refl

-- a close alone closes the file of what it changed
touched_by_close : touched with_two (Close ab_f (block d 1003 9 ∷ block e 1003 8 ∷ []))
    ≡ record nothing { changed = block_row true (block d 1003 9) ∷ block_row true (block e 1003 8) ∷ [] }
touched_by_close = refl

changed_by_close : let what = touched with_two (Close ab_f (block d 1003 9 ∷ block e 1003 8 ∷ [])) in
    (changed_blocks what ≡ block d 1003 9 ∷ block e 1003 8 ∷ []) × (changed_ids what ≡ d ∷ e ∷ [])
changed_by_close = (refl, refl)

-- all blocks of the file, in file order
touched_by_append : touched n (Append a_f) ≡ record nothing { changed = block_row false (block c 1001 5) ∷ block_row false (block b 1002 6) ∷ [] }
touched_by_append = refl

-- the ids that go are in ascending order, though c comes before b in its file; another directory's stay
touched_by_delete : touched with_two (Delete a) ≡ record nothing { retired = b ∷ c ∷ [] }
touched_by_delete = refl

touched_by_allocation : map (λ i. (touched n (AllocateBlockId i)).skipped) (1073741830 ∷ 1073741831 ∷ 1073741840 ∷ [])
    ≡ None ∷ Some (1073741830, 1073741830) ∷ Some (1073741830, 1073741839) ∷ []
touched_by_allocation = refl

allocation_changes_no_block : touched n (AllocateBlockId 1073741831) ≡ record nothing { skipped = Some (1073741830, 1073741830) }
allocation_changes_no_block = refl

-- d has a new stamp and length, e is left out, and b is as it was
told_by_what_was_touched : let edit = UpdateBlocks ab_f (block d 1003 9 ∷ []) in
    map (λ id. block_after (touched with_two edit) (block_at with_two id) id) (b ∷ d ∷ e ∷ last ∷ [])
    ≡ Some (block b 1002 6) ∷ Some (block d 1003 9) ∷ None ∷ None ∷ []
told_by_what_was_touched = refl

row_of_a_closed_file : block_row_at n b ≡ Some (record { block = block b 1002 6; closed = true })
row_of_a_closed_file = refl

row_of_an_open_file : block_row_at with_two d ≡ Some (record { block = block d 1001 0; closed = false })
row_of_an_open_file = refl

no_row_of_what_awaits : block_row_at n d ≡ None
no_row_of_what_awaits = refl

closed_by_a_close : let edit = Close ab_f (block d 1003 9 ∷ []) in
    map (λ id. row_after (touched with_two edit) (block_row_at with_two id) id) (b ∷ d ∷ e ∷ [])
    ≡ Some (block_row true (block b 1002 6)) ∷ Some (block_row true (block d 1003 9)) ∷ None ∷ []
closed_by_a_close = refl

open_after_an_update : let edit = UpdateBlocks ab_f (block d 1003 9 ∷ []) in
    map (λ id. row_after (touched with_two edit) (block_row_at with_two id) id) (b ∷ d ∷ e ∷ [])
    ≡ Some (block_row true (block b 1002 6)) ∷ Some (block_row false (block d 1003 9)) ∷ None ∷ []
open_after_an_update = refl

open_after_an_append : map (λ id. row_after (touched n (Append a_f)) (block_row_at n id) id) (b ∷ c ∷ d ∷ [])
    ≡ Some (block_row false (block b 1002 6)) ∷ Some (block_row false (block c 1001 5)) ∷ None ∷ []
open_after_an_append = refl

changed_and_retired_are_touched : map (is_touched (touched with_two (UpdateBlocks ab_f (block d 1003 9 ∷ [])))) (b ∷ d ∷ e ∷ []) ≡ false ∷ true ∷ true ∷ []
changed_and_retired_are_touched = refl

-- the id that an allocation issues is not touched: no message about it becomes due
skipped_are_touched : map (is_touched (touched n (AllocateBlockId 1073741833))) (last ∷ 1073741830 ∷ 1073741832 ∷ 1073741833 ∷ [])
    ≡ false ∷ true ∷ true ∷ false ∷ []
skipped_are_touched = refl

-- ---- The status of an id, and what is due.

block_of_an_id : map (block_at n) (b ∷ d ∷ []) ≡ Some (block b 1002 6) ∷ None ∷ []
block_of_an_id = refl

-- an id below the first one that a log issues is retired from the start
statuses : map (status_of n) (0 ∷ b ∷ c ∷ d ∷ e ∷ last ∷ 1073741830 ∷ []) ≡ Retired ∷ Named 1002 ∷ Named 1001 ∷ Awaiting ∷ Awaiting ∷ Retired ∷ Unnamed ∷ []
statuses = refl

dues : map (λ stamp. map (λ id. due_in n id stamp) (b ∷ d ∷ last ∷ 1073741830 ∷ [])) (1001 ∷ 1002 ∷ 1003 ∷ [])
    ≡ (true ∷ false ∷ true ∷ false ∷ []) ∷ (true ∷ false ∷ true ∷ false ∷ []) ∷ (false ∷ false ∷ true ∷ false ∷ []) ∷ []
dues = refl
