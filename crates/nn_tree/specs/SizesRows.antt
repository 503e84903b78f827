-- How many files and directories there are before and after edits.
use Rattle.std.specs.Prelude.{◌≡◌, Bool, true, false, [], ◌∷◌, map, codes, refl}
use Rattle.nn_types.specs.declared.edit.Edit.TheVariants.{EndSegment, Mkdir, Add, Close, Append, Rename, Delete}
use Rattle.nn_model.specs.declared.form.Form.{Form}
use Rattle.nn_model.specs.declared.form.Form.TheVariants.{Dir, File}
use Rattle.nn_model.specs.Namespace.{Path, Namespace, root_alone, with_row}
use Rattle.nn_model.specs.Apply.{effect}
use Rattle.nn_tree.specs.Sizes.{is_file, files_of, directories_of, sizes_of, plus}

abbrev a : Path
a = codes "a" ∷ []

abbrev a_b : Path
a_b = codes "a" ∷ codes "b" ∷ []

abbrev a_f : Path
a_f = codes "a" ∷ codes "f" ∷ []

abbrev c : Path
c = codes "c" ∷ []

abbrev d : Path
d = codes "d" ∷ []

abbrev file : Bool → Form
file closed = File (record { replication = 3; closed = closed; blocks = [] })

forms : map is_file (Dir ∷ file true ∷ file false ∷ []) ≡ false ∷ true ∷ true ∷ []
forms = refl

the_root_alone : (files_of root_alone ≡ 0) × (directories_of root_alone ≡ 1)
the_root_alone = (refl, refl)

-- /a and /a/b are directories, /a/f is a closed file, and /c is an open one
abbrev n : Namespace
n = with_row (with_row (with_row (with_row root_alone a Dir) a_b Dir) a_f (file true)) c (file false)

files : files_of n ≡ 2
files = refl

directories : directories_of n ≡ 3
directories = refl

both : sizes_of n.rows ≡ record { files = 2; directories = 3 }
both = refl

of_no_rows : sizes_of [] ≡ record { files = 0; directories = 0 }
of_no_rows = refl

together : plus (record { files = 2; directories = 3 }) (record { files = 10; directories = 20 }) ≡ record { files = 12; directories = 23 }
together = refl

-- a directory more, a file more
one_more : map (λ edit. sizes_of (effect n edit).rows) (Mkdir d ∷ Add d 1 ∷ [])
    ≡ record { files = 2; directories = 4 } ∷ record { files = 3; directories = 3 } ∷ []
one_more = refl

-- a directory goes with all that lies below it
deleted : map (λ edit. sizes_of (effect n edit).rows) (Delete a ∷ Delete a_b ∷ Delete a_f ∷ [])
    ≡ record { files = 1; directories = 1 } ∷ record { files = 2; directories = 2 } ∷ record { files = 1; directories = 3 } ∷ []
deleted = refl

as_many : map (λ edit. sizes_of (effect n edit).rows) (EndSegment ∷ Rename a d ∷ Rename a_f d ∷ Append a_f ∷ Close c [] ∷ [])
    ≡ sizes_of n.rows ∷ sizes_of n.rows ∷ sizes_of n.rows ∷ sizes_of n.rows ∷ sizes_of n.rows ∷ []
as_many = refl
