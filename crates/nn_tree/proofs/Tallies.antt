-- How many files and directories an edit leaves.
use Rattle.std.proofs.Common.{◌≡◌, ℕ, ◌+◌, ◌≤◌, Bool, true, false, cond, not, List, [], ◌∷◌, ◌++◌, length, drop, map, Option, Some, None, refl, sym, ap, subst, ◌∙◌, arith}
use Rattle.std.specs.Prelude.{filter, ◌-◌}
use Rattle.std.specs.List.{count_by}
use Rattle.std.specs.declared.cmp.Ordering.TheVariants.{Less, Equal, Greater}
use Rattle.std.specs.Ordering.{is_eq}
use Rattle.std.specs.FinMap.Entries.{find as find_entry, put, by_order, is_sorted, below_all}
use Rattle.std.proofs.lemmas.Bool.{and_parts, false_from_ne_true}
use Rattle.std.proofs.lemmas.List.Recursion.{is_sum_by}
use Rattle.nn_model.specs.declared.form.Form.{Form}
use Rattle.nn_model.specs.declared.form.Form.TheVariants.{Dir, File}
use Rattle.nn_model.specs.declared.form.FileRow.{FileRow}
use Rattle.nn_types.specs.declared.edit.Edit.TheVariants as edit
use Rattle.nn_model.specs.Namespace.{Path, Namespace, path_cmp, lookup, with_row, begins_with}
use Rattle.nn_model.specs.Apply.{in_path_order, moved, effect}
use Rattle.nn_model.proofs.Moves.{lookup_rename, after_rename, at_target, elsewhere}
use Rattle.nn_model.proofs.Prefixes.{same, same_self, begins_append, begins_split}
use Rattle.nn_model.proofs.Wells.{not_below, below_less}
use Rattle.nn_tree.specs.declared.sizes.Sizes.{Sizes}
use Rattle.nn_tree.specs.At.{at}
use Rattle.nn_tree.specs.Flat.{under, under_all}
use Rattle.nn_tree.specs.Sizes.{is_file, sizes_of, plus}
use Rattle.nn_tree.proofs.Retired.{rows_below}

-- how many of the rows pass the test
abbrev pub tally : (Form → Bool) → List (Path × Form) → ℕ
tally k [] = 0
tally k (row ∷ rows) = cond (k row.1) 1 0 + tally k rows

pub tally_is : (k : Form → Bool) (rows : List (Path × Form)) → tally k rows ≡ count_by (λ row. k row.1) rows
tally_is k rows = is_sum_by (tally k) (λ row. cond (k row.1) 1 0) refl (λ row later. refl) rows

head_off : (b : Bool) (form : Form) (o : Option Form) → cond b (Some form) o ≡ None → b ≡ false
head_off true form o h = absurd (cc)
head_off false form o h = refl

tail_off : (b : Bool) (form : Form) (o : Option Form) → cond b (Some form) o ≡ None → o ≡ None
tail_off true form o h = absurd (cc)
tail_off false form o h = h

-- ---- a row where nothing stood
pub tally_made : (k : Form → Bool) (p : Path) (form : Form) (rows : List (Path × Form)) → find_entry path_cmp p rows ≡ None → tally k (put path_cmp p form rows) ≡ cond (k form) 1 0 + tally k rows
tally_made k p form [] h = refl
tally_made k p form (row ∷ rows) h =
    elim (path_cmp p row.0) as (λ o. path_cmp p row.0 ≡ o → tally k (by_order o ((p, form) ∷ row ∷ rows) ((row.0, form) ∷ rows) (row ∷ put path_cmp p form rows)) ≡ cond (k form) 1 0 + (cond (k row.1) 1 0 + tally k rows)) [
      | Less ↦ λ e. refl
      | Equal ↦ λ e. absurd (let b = sym (head_off (same p row.0) row.1 (find_entry path_cmp p rows) h) ∙ ap is_eq e in (cc))
      | Greater ↦ λ e. omega (arith, tally_made k p form rows (tail_off (same p row.0) row.1 (find_entry path_cmp p rows) h))
    ] refl

-- ---- a row instead of another of its kind
pub tally_set : (k : Form → Bool) (p : Path) (old new : Form) (rows : List (Path × Form)) → is_sorted path_cmp rows ≡ true → find_entry path_cmp p rows ≡ Some old → k old ≡ k new → tally k (put path_cmp p new rows) ≡ tally k rows
tally_set k p old new [] s h alike = absurd (cc)
tally_set k p old new (row ∷ rows) s h alike =
    let parts = and_parts (below_all path_cmp row.0 rows) (is_sorted path_cmp rows) s in
    elim (path_cmp p row.0) as (λ o. path_cmp p row.0 ≡ o → cond (is_eq o) (Some row.1) (find_entry path_cmp p rows) ≡ Some old
    → tally k (by_order o ((p, new) ∷ row ∷ rows) ((row.0, new) ∷ rows) (row ∷ put path_cmp p new rows)) ≡ cond (k row.1) 1 0 + tally k rows) [
      | Less ↦ λ e f. absurd (let none = not_below p rows (below_less p row.0 rows e parts.0) in (cc (none, f)))
      | Equal ↦ λ e f. (let was : row.1 ≡ old = cc in ap (λ b. cond b 1 0 + tally k rows) (sym alike ∙ sym (ap k was)))
      | Greater ↦ λ e f. ap (λ x. cond (k row.1) 1 0 + x) (tally_set k p old new rows parts.1 f alike)
    ] refl h

-- ---- rows that are taken out
pub tally_parts : (k : Form → Bool) (t : Path → Bool) (rows : List (Path × Form)) → tally k rows ≡ tally k (filter (λ row. t row.0) rows) + tally k (filter (λ row. not (t row.0)) rows)
tally_parts k t [] = refl
tally_parts k t (row ∷ rows) =
    let ins = filter (λ (r : Path × Form). t r.0) rows in
    let outs = filter (λ (r : Path × Form). not (t r.0)) rows in
    elim (t row.0) as (λ b. cond (k row.1) 1 0 + tally k rows ≡ tally k (cond b (row ∷ ins) ins) + tally k (cond (not b) (row ∷ outs) outs)) [
      | true ↦ omega (arith, tally_parts k t rows)
      | false ↦ omega (arith, tally_parts k t rows)
    ]

tally_under : (k : Form → Bool) (n : List ℕ) (rows : List (Path × Form)) → tally k (under n rows) ≡ tally k rows
tally_under k n [] = refl
tally_under k n (row ∷ rows) = ap (λ x. cond (k row.1) 1 0 + x) (tally_under k n rows)

pub tally_below : (k : Form → Bool) (p : Path) (rows : List (Path × Form)) → tally k (under_all p rows) ≡ tally k rows
tally_below k [] rows = refl
tally_below k (n ∷ p) rows = tally_under k n (under_all p rows) ∙ tally_below k p rows

-- ---- rows that move
-- the path of the first row is its own after the move
moved_apart : (s d : Path) (row : Path × Form) (rows : List (Path × Form)) → ((rest : Path) → find_entry path_cmp (d ++ rest) (row ∷ rows) ≡ None) → find_entry path_cmp row.0 rows ≡ None →
    find_entry path_cmp (moved s d row.0) (in_path_order (map (λ r. (moved s d r.0, r.1)) rows)) ≡ None
moved_apart s d row rows free none =
    let f : Path → Option Form = λ q. find_entry path_cmp q rows in
    lookup_rename rows s d (moved s d row.0) (λ rest. tail_off (same (d ++ rest) row.0) row.1 (f (d ++ rest)) (free rest))
    ∙ elim (begins_with s row.0) as (λ b. begins_with s row.0 ≡ b → after_rename f s d (cond b (d ++ drop (length s) row.0) row.0) ≡ None) [
      | true ↦ λ e. at_target f s d (d ++ drop (length s) row.0) (begins_append d (drop (length s) row.0))
          ∙ ap (λ rest. f (s ++ rest)) (drop_prefix d (drop (length s) row.0)) ∙ ap f (sym (begins_split s row.0 e)) ∙ none
      | false ↦ λ e. elsewhere f s d row.0 (false_from_ne_true (begins_with d row.0) (λ h. taken (begins_split d row.0 h))) e ∙ none
    ] refl
  where
    drop_prefix : (p q : Path) → drop (length p) (p ++ q) ≡ q
    drop_prefix [] q = refl
    drop_prefix (n ∷ p) q = drop_prefix p q

    taken : row.0 ≡ d ++ drop (length d) row.0 → ⊥
    taken is =
        let here : same row.0 row.0 ≡ false = ap (λ q. same q row.0) is ∙ head_off (same (d ++ drop (length d) row.0) row.0) row.1 (find_entry path_cmp (d ++ drop (length d) row.0) rows) (free (drop (length d) row.0)) in
        let b = sym here ∙ same_self row.0 in
        (cc)

pub tally_moved : (k : Form → Bool) (s d : Path) (rows : List (Path × Form)) → is_sorted path_cmp rows ≡ true → ((rest : Path) → find_entry path_cmp (d ++ rest) rows ≡ None) →
    tally k (in_path_order (map (λ r. (moved s d r.0, r.1)) rows)) ≡ tally k rows
tally_moved k s d [] sorted free = refl
tally_moved k s d (row ∷ rows) sorted free =
    let parts = and_parts (below_all path_cmp row.0 rows) (is_sorted path_cmp rows) sorted in
    tally_made k (moved s d row.0) row.1 (in_path_order (map (λ r. (moved s d r.0, r.1)) rows)) (moved_apart s d row rows free (not_below row.0 rows parts.0))
    ∙ ap (λ x. cond (k row.1) 1 0 + x) (tally_moved k s d rows parts.1 (λ rest. tail_off (same (d ++ rest) row.0) row.1 (find_entry path_cmp (d ++ rest) rows) (free rest)))

-- ---- files and directories together
abbrev pub is_other : Form → Bool
is_other form = not (is_file form)

-- those of one row
abbrev pub size_of : Form → Sizes
size_of form = record { files = cond (is_file form) 1 0; directories = cond (is_other form) 1 0 }

abbrev pub tallied : List (Path × Form) → Sizes
tallied rows = record { files = tally is_file rows; directories = tally is_other rows }

pub tallied_is : (rows : List (Path × Form)) → tallied rows ≡ sizes_of rows
tallied_is rows = λ j. record { files = tally_is is_file rows j; directories = tally_is is_other rows j }

pub sizes_made : (n : Namespace) (p : Path) (form : Form) → lookup n p ≡ None → plus (size_of form) (sizes_of n.rows) ≡ sizes_of (with_row n p form).rows
sizes_made n p form free =
    sym (ap (plus (size_of form)) (tallied_is n.rows))
    ∙ sym (λ j. record { files = tally_made is_file p form n.rows free j; directories = tally_made is_other p form n.rows free j })
    ∙ tallied_is (put path_cmp p form n.rows)

-- a file instead of a file
pub sizes_set : (n : Namespace) (p : Path) (x y : FileRow) → is_sorted path_cmp n.rows ≡ true → lookup n p ≡ Some (File x) → sizes_of n.rows ≡ sizes_of (with_row n p (File y)).rows
sizes_set n p x y sorted was =
    sym (tallied_is n.rows)
    ∙ sym (λ j. record { files = tally_set is_file p (File x) (File y) n.rows sorted was refl j; directories = tally_set is_other p (File x) (File y) n.rows sorted was refl j })
    ∙ tallied_is (put path_cmp p (File y) n.rows)

-- what a delete takes out, and what it leaves
pub sizes_taken : (n : Namespace) (p : Path) (t : List (Path × Form)) → is_sorted path_cmp n.rows ≡ true → is_sorted path_cmp t ≡ true → ((q : Path) → lookup n (p ++ q) ≡ at t q) →
    sizes_of n.rows ≡ plus (sizes_of t) (sizes_of (effect n (edit.Delete p)).rows)
sizes_taken n p t rows_sorted sorted sub =
    let out : Path → Bool = begins_with p in
    let left = filter (λ (row : Path × Form). not (out row.0)) n.rows in
    let goes : (k : Form → Bool) → tally k n.rows ≡ tally k t + tally k left =
    λ k. tally_parts k out n.rows ∙ ap (λ rows. tally k rows + tally k left) (rows_below n p t rows_sorted sorted sub) ∙ ap (λ x. x + tally k left) (tally_below k p t) in
    sym (tallied_is n.rows) ∙ (λ j. record { files = goes is_file j; directories = goes is_other j }) ∙ (λ j. plus (tallied_is t j) (tallied_is left j))

pub part_files : (all a b : Sizes) → all ≡ plus a b → a.files ≤ all.files
part_files all a b e = omega (arith, ap (λ (s : Sizes). s.files) e)

pub part_directories : (all a b : Sizes) → all ≡ plus a b → a.directories ≤ all.directories
part_directories all a b e = omega (arith, ap (λ (s : Sizes). s.directories) e)

pub rest_is : (a b c : Sizes) → plus a b ≡ plus a c → b ≡ c
rest_is a b c e =
    let files : b.files ≡ c.files = omega (arith, ap (λ (s : Sizes). s.files) e) in
    let directories : b.directories ≡ c.directories = omega (arith, ap (λ (s : Sizes). s.directories) e) in
    λ j. record { files = files j; directories = directories j }

pub sizes_moved : (n : Namespace) (s d : Path) → is_sorted path_cmp n.rows ≡ true → ((rest : Path) → lookup n (d ++ rest) ≡ None) → sizes_of n.rows ≡ sizes_of (effect n (edit.Rename s d)).rows
sizes_moved n s d sorted free =
    let moves = in_path_order (map (λ (row : Path × Form). (moved s d row.0, row.1)) n.rows) in
    sym (tallied_is n.rows) ∙ sym (λ j. record { files = tally_moved is_file s d n.rows sorted free j; directories = tally_moved is_other s d n.rows sorted free j }) ∙ tallied_is moves

-- ---- a walk that takes each row off all
-- of all, the rows that it passed are taken off, and of these rows those that are left are not
abbrev pub AreOff : Sizes → Sizes → List (Path × Form) → List (Path × Form) → Type 0
AreOff others all rows left = plus others (tallied rows) ≡ plus all (tallied left)

pub has_directory : (others all : Sizes) (rows left next : List (Path × Form)) (p : Path) → (sizes_of rows).directories ≤ all.directories → AreOff others all rows left → left ≡ (p, Dir) ∷ next → 1 ≤ others.directories
has_directory others all rows left next p enough off is =
    let few : tally is_other rows ≤ all.directories = subst (λ (s : Sizes). s.directories ≤ all.directories) (sym (tallied_is rows)) enough in
    let sum : others.directories + tally is_other rows ≡ all.directories + (1 + tally is_other next) = ap (λ (s : Sizes). s.directories) (off ∙ ap (λ r. plus all (tallied r)) is) in
    omega (arith, few, sum)

pub has_file : (others all : Sizes) (rows left next : List (Path × Form)) (p : Path) (x : FileRow) → (sizes_of rows).files ≤ all.files → AreOff others all rows left → left ≡ (p, File x) ∷ next → 1 ≤ others.files
has_file others all rows left next p x enough off is =
    let few : tally is_file rows ≤ all.files = subst (λ (s : Sizes). s.files ≤ all.files) (sym (tallied_is rows)) enough in
    let sum : others.files + tally is_file rows ≡ all.files + (1 + tally is_file next) = ap (λ (s : Sizes). s.files) (off ∙ ap (λ r. plus all (tallied r)) is) in
    omega (arith, few, sum)

one_off : (o m a n : ℕ) → o + m ≡ a + (1 + n) → 1 ≤ o → (o - 1) + m ≡ a + n
one_off o m a n e h = omega arith

none_off : (o m a n : ℕ) → o + m ≡ a + (0 + n) → o + m ≡ a + n
none_off o m a n e = omega arith

pub off_directory : (others all : Sizes) (rows left next : List (Path × Form)) (p : Path) → 1 ≤ others.directories → AreOff others all rows left → left ≡ (p, Dir) ∷ next →
    AreOff (record { files = others.files; directories = others.directories - 1 }) all rows next
off_directory others all rows left next p some off is =
    let now = off ∙ ap (λ r. plus all (tallied r)) is in
    λ j. record { files = none_off others.files (tally is_file rows) all.files (tally is_file next) (ap (λ (s : Sizes). s.files) now) j; directories = one_off others.directories (tally is_other rows) all.directories (tally is_other next) (ap (λ (s : Sizes). s.directories) now) some j }

pub off_file : (others all : Sizes) (rows left next : List (Path × Form)) (p : Path) (x : FileRow) → 1 ≤ others.files → AreOff others all rows left → left ≡ (p, File x) ∷ next →
    AreOff (record { files = others.files - 1; directories = others.directories }) all rows next
off_file others all rows left next p x some off is =
    let now = off ∙ ap (λ r. plus all (tallied r)) is in
    λ j. record { files = one_off others.files (tally is_file rows) all.files (tally is_file next) (ap (λ (s : Sizes). s.files) now) some j; directories = none_off others.directories (tally is_other rows) all.directories (tally is_other next) (ap (λ (s : Sizes). s.directories) now) j }

commuted : (a b : Sizes) → plus a b ≡ plus b a
commuted a b =
    let files : a.files + b.files ≡ b.files + a.files = omega arith in
    let directories : a.directories + b.directories ≡ b.directories + a.directories = omega arith in
    λ j. record { files = files j; directories = directories j }

no_more : (all : Sizes) → plus all (tallied []) ≡ all
no_more all =
    let files : all.files + 0 ≡ all.files = omega arith in
    let directories : all.directories + 0 ≡ all.directories = omega arith in
    λ j. record { files = files j; directories = directories j }

pub all_off : (others all : Sizes) (rows left : List (Path × Form)) → AreOff others all rows left → left ≡ [] → all ≡ plus (sizes_of rows) others
all_off others all rows left off end =
    sym (no_more all) ∙ sym (off ∙ ap (λ r. plus all (tallied r)) end) ∙ commuted others (tallied rows) ∙ ap (λ s. plus s others) (tallied_is rows)
