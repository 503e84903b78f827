-- What stands at a path after a rename, and what a walk and an absent path say of the paths around them.
use Rattle.std.proofs.Common.{◌≡◌, ℕ, Bool, true, false, cond, ◌&&◌, List, [], ◌∷◌, ◌++◌, length, drop, map, Option, Some, None, refl, sym, ap, ◌∙◌, append-nil}
use Rattle.std.proofs.Common.{append_assoc}
use Rattle.std.specs.Prelude.{is_some, nat_lt}
use Rattle.std.specs.FinMap.Entries.{find as find_entry}
use Rattle.std.proofs.lemmas.Bool.{both_ways, false_from_ne_true, and_from, cond-true, cond-false}
use Rattle.nn_model.specs.declared.form.Form.{Form}
use Rattle.nn_model.specs.declared.form.Form.TheVariants.{Dir, File}
use Rattle.nn_types.specs.declared.edit_fault.EditFault.{EditFault}
use Rattle.nn_model.specs.Namespace.{Path, path_cmp, begins_with}
use Rattle.nn_model.specs.Apply.{in_directory, walk, in_path_order, moved}
use Rattle.nn_model.proofs.Lookups.{find_in_order}
use Rattle.nn_model.proofs.Prefixes.{same, same_after, apart_by, apart_from, begins_append, begins_split, longer}

-- ---- walks

-- what finds no fault in a directory has one before it
pub is_directory : (o : Option Form) (found : Option EditFault) → in_directory o found ≡ None → (o ≡ Some Dir) × (found ≡ None)
is_directory None found h = absurd (cc)
is_directory (Some Dir) found h = (refl, h)
is_directory (Some (File file)) found h = absurd (cc)

-- the parent of a path whose walk finds no fault is a directory
pub last_parent : (f : Path → Option Form) (p : Path) (name : List ℕ) → walk f (p ++ name ∷ []) ≡ None → f p ≡ Some Dir
last_parent f [] name h = (is_directory (f []) None h).0
last_parent f (x ∷ p) name h = last_parent (λ q. f (x ∷ q)) p name (is_directory (f []) _ h).1

-- ---- absent paths

-- each path's parent is a directory
abbrev pub HasParents : (Path → Option Form) → Type 0
HasParents f = (p : Path) (name : List ℕ) → is_some (f (p ++ name ∷ [])) ≡ true → f p ≡ Some Dir

absent : (o parent : Option Form) → (is_some o ≡ true → parent ≡ Some Dir) → parent ≡ None → o ≡ None
absent None parent h none = refl
absent (Some form) parent h none = let e = h refl in absurd (cc)

-- where nothing stands, nothing stands below
pub nothing_below : (f : Path → Option Form) → HasParents f → (p rest : Path) → f p ≡ None → f (p ++ rest) ≡ None
nothing_below f h p [] none = ap f (append-nil p) ∙ none
nothing_below f h p (name ∷ rest) none =
    ap f (sym (append_assoc p (name ∷ []) rest)) ∙ nothing_below f h (p ++ name ∷ []) rest (absent (f (p ++ name ∷ [])) (f p) (h p name) none)

-- a target that is free lies not below the source
pub not_below : (f : Path → Option Form) (s d : Path) → f d ≡ None → is_some (f s) ≡ true → (begins_with s d && nat_lt (length s) (length d)) ≡ false →
    begins_with s d ≡ false
not_below f s d free there outside = false_from_ne_true _ (λ below. inside (drop (length s) d) (begins_split s d below) below)
  where
    inside : (rest : Path) → d ≡ s ++ rest → begins_with s d ≡ true → ⊥
    inside [] is below = both_ways _ refl (sym (ap is_some (ap f (sym (append-nil s) ∙ sym is) ∙ free)) ∙ there)
    inside (name ∷ rest) is below = both_ways _ outside (and_from _ _ below (longer s rest d name is))

-- ---- a rename

abbrev pub moved_all : Path → Path → List (Path × Form) → List (Path × Form)
moved_all s d rows = map (λ row. (moved s d row.0, row.1)) rows

head_off : (b : Bool) (form : Form) (o : Option Form) → cond b (Some form) o ≡ None → b ≡ false
head_off true form o h = absurd (cc)
head_off false form o h = refl

tail_off : (b : Bool) (form : Form) (o : Option Form) → cond b (Some form) o ≡ None → o ≡ None
tail_off true form o h = absurd (cc)
tail_off false form o h = h

-- a path below d, in one row
test_below : (s d rest k : Path) → same (d ++ rest) k ≡ false → same (d ++ rest) (moved s d k) ≡ same (s ++ rest) k
test_below s d rest k h =
    elim (begins_with s k) as (λ b. begins_with s k ≡ b → same (d ++ rest) (cond b (d ++ drop (length s) k) k) ≡ same (s ++ rest) k) [
      | true ↦ λ e. same_after d rest (drop (length s) k) ∙ sym (same_after s rest (drop (length s) k)) ∙ ap (same (s ++ rest)) (sym (begins_split s k e))
      | false ↦ λ e. h ∙ sym (apart_by s (s ++ rest) k (begins_append s rest) e)
    ] refl

-- a path below s
test_old : (s d q k : Path) → begins_with d q ≡ false → begins_with s q ≡ true → same q (moved s d k) ≡ false
test_old s d q k h below =
    elim (begins_with s k) as (λ b. begins_with s k ≡ b → same q (cond b (d ++ drop (length s) k) k) ≡ false) [
      | true ↦ λ e. apart_from d q (d ++ drop (length s) k) h (begins_append d (drop (length s) k))
      | false ↦ λ e. apart_by s q k below e
    ] refl

-- any other path
test_other : (s d q k : Path) → begins_with d q ≡ false → begins_with s q ≡ false → same q (moved s d k) ≡ same q k
test_other s d q k h beside =
    elim (begins_with s k) as (λ b. begins_with s k ≡ b → same q (cond b (d ++ drop (length s) k) k) ≡ same q k) [
      | true ↦ λ e. apart_from d q (d ++ drop (length s) k) h (begins_append d (drop (length s) k)) ∙ sym (apart_from s q k beside e)
      | false ↦ λ e. refl
    ] refl

abbrev pub found : Path → List (Path × Form) → Option Form
found q rows = find_entry path_cmp q rows

find_below : (rows : List (Path × Form)) (s d rest : Path) → found (d ++ rest) rows ≡ None → found (d ++ rest) (moved_all s d rows) ≡ found (s ++ rest) rows
find_below [] s d rest h = refl
find_below (row ∷ rows) s d rest h =
    ap (λ b. cond b (Some row.1) (found (d ++ rest) (moved_all s d rows))) (test_below s d rest row.0 (head_off _ _ _ h))
    ∙ ap (λ o. cond (same (s ++ rest) row.0) (Some row.1) o) (find_below rows s d rest (tail_off _ _ _ h))

find_old : (rows : List (Path × Form)) (s d q : Path) → begins_with d q ≡ false → begins_with s q ≡ true → found q (moved_all s d rows) ≡ None
find_old [] s d q h below = refl
find_old (row ∷ rows) s d q h below =
    ap (λ b. cond b (Some row.1) (found q (moved_all s d rows))) (test_old s d q row.0 h below) ∙ find_old rows s d q h below

find_other : (rows : List (Path × Form)) (s d q : Path) → begins_with d q ≡ false → begins_with s q ≡ false → found q (moved_all s d rows) ≡ found q rows
find_other [] s d q h beside = refl
find_other (row ∷ rows) s d q h beside =
    ap (λ b. cond b (Some row.1) (found q (moved_all s d rows))) (test_other s d q row.0 h beside)
    ∙ ap (λ o. cond (same q row.0) (Some row.1) o) (find_other rows s d q h beside)

-- What stands at a path after a rename, where nothing stood at the target or below: at the target and below, what stood at the source
-- and below; at the source and below, nothing; elsewhere what stood there.
abbrev pub after_rename : (Path → Option Form) → Path → Path → Path → Option Form
after_rename f s d q = cond (begins_with d q) (f (s ++ drop (length d) q)) (cond (begins_with s q) None (f q))

pub at_target : (f : Path → Option Form) (s d q : Path) → begins_with d q ≡ true → after_rename f s d q ≡ f (s ++ drop (length d) q)
at_target f s d q below = cond-true (begins_with d q) _ _ below

pub at_source : (f : Path → Option Form) (s d q : Path) → begins_with d q ≡ false → begins_with s q ≡ true → after_rename f s d q ≡ None
at_source f s d q beside below = cond-false (begins_with d q) _ _ beside ∙ cond-true (begins_with s q) _ _ below

pub elsewhere : (f : Path → Option Form) (s d q : Path) → begins_with d q ≡ false → begins_with s q ≡ false → after_rename f s d q ≡ f q
elsewhere f s d q beside apart = cond-false (begins_with d q) _ _ beside ∙ cond-false (begins_with s q) _ _ apart

pub lookup_rename : (rows : List (Path × Form)) (s d q : Path) → ((rest : Path) → found (d ++ rest) rows ≡ None) →
    found q (in_path_order (moved_all s d rows)) ≡ after_rename (λ p. found p rows) s d q
lookup_rename rows s d q free =
    find_in_order q (moved_all s d rows)
    ∙ elim (begins_with d q) as (λ b. begins_with d q ≡ b → found q (moved_all s d rows)
    ≡ cond b (found (s ++ drop (length d) q) rows) (cond (begins_with s q) None (found q rows))) [
      | true ↦ λ e. ap (λ x. found x (moved_all s d rows)) (begins_split d q e) ∙ find_below rows s d (drop (length d) q) (free _)
      | false ↦ λ e. elim (begins_with s q) as (λ b. begins_with s q ≡ b → found q (moved_all s d rows) ≡ cond b None (found q rows)) [
        | true ↦ λ g. find_old rows s d q e g
        | false ↦ λ g. find_other rows s d q e g
      ] refl
    ] refl
