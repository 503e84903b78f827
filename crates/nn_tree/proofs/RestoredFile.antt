-- A file is restored with blocks that are new.
use Rattle.std.proofs.Common.{inl, inr, ◌≡◌, ℕ, ◌+◌, ◌≤◌, Bool, true, false, cond, not, ◌&&◌, ◌||◌, List, [], ◌∷◌, ◌++◌, Option, Some, None, is_some, refl, sym, ap, subst, ◌∙◌, arith}
use Rattle.std.proofs.option.Match.{None-if_not_some}
use Rattle.std.specs.Prelude.{◌==◌, find, option_map, nat_le, nat_lt}
use Rattle.std.specs.List.{list_all}
use Rattle.std.specs.FinMap.Entries.{is_sorted-put}
use Rattle.std.proofs.lemmas.Bool.{both_ways, cases_Bool, and_parts, or_parts, eqb-true, eq-eqb, leb-true, le-leb, ltb-true, ltb-false, cond-true, cond-false, or_right, ne_eqb}
use Rattle.nn_types.specs.declared.block.Block.{Block}
use Rattle.nn_types.specs.Block.{AreBlocks}
use Rattle.nn_types.specs.Number.{IsNumber}
use Rattle.nn_types.specs.declared.edit.Edit.TheVariants as edit
use Rattle.nn_types.specs.LawfulEdit.{IsLawfulEdit, IsTypedEdit}
use Rattle.nn_types.specs.Path.{IsPath}
use Rattle.nn_model.specs.declared.form.Form.{Form}
use Rattle.nn_model.specs.declared.form.Form.TheVariants.{Dir, File}
use Rattle.nn_model.specs.declared.form.FileRow.{FileRow}
use Rattle.nn_model.specs.Namespace.{Path, Namespace, path_cmp, lookup, with_row, blocks_of, all_blocks, no_block, no_stamp}
use Rattle.std.specs.Prelude.{◌⊎◌}
use Rattle.nn_types.specs.declared.edit_fault.EditFault.TheVariants.{BadReplication}
use Rattle.nn_model.specs.Apply as apply
use Rattle.nn_model.specs.Apply.{refusal, checks, first_fault, has_id, is_dir, replication_range}
use Rattle.nn_model.specs.WellFormed.{Includes, times, IsIssued, IsWellFormed}
use Rattle.nn_model.proofs.Dues.{all_none, when_none}
use Rattle.nn_model.proofs.InRows.{put_from}
use Rattle.nn_model.proofs.Lookups.{paths_total, lookup_put}
use Rattle.nn_model.proofs.Utf8Names.{row_utf8}
use Rattle.nn_model.proofs.Trees.{stays_well_formed}
use Rattle.nn_model.proofs.Wells.{times_put, times-append, from_T, to_T}
use Rattle.nn_model.specs.declared.form.BlockRow.{BlockRow}
use Rattle.nn_tree.specs.Entered.{entered, are_new}
use Rattle.nn_tree.specs.Restore.{is_issued, replication_fits, block_fits, once, form_fits, can_restore, parent_of}
use Rattle.nn_tree.specs.View.{IsKept}
use Rattle.nn_tree.proofs.Entered.{ids, not_true}
use Rattle.nn_tree.proofs.Indexed.{old_blocks}
use Rattle.nn_tree.proofs.Kept.{mkdir_free, add_mkdir, put_index}
use Rattle.nn_tree.proofs.Named.{block_known}
use Rattle.nn_model.proofs.Prefixes.{same}
use Rattle.nn_tree.proofs.Restored.{dir_restored, dir_refused}

-- ---- Blocks of which none stands twice.

has_append : (xs ys : List Block) (q : ℕ) → has_id (ids (xs ++ ys)) q ≡ (has_id (ids xs) q || has_id (ids ys) q)
has_append [] ys q = refl
has_append (x ∷ xs) ys q = elim (x.id == q) as (λ t. (t || has_id (ids (xs ++ ys)) q) ≡ ((t || has_id (ids xs) q) || has_id (ids ys) q)) [ true ↦ refl | false ↦ has_append xs ys q ]

neither : (a b : Bool) → a ≡ false → b ≡ false → (a || b) ≡ false
neither true b e f = absurd (both_ways _ e refl)
neither false b e f = f

-- of two lists, where no id of the second stands in the first
once_both : (xs ys : List Block) → once xs ≡ true → once ys ≡ true → ((q : ℕ) → has_id (ids ys) q ≡ true → has_id (ids xs) q ≡ false) → once (xs ++ ys) ≡ true
once_both [] ys e f apart = f
once_both (x ∷ xs) ys e f apart =
    let parts = and_parts (not (has_id (ids xs) x.id)) (once xs) e in
    let here : has_id (ids (x ∷ xs)) x.id ≡ true = ap (λ t. t || has_id (ids xs) x.id) (eq-eqb x.id x.id refl) in
    let away : has_id (ids ys) x.id ≡ false = elim (cases_Bool (has_id (ids ys) x.id)) [ inl also ↦ absurd (both_ways _ (apart x.id also) here) | inr other ↦ other ] in
    let none : has_id (ids (xs ++ ys)) x.id ≡ false = has_append xs ys x.id ∙ neither _ _ (not_true _ parts.0) away in
    let more = once_both xs ys parts.1 f (λ q there. (or_parts (x.id == q) (has_id (ids xs) q) (apart q there)).1) in
    rw (none, more) refl

-- an id stands in both
once_in_both : (xs ys : List Block) (q : ℕ) → has_id (ids xs) q ≡ true → has_id (ids ys) q ≡ true → once (xs ++ ys) ≡ false
once_in_both [] ys q e f = absurd (both_ways _ refl e)
once_in_both (x ∷ xs) ys q e f =
    elim (cases_Bool (x.id == q)) [
      | inl here ↦
          let there : has_id (ids (xs ++ ys)) x.id ≡ true = has_append xs ys x.id ∙ either (has_id (ids xs) x.id) (has_id (ids ys) x.id) (ap (has_id (ids ys)) (eqb-true x.id q here) ∙ f) in
          rw there refl
      | inr other ↦
          last (not (has_id (ids (xs ++ ys)) x.id)) (once (xs ++ ys)) (once_in_both xs ys q (sym (ap (λ t. t || has_id (ids xs) q) other) ∙ e) f)
    ]
  where
    either : (a b : Bool) → b ≡ true → (a || b) ≡ true
    either true b e = refl
    either false b e = e

    last : (a b : Bool) → b ≡ false → (a && b) ≡ false
    last true b e = e
    last false b e = refl

once_second : (xs ys : List Block) → once ys ≡ false → once (xs ++ ys) ≡ false
once_second [] ys e = e
once_second (x ∷ xs) ys e = last (not (has_id (ids (xs ++ ys)) x.id)) (once (xs ++ ys)) (once_second xs ys e)
  where
    last : (a b : Bool) → b ≡ false → (a && b) ≡ false
    last true b e = e
    last false b e = refl

-- as the definition of a well formed namespace says it
has_times : (bs : List Block) (i : ℕ) → has_id (ids bs) i ≡ true → 1 ≤ times i bs
has_times [] i e = absurd (both_ways _ refl e)
has_times (b ∷ bs) i e = at (b.id == i) e (λ h. has_times bs i h)
  where
    at : (t : Bool) → (t || has_id (ids bs) i) ≡ true → (has_id (ids bs) i ≡ true → 1 ≤ times i bs) → 1 ≤ cond {A = ℕ} t 1 0 + times i bs
    at true e h = omega arith
    at false e h = omega (arith, h e)

no_times : (bs : List Block) (i : ℕ) → has_id (ids bs) i ≡ false → times i bs ≡ 0
no_times [] i e = refl
no_times (b ∷ bs) i e =
    let parts = or_parts (b.id == i) (has_id (ids bs) i) e in
    ap (λ t. cond {A = ℕ} t 1 0 + times i bs) parts.0 ∙ omega (arith, no_times bs i parts.1)

pub once_of : (bs : List Block) → ((id : ℕ) → times id bs ≤ 1) → once bs ≡ true
once_of [] h = refl
once_of (b ∷ bs) h = at (has_id (ids bs) b.id) refl (once_of bs rest)
  where
    twice : cond {A = ℕ} (b.id == b.id) 1 0 + times b.id bs ≤ 1 → 1 ≤ times b.id bs → ⊥
    twice most least = let one : ◌≡◌ {A = ℕ} (cond {A = ℕ} (b.id == b.id) 1 0) 1 = ap (λ t. cond {A = ℕ} t 1 0) (eq-eqb b.id b.id refl) in omega (arith, one)

    rest : (id : ℕ) → times id bs ≤ 1
    rest id = omega (arith, h id)

    at : (t : Bool) → has_id (ids bs) b.id ≡ t → once bs ≡ true → once (b ∷ bs) ≡ true
    at true e more = absurd (twice (h b.id) (has_times bs b.id e))
    at false e more = rw e more

times_of : (bs : List Block) → once bs ≡ true → (id : ℕ) → times id bs ≤ 1
times_of [] e id = omega arith
times_of (b ∷ bs) e id =
    let parts = and_parts (not (has_id (ids bs) b.id)) (once bs) e in
    elim (cases_Bool (b.id == id)) [
      | inl here ↦
          let none : times id bs ≡ 0 = no_times bs id (ap (has_id (ids bs)) (sym (eqb-true b.id id here)) ∙ not_true _ parts.0) in
          subst (λ t. cond {A = ℕ} t 1 0 + times id bs ≤ 1) (sym here) (omega (arith, none))
      | inr other ↦ subst (λ t. cond {A = ℕ} t 1 0 + times id bs ≤ 1) (sym other) (omega (arith, times_of bs parts.1 id))
    ]

-- ---- Blocks that are new.

new_once : (look : ℕ → Option BlockRow) (bs : List Block) → are_new look bs ≡ true → once bs ≡ true
new_once look [] e = refl
new_once look (b ∷ bs) e =
    let parts = and_parts (not (is_some (look b.id)) && not (has_id (ids bs) b.id)) (are_new look bs) e in
    let rest = and_parts (not (is_some (look b.id))) (not (has_id (ids bs) b.id)) parts.0 in
    rw (rest.1, new_once look bs parts.1) refl

new_free : (look : ℕ → Option BlockRow) (bs : List Block) (q : ℕ) → are_new look bs ≡ true → has_id (ids bs) q ≡ true → look q ≡ None
new_free look [] q e h = absurd (both_ways _ refl h)
new_free look (b ∷ bs) q e h =
    let parts = and_parts (not (is_some (look b.id)) && not (has_id (ids bs) b.id)) (are_new look bs) e in
    let rest = and_parts (not (is_some (look b.id))) (not (has_id (ids bs) b.id)) parts.0 in
    elim (cases_Bool (b.id == q)) [
      | inl here ↦ ap look (sym (eqb-true b.id q here)) ∙ None-if_not_some (look b.id) (not_true _ rest.0)
      | inr other ↦ new_free look bs q parts.1 (sym (ap (λ t. t || has_id (ids bs) q) other) ∙ h)
    ]

-- a list that is not new has a block of the index, or one twice
why_old : (look : ℕ → Option BlockRow) (bs : List Block) → are_new look bs ≡ false → ((q : ℕ) × (is_some (look q) ≡ true) × (has_id (ids bs) q ≡ true)) ⊎ (once bs ≡ false)
why_old look [] e = absurd (both_ways _ e refl)
why_old look (b ∷ bs) e =
    elim (cases_Bool (is_some (look b.id))) [
      | inl there ↦ inl (b.id, there, ap (λ t. t || has_id (ids bs) b.id) (eq-eqb b.id b.id refl))
      | inr free ↦ elim (cases_Bool (has_id (ids bs) b.id)) [
        | inl twice ↦ inr (ap (λ t. not t && once bs) twice)
        | inr one ↦ elim (why_old look bs (sym (λ j. not (free j) && not (one j) && are_new look bs) ∙ e)) [
          | inl k ↦ inl (k.0, k.1, or_right (b.id == k.0) (has_id (ids bs) k.0) k.2)
          | inr k ↦ inr (ap (λ t. not t && once bs) one ∙ k)
        ]
      ]
    ]

-- ---- The index knows the blocks of a namespace.

find_has : (bs : List Block) (q : ℕ) → is_some (find (λ b. b.id == q) bs) ≡ has_id (ids bs) q
find_has [] q = refl
find_has (b ∷ bs) q = elim (b.id == q) as (λ t. is_some (cond t (Some b) (find (λ x. x.id == q) bs)) ≡ (t || has_id (ids bs) q)) [ true ↦ refl | false ↦ find_has bs q ]

some_map : (o : Option BlockRow) → is_some (option_map (λ row. row.block) o) ≡ is_some o
some_map None = refl
some_map (Some row) = refl

index_has : (n : Namespace) (look : ℕ → Option BlockRow) (q : ℕ) → IsKept n look → is_some (look q) ≡ has_id (ids (all_blocks n)) q
index_has n look q k = sym (some_map (look q)) ∙ ap is_some (block_known n look q k) ∙ find_has (all_blocks n) q

none_some : (o : Option BlockRow) → o ≡ None → is_some o ≡ false
none_some o e = ap is_some e

new_is_once : (n : Namespace) (look : ℕ → Option BlockRow) (bs : List Block) → IsKept n look → are_new look bs ≡ true → once (all_blocks n ++ bs) ≡ true
new_is_once n look bs k e =
    once_both (all_blocks n) bs (once_of (all_blocks n) k.well.blocks.once) (new_once look bs e) (λ q there. sym (index_has n look q k) ∙ none_some _ (new_free look bs q e there))

old_not_once : (n : Namespace) (look : ℕ → Option BlockRow) (bs : List Block) → IsKept n look → are_new look bs ≡ false → once (all_blocks n ++ bs) ≡ false
old_not_once n look bs k e = elim (why_old look bs e) [
  | inl w ↦ once_in_both (all_blocks n) bs w.0 (sym (index_has n look w.0 k) ∙ w.1) w.2
  | inr twice ↦ once_second (all_blocks n) bs twice
]

-- ---- What may be restored, part by part.

all_and : (a b c : Bool) → a ≡ true → b ≡ true → c ≡ true → (a && b && c) ≡ true
all_and a b c e f g = rw (e, f, g) refl

pub file_fits : (n : Namespace) (p : Path) (x : FileRow) → can_restore n p Dir ≡ true → replication_fits x.replication ≡ true → list_all (block_fits n.issued) x.blocks ≡ true → once (all_blocks n ++ x.blocks) ≡ true → can_restore n p (File x) ≡ true
file_fits n p x e range fit new =
    let parts = and_parts (not (is_some (lookup n p))) (is_dir (lookup n (parent_of p)) && true) e in
    let dir = (and_parts (is_dir (lookup n (parent_of p))) true parts.1).0 in
    rw (parts.0, dir, range, fit, new) refl

-- a file may stand only where a directory may
pub file_parts : (n : Namespace) (p : Path) (x : FileRow) → can_restore n p (File x) ≡ true → (can_restore n p Dir ≡ true) × (replication_fits x.replication ≡ true) × (list_all (block_fits n.issued) x.blocks ≡ true) × (once (all_blocks n ++ x.blocks) ≡ true)
file_parts n p x e =
    let parts = and_parts (not (is_some (lookup n p))) (is_dir (lookup n (parent_of p)) && form_fits n (File x)) e in
    let dir = and_parts (is_dir (lookup n (parent_of p))) (form_fits n (File x)) parts.1 in
    let form = and_parts (replication_fits x.replication && list_all (block_fits n.issued) x.blocks) (once (all_blocks n ++ x.blocks)) dir.1 in
    let both = and_parts (replication_fits x.replication) (list_all (block_fits n.issued) x.blocks) form.0 in
    (rw (parts.0, dir.0) refl, both.0, both.1, form.1)

pub not_fit : (n : Namespace) (p : Path) (x : FileRow) → list_all (block_fits n.issued) x.blocks ≡ false → can_restore n p (File x) ≡ false
not_fit n p x e = elim (cases_Bool (can_restore n p (File x))) [
  | inl may ↦ absurd (both_ways _ e (file_parts n p x may).2)
  | inr may_not ↦ may_not
]

-- ---- The replication, as an edit has it.

range_fits : (r : ℕ) → (nat_lt r 1 || nat_lt 512 r) ≡ false → replication_fits r ≡ true
range_fits r e = let parts = or_parts (nat_lt r 1) (nat_lt 512 r) e in rw (le-leb 1 r (ltb-false r 1 parts.0), le-leb r 512 (ltb-false 512 r parts.1)) refl

fits_range : (r : ℕ) → replication_fits r ≡ true → (nat_lt r 1 || nat_lt 512 r) ≡ false
fits_range r e =
    let parts = and_parts (nat_le 1 r) (nat_le r 512) e in
    neither _ _ (below r 1 (leb-true 1 r parts.0)) (below 512 r (leb-true r 512 parts.1))
  where
    below : (a b : ℕ) → b ≤ a → nat_lt a b ≡ false
    below a b h = elim (cases_Bool (nat_lt a b)) [ inl less ↦ absurd (let l = ltb-true a b less in omega (arith, l, h)) | inr more ↦ more ]

pub add_fits : (n : Namespace) (p : Path) (r : ℕ) → refusal n (edit.Add p r) ≡ None → replication_fits r ≡ true
add_fits n p r h = let a = all_none (checks n (edit.Add p r)) h in range_fits r (when_none _ _ a.1.0)

add_none : (n : Namespace) (p : Path) (r : ℕ) → refusal n (edit.Mkdir p) ≡ None → replication_fits r ≡ true → refusal n (edit.Add p r) ≡ None
add_none n p r h fits =
    let a = all_none (checks n (edit.Mkdir p)) h in
    let range : replication_range r ≡ None = ap (λ t. apply.fault_if t BadReplication) (fits_range r fits) in
    (λ j. first_fault (a.0 j ∷ range j ∷ a.1.0 j ∷ a.1.1.0 j ∷ []))

dir_applies : (n : Namespace) (p : Path) → IsWellFormed n → can_restore n p Dir ≡ true → refusal n (edit.Mkdir p) ≡ None
dir_applies n p w e = elim (cases_Bool (is_some (refusal n (edit.Mkdir p)))) [
  | inl some ↦ absurd (both_ways _ (dir_refused n p w some) e)
  | inr none ↦ None-if_not_some (refusal n (edit.Mkdir p)) none
]

pub file_refused : (n : Namespace) (p : Path) (x : FileRow) → IsWellFormed n → is_some (refusal n (edit.Add p x.replication)) ≡ true → can_restore n p (File x) ≡ false
file_refused n p x w some = elim (cases_Bool (can_restore n p (File x))) [
  | inl may ↦ (let parts = file_parts n p x may in absurd (both_ways _ (ap is_some (add_none n p x.replication (dir_applies n p w parts.0) parts.1)) some))
  | inr may_not ↦ may_not
]

pub file_restored : (n : Namespace) (p : Path) (x : FileRow) (look : ℕ → Option BlockRow) → refusal n (edit.Add p x.replication) ≡ None → list_all (block_fits n.issued) x.blocks ≡ true → are_new look x.blocks ≡ true → IsKept n look → can_restore n p (File x) ≡ true
file_restored n p x look applies fit new k =
    file_fits n p x (dir_restored n p k.well (add_mkdir n p x.replication applies)) (add_fits n p x.replication applies) fit (new_is_once n look x.blocks k new)

pub file_is_old : (n : Namespace) (p : Path) (x : FileRow) (look : ℕ → Option BlockRow) → are_new look x.blocks ≡ false → IsKept n look → can_restore n p (File x) ≡ false
file_is_old n p x look old k = elim (cases_Bool (can_restore n p (File x))) [
  | inl may ↦ absurd (both_ways _ (old_not_once n look x.blocks k old) (file_parts n p x may).3)
  | inr may_not ↦ may_not
]

-- ---- The namespace with the file.

module _ (n : Namespace) (p : Path) (x : FileRow) (lawful : IsLawfulEdit (edit.Add p x.replication)) (applies : refusal n (edit.Add p x.replication) ≡ None) (w : IsWellFormed n) where
  -- the namespace with an empty file in its place is well formed
  abbrev empty : FileRow
  empty = record { replication = x.replication; closed = false; blocks = [] }

  with_empty : IsWellFormed (with_row n p (File empty))
  with_empty = stays_well_formed n (edit.Add p x.replication) lawful applies w

  free : lookup n p ≡ None
  free = mkdir_free n p (add_mkdir n p x.replication applies)

  at_p : (y : FileRow) (q : Path) → same q p ≡ true → lookup (with_row n p (File y)) q ≡ Some (File y)
  at_p y q e = lookup_put n p q (File y) ∙ cond-true (same q p) (Some (File y)) (lookup n q) e

  elsewhere : (y : FileRow) (q : Path) → same q p ≡ false → lookup (with_row n p (File y)) q ≡ lookup n q
  elsewhere y q e = lookup_put n p q (File y) ∙ cond-false (same q p) (Some (File y)) (lookup n q) e

  dir_stays : (q : Path) → lookup (with_row n p (File empty)) q ≡ Some Dir → lookup (with_row n p (File x)) q ≡ Some Dir
  dir_stays q e = elim (cases_Bool (same q p)) [
    | inl one ↦ (let f : Some (File empty) ≡ Some Dir = sym (at_p empty q one) ∙ e in absurd (cc))
    | inr other ↦ elsewhere x q other ∙ sym (elsewhere empty q other) ∙ e
  ]

  some_stays : (q : Path) → is_some (lookup (with_row n p (File x)) q) ≡ true → is_some (lookup (with_row n p (File empty)) q) ≡ true
  some_stays q e = elim (cases_Bool (same q p)) [
    | inl one ↦ ap is_some (at_p empty q one)
    | inr other ↦ ap is_some (elsewhere empty q other ∙ sym (elsewhere x q other)) ∙ e
  ]

  ranges : (q : Path) (file : FileRow) → lookup (with_row n p (File x)) q ≡ Some (File file) → (1 ≤ file.replication) × (file.replication ≤ 512)
  ranges q file e = elim (cases_Bool (same q p)) [
    | inl one ↦
        let f : Some (File x) ≡ Some (File file) = sym (at_p x q one) ∙ e in
        let is : x ≡ file = cc in
        subst (λ y. (1 ≤ y.replication) × (y.replication ≤ 512)) is (with_empty.replications q empty (at_p empty q one))
    | inr other ↦ w.replications q file (sym (elsewhere x q other) ∙ e)
  ]

  module _ (fit : list_all (block_fits n.issued) x.blocks ≡ true) (lengths : AreBlocks x.blocks) (once_all : once (all_blocks n ++ x.blocks) ≡ true) where
    new_issued : (bs : List Block) (b : Block) → list_all (block_fits n.issued) bs ≡ true → AreBlocks bs → Includes bs b → IsIssued n.issued b
    new_issued [] b e are here = absurd here
    new_issued (y ∷ bs) b e are (inl is) =
        let parts = and_parts (block_fits n.issued y) (list_all (block_fits n.issued) bs) e in
        let all = and_parts (is_issued n.issued.last_block y.id && not (has_id n.issued.awaiting y.id) && nat_le (no_stamp + 1) y.stamp) (nat_le y.stamp n.issued.last_stamp) parts.0 in
        let three = and_parts (is_issued n.issued.last_block y.id && not (has_id n.issued.awaiting y.id)) (nat_le (no_stamp + 1) y.stamp) all.0 in
        let two = and_parts (is_issued n.issued.last_block y.id) (not (has_id n.issued.awaiting y.id)) three.0 in
        let one = and_parts (nat_le (no_block + 1) y.id) (nat_le y.id n.issued.last_block) two.0 in
        subst (IsIssued n.issued) is (record {
          from_first = leb-true _ _ one.0;
          to_last = leb-true _ _ one.1;
          not_awaiting = not_true _ two.1;
          stamp_from = leb-true _ _ three.1;
          stamp_to = leb-true _ _ all.1;
          length = are.0.2;
        })
    new_issued (y ∷ bs) b e are (inr here) = new_issued bs b (and_parts (block_fits n.issued y) (list_all (block_fits n.issued) bs) e).1 are.1 here

    none_before : (id : ℕ) → times id (old_blocks (lookup n p)) ≡ 0
    none_before id = ap (λ o. times id (old_blocks o)) free

    well : IsWellFormed (with_row n p (File x))
    well = record {
      root = dir_stays [] with_empty.root;
      parents = λ q name some. dir_stays q (with_empty.parents q name (some_stays (q ++ name ∷ []) some));
      replications = ranges;
      blocks = record {
        in_order = from_T _ (is_sorted-put path_cmp paths_total p (File x) n.rows (to_T _ w.blocks.in_order));
        last_block_from = w.blocks.last_block_from;
        awaiting_in_order = w.blocks.awaiting_in_order;
        awaiting_from = w.blocks.awaiting_from;
        once = λ id. omega (arith, times_put id p (File x) n.rows w.blocks.in_order, none_before id, times_append id, times_of (all_blocks n ++ x.blocks) once_all id);
        issued = λ b here. elim (put_from blocks_of p (File x) n.rows b here) [ inl own ↦ new_issued x.blocks b fit lengths own | inr old ↦ w.blocks.issued b old ];
      };
      last_block_to = w.last_block_to;
      last_stamp_from = w.last_stamp_from;
      last_stamp_to = w.last_stamp_to;
    }
      where
        times_append : (id : ℕ) → times id (all_blocks n ++ x.blocks) ≡ times id (all_blocks n) + times id x.blocks
        times_append id = times-append id (all_blocks n) x.blocks

-- what the types see to of a form that is restored
abbrev pub IsLawfulForm : Form → Type 0
IsLawfulForm Dir = Unit {0}
IsLawfulForm (File x) = IsNumber x.replication × AreBlocks x.blocks

pub restored_well : (n : Namespace) (p : Path) (form : Form) → IsPath p → IsLawfulForm form → can_restore n p form ≡ true → IsWellFormed n → IsWellFormed (with_row n p form)
restored_well n p Dir path lawful may w = stays_well_formed n (edit.Mkdir p) path (dir_applies n p w may) w
restored_well n p (File x) path lawful may w =
    let parts = file_parts n p x may in
    well n p x (path, lawful.0) (add_none n p x.replication (dir_applies n p w parts.0) parts.1) w parts.2 lawful.1 parts.3

-- ---- The index with the blocks of the file.

id_in : (bs : List Block) (b : Block) → Includes bs b → has_id (ids bs) b.id ≡ true
id_in [] b here = absurd here
id_in (y ∷ bs) b (inl is) = ap (λ t. t || has_id (ids bs) b.id) (eq-eqb y.id b.id (ap (λ z. z.id) is))
id_in (y ∷ bs) b (inr here) = or_right (y.id == b.id) (has_id (ids bs) b.id) (id_in bs b here)

entered_there : (look : ℕ → Option BlockRow) (bs : List Block) (closed : Bool) (b : BlockRow) → once bs ≡ true → b.closed ≡ closed → Includes bs b.block → entered look bs closed b.block.id ≡ Some b
entered_there look [] closed b e is here = absurd here
entered_there look (y ∷ bs) closed b e is (inl same_block) =
    let shown : record { block = y; closed = closed } ≡ b = (λ j. record { block = same_block j; closed = sym is j }) in
    ap (λ t. cond t (Some (record { block = y; closed = closed })) (entered look bs closed b.block.id)) (eq-eqb y.id b.block.id (ap (λ z. z.id) same_block)) ∙ ap Some shown
entered_there look (y ∷ bs) closed b e is (inr here) =
    let parts = and_parts (not (has_id (ids bs) y.id)) (once bs) e in
    elim (cases_Bool (y.id == b.block.id)) [
      | inl one ↦ absurd (both_ways _ (not_true _ parts.0) (ap (has_id (ids bs)) (eqb-true y.id b.block.id one) ∙ id_in bs b.block here))
      | inr other ↦ ap (λ t. cond t (Some (record { block = y; closed = closed })) (entered look bs closed b.block.id)) other ∙ entered_there look bs closed b parts.1 is here
    ]

entered_apart : (look : ℕ → Option BlockRow) (bs : List Block) (closed : Bool) (id : ℕ) → ((b : Block) → Includes bs b → b.id ≡ id → ⊥) → entered look bs closed id ≡ look id
entered_apart look [] closed id away = refl
entered_apart look (y ∷ bs) closed id away =
    ap (λ t. cond t (Some (record { block = y; closed = closed })) (entered look bs closed id)) (ne_eqb y.id id (away y (inl refl))) ∙ entered_apart look bs closed id (λ b here. away b (inr here))

pub file_kept : (n : Namespace) (p : Path) (x : FileRow) (look next : ℕ → Option BlockRow) → IsTypedEdit (edit.Add p x.replication) → refusal n (edit.Add p x.replication) ≡ None → list_all (block_fits n.issued) x.blocks ≡ true → AreBlocks x.blocks
    → are_new look x.blocks ≡ true → ((q : ℕ) → next q ≡ entered look x.blocks x.closed q) → IsKept n look → IsKept (with_row n p (File x)) next
file_kept n p x look next lawful applies fit lengths new goes k = record {
  well = well n p x lawful.0 applies k.well fit lengths (new_is_once n look x.blocks k new);
  utf8 = row_utf8 n k.utf8 p (File x) lawful.1;
  index = put_index n p (File x) look next (record {
    own = λ z here c q s at_q in_row is. elim here [
      | inl own ↦
          let known : look c.block.id ≡ Some c = k.index.complete c (q, s, at_q, in_row) in
          let none : look z.id ≡ None = new_free look x.blocks z.id new (id_in x.blocks z own) in
          absurd (let same_id = ap look is in (cc (known, none, same_id)))
      | inr old ↦ absurd (subst (λ o. Includes (old_blocks o) z) gone old)
    ];
    written = λ b h. goes b.block.id ∙ entered_there look x.blocks x.closed b (new_once look x.blocks new) h.0 h.1;
    kept = λ id away before. goes id ∙ entered_apart look x.blocks x.closed id away;
    gone = λ z old away. absurd (subst (λ o. Includes (old_blocks o) z) gone old);
  }) k.index;
}
  where
    gone : lookup n p ≡ None
    gone = mkdir_free n p (add_mkdir n p x.replication applies)
