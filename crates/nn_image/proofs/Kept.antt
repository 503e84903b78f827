-- A well formed namespace keeps to all that is used of it.
use Rattle.std.proofs.Common.{◌≡◌, ℕ, ◌+◌, ◌≤◌, ◌<◌, List, [], ◌∷◌, ◌++◌, Bool, true, false, cond, eqb, ltb, ◌||◌, ◌⊎◌, inl, inr, Some, refl, sym, ap, ◌∙◌, subst}
use Rattle.std.specs.Prelude.{T, is_some}
use Rattle.std.specs.List.{list_all}
use Rattle.std.specs.List.Sorted.{IsStrictlySortedBy}
use Rattle.std.specs.Ordering.{nat_cmp, is_lt, is_eq}
use Rattle.std.specs.declared.cmp.Ordering.TheVariants.{Less, Equal, Greater}
use Rattle.std.specs.Cmp.{tied_itself}
use Rattle.std.specs.FinMap.Entries.{find as find_entry, is_sorted, below_all}
use Rattle.std.proofs.lemmas.Bool.{le-leb, lt-ltb, ltb-true, cases_Bool}
use Rattle.std.proofs.lemmas.Bool.Decides.{Decides-eqb}
use Rattle.nn_types.specs.declared.block.Block.{Block}
use Rattle.nn_model.specs.declared.form.Form.{Form}
use Rattle.nn_model.specs.declared.form.Form.TheVariants.{Dir, File}
use Rattle.nn_model.specs.Namespace.{Path, path_cmp, Issued, Namespace, lookup, no_block}
use Rattle.nn_model.specs.Apply.{has_id}
use Rattle.nn_model.specs.WellFormed.{Includes, IsIssued, IsWellFormed}
use Rattle.nn_model.proofs.Dues.{blocks_in}
use Rattle.nn_tree.specs.Restore.{parent_of, rises, is_issued, block_fits}
use Rattle.nn_tree.proofs.RestoredFile.{once_of}
use Rattle.nn_image.proofs.Keeps.{file_fits, Keeps}
use Rattle.nn_image.proofs.Rows.{Rows, paths_total, and_T, T_of, less_of}
use Rattle.nn_image.proofs.Order.{greater}

-- ---- rows

below_has : (p : Path) (rows : Rows) (row : Path × Form) → T (below_all path_cmp p rows) → Includes rows row → path_cmp p row.0 ≡ Less
below_has p [] row h here = absurd here
below_has p (x ∷ rows) row h here =
    let both = and_T (is_lt (path_cmp p x.0)) _ h in
    elim here as (λ _. path_cmp p row.0 ≡ Less) [ inl e ↦ subst (λ r. path_cmp p r.0 ≡ Less) e (less_of _ both.0) | inr k ↦ below_has p rows row both.1 k ]

pub found_row : (rows : Rows) (row : Path × Form) → T (is_sorted path_cmp rows) → Includes rows row → find_entry path_cmp row.0 rows ≡ Some row.1
found_row [] row sorted here = absurd here
found_row (x ∷ rows) row sorted here =
    let both = and_T (below_all path_cmp x.0 rows) _ sorted in
    elim here as (λ _. find_entry path_cmp row.0 (x ∷ rows) ≡ Some row.1) [
      | inl e ↦ subst (λ r. find_entry path_cmp r.0 (x ∷ rows) ≡ Some r.1) e (ap (λ r. cond (is_eq r) (Some x.1) (find_entry path_cmp x.0 rows)) (tied_itself paths_total x.0))
      | inr k ↦ ap (λ r. cond (is_eq r) (Some x.1) (find_entry path_cmp row.0 rows)) (greater row.0 x.0 (below_has x.0 rows row both.0 k)) ∙ found_row rows row both.1 k
    ]

parent_split : (p : Path) → (p ≡ []) ⊎ ((name : List ℕ) × (p ≡ parent_of p ++ name ∷ []))
parent_split [] = inl refl
parent_split (name ∷ []) = inr (name, refl)
parent_split (name ∷ next ∷ p) = elim (parent_split (next ∷ p)) [
  | inl e ↦ absurd (cc)
  | inr k ↦ inr (k.0, ap (λ q. name ∷ q) k.1)
]

-- ---- ids

has_here : (i : ℕ) (ids : List ℕ) → has_id (i ∷ ids) i ≡ true
has_here i ids = ap (λ t. t || has_id ids i) ((Decides-eqb i i).1 refl)

or_right : (a b : Bool) → b ≡ true → (a || b) ≡ true
or_right true b e = refl
or_right false b e = e

all_issued : (last : ℕ) (ids : List ℕ) → ((id : ℕ) → has_id ids id ≡ true → (no_block + 1 ≤ id) × (id ≤ last)) → list_all (is_issued last) ids ≡ true
all_issued last [] h = refl
all_issued last (i ∷ ids) h =
    let here = h i (has_here i ids) in
    rw (le-leb 1073741825 i here.0, le-leb i last here.1) (all_issued last ids (λ id k. h id (or_right (eqb i id) _ k)))

nat_less : (x y : ℕ) → nat_cmp x y ≡ Less → x < y
nat_less x y less = elim (cases_Bool (ltb x y)) [
  | inl below ↦ ltb-true x y below
  | inr not_below ↦ absurd (not_less (eqb x y) (sym (ap (λ b. cond b Less (cond (eqb x y) Equal Greater)) not_below) ∙ less))
]
  where
    not_less : (tied : Bool) → cond tied Equal Greater ≡ Less → ⊥
    not_less true e = cc
    not_less false e = cc

rises_of : (ids : List ℕ) → IsStrictlySortedBy nat_cmp ids → rises ids ≡ true
unfolding IsStrictlySortedBy
rises_of [] sorted = refl
rises_of (i ∷ []) sorted = refl
rises_of (i ∷ j ∷ ids) sorted = rw (lt-ltb i j (nat_less i j sorted.0.0)) (rises_of (j ∷ ids) sorted.1)

-- ---- blocks

fits_of : (issued : Issued) (b : Block) → IsIssued issued b → block_fits issued b ≡ true
fits_of issued b is =
    rw (le-leb 1073741825 b.id is.from_first, le-leb b.id issued.last_block is.to_last, is.not_awaiting, le-leb 1001 b.stamp is.stamp_from, le-leb b.stamp issued.last_stamp is.stamp_to) refl

-- ---- all of it

pub keeps : (n : Namespace) → IsWellFormed n → Keeps n
keeps n w = record {
  in_order = w.blocks.in_order;
  root = w.root;
  parents = λ row here. elim (parent_split row.0) [
    | inl e ↦ subst (λ p. lookup n (parent_of p) ≡ Some Dir) (sym e) w.root
    | inr k ↦ w.parents (parent_of row.0) k.0 (ap (λ q. is_some (lookup n q)) (sym k.1) ∙ ap is_some (found_row n.rows row (T_of _ w.blocks.in_order) here))
  ];
  replications = λ row here. replication row.0 row.1 (found_row n.rows row (T_of _ w.blocks.in_order) here);
  last_block_from = w.blocks.last_block_from;
  last_block_to = w.last_block_to;
  last_stamp_from = w.last_stamp_from;
  last_stamp_to = w.last_stamp_to;
  awaiting = rw (all_issued n.issued.last_block n.issued.awaiting w.blocks.awaiting_from) (rises_of n.issued.awaiting w.blocks.awaiting_in_order);
  issued = λ b here. fits_of n.issued b (w.blocks.issued b here);
  once = once_of (blocks_in n.rows) w.blocks.once;
  lengths = λ b here. (w.blocks.issued b here).length;
}
  where
    replication : (p : Path) (form : Form) → lookup n p ≡ Some form → file_fits form
    replication p Dir e = tt
    replication p (File file) e = let range = w.replications p file e in rw (le-leb 1 file.replication range.0, le-leb file.replication 512 range.1) refl
