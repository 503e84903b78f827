-- An entry after one of its cells was written, or a new one inserted.
use Rattle.std.proofs.Common.{◌≡◌, arith, ℕ, ◌<◌, ◌≤◌, ◌+◌, Bool, true, false, cond, List, [], ◌∷◌, ◌++◌, map, take, drop, length, get_or, set, Option, Some, None, is_some, inr, refl, sym, ap, subst, ◌∙◌, nat_cmp, nat_eq}
use Rattle.std.specs.Prelude.{unwrap_or, ◌&&◌, not}
use Rattle.std.specs.List.{insert, refill}
use Rattle.std.proofs.Math.Seq.{take-append_seam}
use Rattle.std.proofs.lemmas.List.{length-map}
use Rattle.std.specs.FinMap.Entries.{find, put, below_all, is_sorted}
use Rattle.std.specs.Ordering.{is_lt}
use Rattle.std.proofs.lemmas.List.Edits.{map_over_more}
use Rattle.std.proofs.lemmas.Bool.{both_ways}
use Rattle.nn_replicas.specs.declared.entry.Cell.{Cell}
use Rattle.nn_replicas.specs.declared.entry.Difference.{Difference}
use Rattle.nn_replicas.specs.declared.entry.Share.{Share}
use Rattle.nn_replicas.specs.declared.entry.FileBlock.{FileBlock}
use Rattle.nn_replicas.specs.Table.{BlockEntry}
use Rattle.nn_replicas.specs.Entry.{row_of, replication_of, is_ordered, no_cell, cell_erased, cell_retired, cell_of, has_cell, with_cell, with_erased}
use Rattle.nn_replicas.specs.Figures.{one_if, grown, no_share, share_of, IsChangedShare, IsChange}
use Rattle.nn_replicas.specs.Scan.{place, is_here}
use Rattle.nn_replicas.proofs.Entries.{put_sorted, length_put}
use Rattle.nn_replicas.proofs.Scanned.{put_here, put_new, find_here, find_gone, here_at, not_here}

abbrev pub Cells : Type 0
Cells = List (ℕ × Cell)

abbrev pub entry : Option FileBlock → Cells → BlockEntry
entry file xs = record { row = row_of file; replication = replication_of file; cells = xs }

pub named_file : (file : Option FileBlock) → is_some (row_of file) ≡ is_some file
named_file None = refl
named_file (Some file) = refl

-- ---- the cells stay in order

pub sorted_here : (dn k : ℕ) (w : Cell) (x z : ℕ × Cell) (xs : Cells) → is_sorted nat_cmp xs ≡ true → k ≡ place dn xs → is_here dn xs ≡ true → x ≡ get_or xs k x → z ≡ (x.0, w) → is_sorted nat_cmp (set xs k z) ≡ true
sorted_here dn k w x z xs s p h g m =
    ap (λ y. is_sorted nat_cmp (set xs k y)) m ∙ ap (λ y. is_sorted nat_cmp (set xs k (y.0, w))) g ∙ ap (λ j. is_sorted nat_cmp (set xs j ((get_or xs j x).0, w))) p ∙ ap (is_sorted nat_cmp) (sym (put_here dn w xs x h)) ∙ put_sorted dn w xs s

pub sorted_new : (dn k : ℕ) (w : Cell) (z : ℕ × Cell) (xs fs : Cells) → is_sorted nat_cmp xs ≡ true → k ≡ place dn xs → is_here dn xs ≡ false → fs ≡ insert xs k z → z ≡ (dn, w) → is_sorted nat_cmp fs ≡ true
sorted_new dn k w z xs fs s p h f m =
    ap (is_sorted nat_cmp) f ∙ ap (λ y. is_sorted nat_cmp (insert xs k y)) m ∙ ap (λ j. is_sorted nat_cmp (insert xs j (dn, w))) p ∙ ap (is_sorted nat_cmp) (sym (put_new dn w xs h)) ∙ put_sorted dn w xs s

below_retired : (k : ℕ) (xs : Cells) → below_all nat_cmp k (map (λ c. (c.0, cell_retired c.1)) xs) ≡ below_all nat_cmp k xs
below_retired k [] = refl
below_retired k (x ∷ xs) = ap (λ b. is_lt (nat_cmp k x.0) && b) (below_retired k xs)

pub sorted_retired : (xs : Cells) → is_sorted nat_cmp (map (λ c. (c.0, cell_retired c.1)) xs) ≡ is_sorted nat_cmp xs
sorted_retired [] = refl
sorted_retired (x ∷ xs) = ap (λ b. b && is_sorted nat_cmp (map (λ c. (c.0, cell_retired c.1)) xs)) (below_retired x.0 xs) ∙ ap (λ b. below_all nat_cmp x.0 xs && b) (sorted_retired xs)

-- ---- a cell that stands is written

-- what f makes of the DataNode's cell
pub wrote_here : (e : BlockEntry) (file : Option FileBlock) (xs : Cells) (dn k : ℕ) (named : Bool) (x z : ℕ × Cell) (f : Bool → Cell → Cell)
    → entry file xs ≡ e → k ≡ place dn xs → is_here dn xs ≡ true → x ≡ get_or xs k x → named ≡ is_some file → z ≡ (x.0, f named x.1)
    → entry file (set xs k z) ≡ with_cell e dn (f (is_some e.row) (cell_of e dn))
wrote_here e file xs dn k named x z f v p h g n m =
    let w = f named x.1 in
    let cell : w ≡ f (is_some (row_of file)) (unwrap_or (find nat_cmp dn xs) no_cell) =
    ap (λ b. f b x.1) (n ∙ sym (named_file file)) ∙ ap (λ (y : ℕ × Cell). f (is_some (row_of file)) y.1) g ∙ ap (λ j. f (is_some (row_of file)) (get_or xs j x).1) p ∙ ap (λ o. f (is_some (row_of file)) (unwrap_or o no_cell)) (sym (find_here dn xs x h)) in
    ap (λ y. entry file (set xs k y)) m ∙ ap (λ y. entry file (set xs k (y.0, w))) g ∙ ap (λ j. entry file (set xs j ((get_or xs j x).0, w))) p ∙ ap (entry file) (sym (put_here dn w xs x h))
    ∙ ap (λ c. entry file (put nat_cmp dn c xs)) cell ∙ ap (λ y. with_cell y dn (f (is_some y.row) (cell_of y dn))) v

pub wrote_new : (e : BlockEntry) (file : Option FileBlock) (xs fs : Cells) (dn k : ℕ) (named : Bool) (z : ℕ × Cell) (f : Bool → Cell → Cell)
    → entry file xs ≡ e → is_sorted nat_cmp xs ≡ true → k ≡ place dn xs → is_here dn xs ≡ false → fs ≡ insert xs k z → named ≡ is_some file → z ≡ (dn, f named no_cell)
    → entry file fs ≡ with_cell e dn (f (is_some e.row) (cell_of e dn))
wrote_new e file xs fs dn k named z f v s p h g n m =
    let w = f named no_cell in
    let cell : w ≡ f (is_some (row_of file)) (unwrap_or (find nat_cmp dn xs) no_cell) = ap (λ b. f b no_cell) (n ∙ sym (named_file file)) ∙ ap (λ o. f (is_some (row_of file)) (unwrap_or o no_cell)) (sym (find_gone dn xs s h)) in
    ap (entry file) g ∙ ap (λ y. entry file (insert xs k y)) m ∙ ap (λ j. entry file (insert xs j (dn, w))) p ∙ ap (entry file) (sym (put_new dn w xs h))
    ∙ ap (λ c. entry file (put nat_cmp dn c xs)) cell ∙ ap (λ y. with_cell y dn (f (is_some y.row) (cell_of y dn))) v

-- ---- what changed

-- the cell that stood was written
pub changed_here : (e : BlockEntry) (file : Option FileBlock) (xs : Cells) (dn k : ℕ) (x z : ℕ × Cell) (w : Cell) (change : Option Difference)
    → entry file xs ≡ e → k ≡ place dn xs → is_here dn xs ≡ true → x ≡ get_or xs k x → z ≡ (x.0, w)
    → IsChangedShare (row_of file) (Some x.1) z.1 change
    → IsChange e dn (entry file (set xs k z)) change
changed_here e file xs dn k x z w change v p h g m c =
    let found : find nat_cmp dn xs ≡ Some x.1 = find_here dn xs x h ∙ ap (λ j. Some (get_or xs j x).1) (sym p) ∙ ap (λ (y : ℕ × Cell). Some y.1) (sym g) in
    inr (
      z.1,
      wrote_here e file xs dn k (is_some file) x z (λ b y. z.1) v p h g refl (m ∙ ap (λ (y : Cell). (x.0, y)) (ap (λ (y : ℕ × Cell). y.1) (sym m))),
      subst (λ (y : BlockEntry). IsChangedShare y.row (find nat_cmp dn y.cells) z.1 change) v (subst (λ o. IsChangedShare (row_of file) o z.1 change) (sym found) c),
    )

-- the DataNode was not placed
pub changed_new : (e : BlockEntry) (file : Option FileBlock) (xs fs : Cells) (dn k : ℕ) (z : ℕ × Cell) (w : Cell) (was is : Share)
    → entry file xs ≡ e → is_sorted nat_cmp xs ≡ true → k ≡ place dn xs → is_here dn xs ≡ false → fs ≡ insert xs k z → z ≡ (dn, w)
    → was ≡ no_share → is ≡ share_of (row_of file) (Some z.1)
    → IsChange e dn (entry file fs) (Some (record { was = was; is = is }))
changed_new e file xs fs dn k z w was is v s p h g m a b =
    inr (
      z.1,
      wrote_new e file xs fs dn k (is_some file) z (λ b y. z.1) v s p h g refl (m ∙ ap (λ (y : Cell). (dn, y)) (ap (λ (y : ℕ × Cell). y.1) (sym m))),
      subst (λ (y : BlockEntry). IsChangedShare y.row (find nat_cmp dn y.cells) z.1 (Some (record { was = was; is = is }))) v
          (subst (λ o. IsChangedShare (row_of file) o z.1 (Some (record { was = was; is = is }))) (sym (find_gone dn xs s h)) (a, b)),
    )

-- ---- whether there is a cell

pub there : (e : BlockEntry) (file : Option FileBlock) (xs : Cells) (dn : ℕ) → entry file xs ≡ e → is_here dn xs ≡ true → has_cell e dn ≡ true
there e file xs dn v h = ap (λ y. has_cell y dn) (sym v) ∙ ap is_some (find_here dn xs (dn, no_cell) h)

pub not_there : (e : BlockEntry) (file : Option FileBlock) (xs : Cells) (dn : ℕ) → entry file xs ≡ e → is_sorted nat_cmp xs ≡ true → is_here dn xs ≡ false → has_cell e dn ≡ false
not_there e file xs dn v s h = ap (λ y. has_cell y dn) (sym v) ∙ ap is_some (find_gone dn xs s h)

pub erased_there : (e : BlockEntry) (dn : ℕ) → has_cell e dn ≡ true → with_cell e dn (cell_erased (is_some e.row) (cell_of e dn)) ≡ with_erased e dn
erased_there e dn h = ap (λ b. cond b (with_cell e dn (cell_erased (is_some e.row) (cell_of e dn))) e) (sym h)

pub erased_not : (e : BlockEntry) (dn : ℕ) → has_cell e dn ≡ false → e ≡ with_erased e dn
erased_not e dn h = ap (λ b. cond b (with_cell e dn (cell_erased (is_some e.row) (cell_of e dn))) e) (sym h)

-- ---- how many cells there are

pub cells_put : (e : BlockEntry) (dn : ℕ) (c : Cell) → is_sorted nat_cmp e.cells ≡ true → length (with_cell e dn c).cells ≡ grown e dn
cells_put e dn c s = cases (has_cell e dn) refl
  where
    cases : (b : Bool) → has_cell e dn ≡ b → length (put nat_cmp dn c e.cells) ≡ length e.cells + one_if (not (has_cell e dn))
    cases b h =
        let was = ap {B = ℕ} (λ x. cond x 1 0) h in
        let new = ap (λ x. one_if (not x)) h in
        elim b as (λ b. cond {A = ℕ} (has_cell e dn) 1 0 ≡ cond b 1 0 → one_if (not (has_cell e dn)) ≡ one_if (not b) → length (put nat_cmp dn c e.cells) ≡ length e.cells + one_if (not (has_cell e dn))) [
          | true ↦ λ w n. omega (arith, w, n, length_put dn c e.cells s)
          | false ↦ λ w n. omega (arith, w, n, length_put dn c e.cells s)
        ] was new

pub cells_there : (e : BlockEntry) (dn : ℕ) → has_cell e dn ≡ true → grown e dn ≡ length e.cells
cells_there e dn h = (let k = ap (λ x. one_if (not x)) h in omega (arith, k))

-- ---- one more cell is retired

pub retired_at : (xs ys : Cells) (i : ℕ) (x z : ℕ × Cell) → i < length xs → ys ≡ map (λ c. (c.0, cell_retired c.1)) (take i xs) ++ drop i xs → x ≡ get_or ys i x
    → z ≡ ((get_or ys i x).0, cell_retired (get_or ys i x).1) → set ys i z ≡ map (λ c. (c.0, cell_retired c.1)) (take (i + 1) xs) ++ drop (i + 1) xs
retired_at xs ys i x z l h g m =
    ap (set ys i) m ∙ ap (λ (y : ℕ × Cell). set ys i (y.0, cell_retired y.1)) (sym g) ∙ map_over_more (λ (c : ℕ × Cell). (c.0, cell_retired c.1)) xs ys i x l h g

pub is_not_here : {P : Type 0} {b : Bool} → b ≡ false → b ≡ true → P
is_not_here no_cell_there h = absurd (both_ways _ no_cell_there h)

-- what a write through all cells leaves
pub refilled : (xs ws : Cells) → ws ≡ map (λ c. (c.0, cell_retired c.1)) xs → refill (length xs) xs ws ≡ map (λ c. (c.0, cell_retired c.1)) xs
refilled xs ws h =
    let same : length xs ≡ length ws = sym (ap length h ∙ length-map xs (λ (c : ℕ × Cell). (c.0, cell_retired c.1))) in
    ap (λ n. take n (ws ++ drop (length ws) xs)) same ∙ take-append_seam ws (drop (length ws) xs) ∙ h

pub sorted_refilled : (xs ws : Cells) → is_sorted nat_cmp xs ≡ true → ws ≡ map (λ c. (c.0, cell_retired c.1)) xs → is_sorted nat_cmp (refill (length xs) xs ws) ≡ true
sorted_refilled xs ws s h = ap (is_sorted nat_cmp) (refilled xs ws h) ∙ sorted_retired xs ∙ s

-- ---- whether the DataNode is to delete what it has

pub order_none : (e : BlockEntry) (file : Option FileBlock) (xs : Cells) (dn k : ℕ) → entry file xs ≡ e → is_sorted nat_cmp xs ≡ true → k ≡ place dn xs → length xs ≤ k → false ≡ is_ordered (find nat_cmp dn e.cells)
order_none e file xs dn k v s p l =
    sym (ap is_ordered (find_gone dn xs s (not_here dn xs (subst (λ (n : ℕ). length xs ≤ n) p l)))) ∙ ap (λ y. is_ordered (find nat_cmp dn y.cells)) v

pub order_there : (e : BlockEntry) (file : Option FileBlock) (xs : Cells) (dn k : ℕ) (x : ℕ × Cell) (same : Bool) → entry file xs ≡ e → is_sorted nat_cmp xs ≡ true → k ≡ place dn xs → k < length xs → x ≡ get_or xs k x → nat_eq x.0 dn ≡ same
    → cond same x.1.ordered false ≡ is_ordered (find nat_cmp dn e.cells)
order_there e file xs dn k x same v s p l g q =
    let at : x ≡ get_or xs (place dn xs) x = g ∙ ap (λ j. get_or xs j x) p in
    let here : is_here dn xs ≡ same = sym (here_at dn xs x (subst (λ (n : ℕ). n < length xs) p l)) ∙ ap (λ (y : ℕ × Cell). nat_eq y.0 dn) (sym at) ∙ q in
    cases same at here ∙ ap (λ y. is_ordered (find nat_cmp dn y.cells)) v
  where
    cases : (b : Bool) → x ≡ get_or xs (place dn xs) x → is_here dn xs ≡ b → cond b x.1.ordered false ≡ is_ordered (find nat_cmp dn xs)
    cases true at h = ap (λ (y : ℕ × Cell). y.1.ordered) at ∙ sym (ap is_ordered (find_here dn xs x h))
    cases false at h = sym (ap is_ordered (find_gone dn xs s h))
