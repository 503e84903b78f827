-- The figures of a table after one cell of one of its entries changed.
use Rattle.std.proofs.Common.{◌≡◌, ℕ, ◌+◌, ◌-◌, ◌≤◌, Bool, true, false, not, cond, [], ◌∷◌, length, Option, Some, None, is_some, inl, inr, refl, sym, ap, subst, ◌∙◌, arith, nat_cmp}
use Rattle.std.proofs.Math.Bool.{beq}
use Rattle.std.specs.FinMap.Entries.{find, put, is_sorted}
use Rattle.std.specs.Ordering.{is_eq}
use Rattle.nn_types.specs.declared.replica.Class.{Class}
use Rattle.nn_types.specs.declared.replica.Class.TheVariants.{Stale, Ahead, Live, WrongLength}
use Rattle.nn_model.specs.declared.form.BlockRow.{BlockRow}
use Rattle.nn_replicas.specs.declared.entry.Cell.{Cell}
use Rattle.nn_replicas.specs.declared.entry.Difference.{Difference}
use Rattle.nn_replicas.specs.declared.entry.FileBlock.{FileBlock}
use Rattle.nn_replicas.specs.declared.entry.Standing.{Standing}
use Rattle.nn_replicas.specs.declared.figures.Figures.{Figures}
use Rattle.nn_replicas.specs.Table.{BlockEntry}
use Rattle.nn_replicas.specs.Entry.{row_of, with_cell, live_cells}
use Rattle.nn_replicas.specs.Figures.{is_class, class_by_row, share_of, IsChangedShare, IsChange, figures_in, standing_of, replaced, recounted, restood, one_if, Changes, MayReplace, MayRecount, MayRestand}
use Rattle.nn_replicas.proofs.Entries.{weight, counted, counted_cons, counted_put, summed_there, length_put}
use Rattle.nn_replicas.proofs.Classed.{live_are}
use Rattle.nn_replicas.proofs.Written.{Cells, entry}

-- ---- the figures of one block, by the file that holds it

abbrev pub has : Option FileBlock → Class → Cell → Bool
has file class c = is_class class (class_by_row (row_of file) c)

abbrev pub stands : ℕ → Option FileBlock → Cells → Standing
stands min None xs = record { safe = 0; missing = 0; missing_of_one = 0; under_replicated = 0; over_replicated = 0 }
stands min (Some file) xs = standing_of file.closed file.replication min (live_cells file.block xs)

abbrev pub is_closed_by : Option FileBlock → Bool
is_closed_by None = false
is_closed_by (Some file) = file.closed

abbrev pub adds : ℕ → Option FileBlock → Cells → Figures
adds min file xs = record {
  blocks = one_if (is_some file);
  total = one_if (is_closed_by file);
  safe = (stands min file xs).safe;
  missing = (stands min file xs).missing;
  missing_of_one = (stands min file xs).missing_of_one;
  under_replicated = (stands min file xs).under_replicated;
  over_replicated = (stands min file xs).over_replicated;
  stale = counted (has file Stale) xs;
  ahead = counted (has file Ahead) xs;
  wrong_length = counted (has file WrongLength) xs;
  orders = counted (λ c. c.ordered) xs;
  places = length xs;
}

none_counted : (xs : Cells) → 0 ≡ counted (λ (c : Cell). false) xs
none_counted [] = refl
none_counted (x ∷ xs) = omega (arith, counted_cons (λ (c : Cell). false) x xs, none_counted xs)

adds_are : (min : ℕ) (file : Option FileBlock) (xs : Cells) → figures_in min (entry file xs) ≡ adds min file xs
adds_are min None xs = λ i. record {
  blocks = 0;
  total = 0;
  safe = 0;
  missing = 0;
  missing_of_one = 0;
  under_replicated = 0;
  over_replicated = 0;
  stale = none_counted xs i;
  ahead = none_counted xs i;
  wrong_length = none_counted xs i;
  orders = counted (λ (c : Cell). c.ordered) xs;
  places = length xs;
}
adds_are min (Some file) xs = refl

stands_by : (min : ℕ) (file : Option FileBlock) (xs ys : Cells) → counted (has file Live) xs ≡ counted (has file Live) ys → stands min file xs ≡ stands min file ys
stands_by min None xs ys k = refl
stands_by min (Some file) xs ys k = ap (standing_of file.closed file.replication min) (sym (live_are file.block xs) ∙ k ∙ live_are file.block ys)

-- of an open file nothing is counted
pub stands_open : (min : ℕ) (file : FileBlock) (xs ys : Cells) → file.closed ≡ false → stands min (Some file) xs ≡ stands min (Some file) ys
stands_open min file xs ys k =
    ap (λ b. standing_of b file.replication min (live_cells file.block xs)) k ∙ sym (ap (λ b. standing_of b file.replication min (live_cells file.block ys)) k)

-- a block of a closed file stands by its live replicas
stands_closed : (min : ℕ) (file : FileBlock) (xs : Cells) (n : ℕ) → file.closed ≡ true → n ≡ live_cells file.block xs → standing_of true file.replication min n ≡ stands min (Some file) xs
stands_closed min file xs n k h = ap (λ b. standing_of b file.replication min n) (sym k) ∙ ap (standing_of file.closed file.replication min) h

-- ---- one figure

kept : (a w : ℕ) → w ≤ a → a ≡ (a - w) + w
kept a w h = omega (arith, h)

same : (a w i : ℕ) → w ≤ a → w ≡ i → a ≡ (a - w) + i
same a w i h k = omega (arith, h, k)

class_weight : (row : Option BlockRow) (class : Class) (o : Option Cell) → weight (λ c. is_class class (class_by_row row c)) o ≡ one_if (is_class class (share_of row o).class)
class_weight row class None = refl
class_weight row class (Some c) = refl

order_weight : (row : Option BlockRow) (o : Option Cell) → weight (λ c. c.ordered) o ≡ one_if (share_of row o).ordered
order_weight row None = refl
order_weight row (Some c) = refl

place_weight : (row : Option BlockRow) (o : Option Cell) → cond {A = ℕ} (is_some o) 1 0 ≡ one_if (share_of row o).placed
place_weight row None = refl
place_weight row (Some c) = refl

-- who has a cell is counted
place_there : (dn : ℕ) (xs : Cells) → cond {A = ℕ} (is_some (find nat_cmp dn xs)) 1 0 ≤ length xs
place_there dn [] = omega arith
place_there dn (x ∷ xs) =
    elim (is_eq (nat_cmp dn x.0)) as (λ b. cond {A = ℕ} (is_some (cond b (Some x.1) (find nat_cmp dn xs))) 1 0 ≤ length (x ∷ xs)) [ true ↦ omega arith | false ↦ omega (arith, place_there dn xs) ]

-- one cell was put
module _ (dn : ℕ) (cells : Cells) (c : Cell) (s : is_sorted nat_cmp cells ≡ true) (p : Cell → Bool) (a x y : ℕ)
    (may : Changes a (counted p cells) (counted p (put nat_cmp dn c cells))) (i : x ≡ weight p (find nat_cmp dn cells)) (j : y ≡ cond (p c) 1 0) where
  pub moved : counted p (put nat_cmp dn c cells) + x ≡ counted p cells + y
  moved = omega (arith, counted_put p dn c cells s, i, j)

  there : x ≤ counted p cells
  there = omega (arith, summed_there (λ z. cond (p z) 1 0) dn cells, i)

  pub part_may : Changes a x y
  part_may = (omega (arith, there, may.0), omega (arith, there, moved, may.0, may.1))

  pub part_is : (a - x) + y ≡ (a - counted p cells) + counted p (put nat_cmp dn c cells)
  part_is = omega (arith, there, moved, may.0)

-- ---- all of them

-- nothing changed
pub unchanged : (min : ℕ) (all : Figures) (e is : BlockEntry) → is ≡ e → MayReplace all (figures_in min e) (figures_in min is) → all ≡ replaced all (figures_in min e) (figures_in min is)
unchanged min all e is h m =
    (λ z. record {
      blocks = kept all.blocks _ m.blocks.0 z;
      total = kept all.total _ m.total.0 z;
      safe = kept all.safe _ m.safe.0 z;
      missing = kept all.missing _ m.missing.0 z;
      missing_of_one = kept all.missing_of_one _ m.missing_of_one.0 z;
      under_replicated = kept all.under_replicated _ m.under_replicated.0 z;
      over_replicated = kept all.over_replicated _ m.over_replicated.0 z;
      stale = kept all.stale _ m.stale.0 z;
      ahead = kept all.ahead _ m.ahead.0 z;
      wrong_length = kept all.wrong_length _ m.wrong_length.0 z;
      orders = kept all.orders _ m.orders.0 z;
      places = kept all.places _ m.places.0 z;
    })
    ∙ ap (λ y. replaced all (figures_in min e) (figures_in min y)) (sym h)

-- the block stands as before
stays : (all : Figures) (was is : Standing) → was ≡ is → MayRestand all was is → all ≡ restood all was is
stays all was is h m =
    (λ z. record all {
      safe = same all.safe _ _ m.safe.0 (ap (λ t. t.safe) h) z;
      missing = same all.missing _ _ m.missing.0 (ap (λ t. t.missing) h) z;
      missing_of_one = same all.missing_of_one _ _ m.missing_of_one.0 (ap (λ t. t.missing_of_one) h) z;
      under_replicated = same all.under_replicated _ _ m.under_replicated.0 (ap (λ t. t.under_replicated) h) z;
      over_replicated = same all.over_replicated _ _ m.over_replicated.0 (ap (λ t. t.over_replicated) h) z;
    })

-- the DataNode adds as much as before
pub recounts_nothing : (all : Figures) (change : Difference) → MayRecount all change → change.was ≡ change.is → all ≡ recounted all change
recounts_nothing all change m h =
    (λ z. record all {
      stale = kept all.stale _ m.stale.0 z;
      ahead = kept all.ahead _ m.ahead.0 z;
      wrong_length = kept all.wrong_length _ m.wrong_length.0 z;
      orders = kept all.orders _ m.orders.0 z;
      places = kept all.places _ m.places.0 z;
    })
    ∙ ap (λ is. recounted all (record { was = change.was; is = is })) h

module _ (min dn : ℕ) (all : Figures) (e is : BlockEntry) (xs : Cells) (file : Option FileBlock) (v : entry file xs ≡ is) (c : Cell) (h : is ≡ with_cell e dn c)
    (s : is_sorted nat_cmp e.cells ≡ true) (m : MayReplace all (figures_in min e) (figures_in min is))
    (change : Difference) (part : IsChangedShare e.row (find nat_cmp dn e.cells) c (Some change)) where
  abbrev pub after : Cells
  after = put nat_cmp dn c e.cells

  was_so : e ≡ entry file e.cells
  was_so = λ i. record { row = ap (λ y. y.row) (sym (v ∙ h)) i; replication = ap (λ y. y.replication) (sym (v ∙ h)) i; cells = e.cells }

  pub cells_so : xs ≡ after
  cells_so = ap (λ y. y.cells) (v ∙ h)

  was_adds : figures_in min e ≡ adds min file e.cells
  was_adds = ap (figures_in min) was_so ∙ adds_are min file e.cells

  is_adds : figures_in min is ≡ adds min file after
  is_adds = ap (figures_in min) (sym v ∙ ap (entry file) cells_so) ∙ adds_are min file after

  pub at : MayReplace all (adds min file e.cells) (adds min file after)
  at = subst (λ f. MayReplace all (adds min file e.cells) f) is_adds (subst (λ f. MayReplace all f (figures_in min is)) was_adds m)

  back : replaced all (adds min file e.cells) (adds min file after) ≡ replaced all (figures_in min e) (figures_in min is)
  back = ap (λ f. replaced all f (adds min file after)) (sym was_adds) ∙ ap (λ f. replaced all (figures_in min e) f) (sym is_adds)

  was_part : change.was ≡ share_of (row_of file) (find nat_cmp dn e.cells)
  was_part = part.0 ∙ ap (λ (y : BlockEntry). share_of y.row (find nat_cmp dn e.cells)) was_so

  is_part : change.is ≡ share_of (row_of file) (Some c)
  is_part = part.1 ∙ ap (λ (y : BlockEntry). share_of y.row (Some c)) was_so

  was_class : (class : Class) → one_if (is_class class change.was.class) ≡ weight (has file class) (find nat_cmp dn e.cells)
  was_class class = ap (λ q. one_if (is_class class q.class)) was_part ∙ sym (class_weight (row_of file) class (find nat_cmp dn e.cells))

  is_class_now : (class : Class) → one_if (is_class class change.is.class) ≡ one_if (has file class c)
  is_class_now class = ap (λ q. one_if (is_class class q.class)) is_part

  was_order : one_if change.was.ordered ≡ weight (λ c. c.ordered) (find nat_cmp dn e.cells)
  was_order = ap (λ q. one_if q.ordered) was_part ∙ sym (order_weight (row_of file) (find nat_cmp dn e.cells))

  was_place : one_if change.was.placed ≡ cond {A = ℕ} (is_some (find nat_cmp dn e.cells)) 1 0
  was_place = ap (λ q. one_if q.placed) was_part ∙ sym (place_weight (row_of file) (find nat_cmp dn e.cells))

  is_place : one_if change.is.placed ≡ 1
  is_place = ap (λ q. one_if q.placed) is_part

  pub may_recount : MayRecount all change
  may_recount = record {
    stale = part_may dn e.cells c s (has file Stale) all.stale _ _ at.stale (was_class Stale) (is_class_now Stale);
    ahead = part_may dn e.cells c s (has file Ahead) all.ahead _ _ at.ahead (was_class Ahead) (is_class_now Ahead);
    wrong_length = part_may dn e.cells c s (has file WrongLength) all.wrong_length _ _ at.wrong_length (was_class WrongLength) (is_class_now WrongLength);
    orders = part_may dn e.cells c s (λ z. z.ordered) all.orders _ _ at.orders was_order (ap (λ q. one_if q.ordered) is_part);
    places = (
      omega (arith, length_put dn c e.cells s, place_there dn e.cells, was_place, is_place, at.places.0),
      omega (arith, length_put dn c e.cells s, place_there dn e.cells, was_place, is_place, at.places.0, at.places.1),
    );
  }

  module _ (r : Figures) (counts : r ≡ recounted all change) where
    module _ (stood stand : Standing) (so : stood ≡ stands min file e.cells) (st : stand ≡ stands min file after) where
      pub may_restand : MayRestand r stood stand
      may_restand =
          subst (λ f. MayRestand f stood stand) (sym counts) (subst (λ z. MayRestand (recounted all change) stood z) (sym st) (subst (λ z. MayRestand (recounted all change) z (stands min file after)) (sym so) (record {
            safe = at.safe;
            missing = at.missing;
            missing_of_one = at.missing_of_one;
            under_replicated = at.under_replicated;
            over_replicated = at.over_replicated;
          })))

      pub restands : restood r stood stand ≡ replaced all (figures_in min e) (figures_in min is)
      restands =
          ap (λ f. restood f stood stand) counts ∙ ap (λ z. restood (recounted all change) z stand) so ∙ ap (restood (recounted all change) (stands min file e.cells)) st
          ∙ (λ z. record {
            blocks = kept all.blocks _ at.blocks.0 z;
            total = kept all.total _ at.total.0 z;
            safe = (all.safe - (stands min file e.cells).safe) + (stands min file after).safe;
            missing = (all.missing - (stands min file e.cells).missing) + (stands min file after).missing;
            missing_of_one = (all.missing_of_one - (stands min file e.cells).missing_of_one) + (stands min file after).missing_of_one;
            under_replicated = (all.under_replicated - (stands min file e.cells).under_replicated) + (stands min file after).under_replicated;
            over_replicated = (all.over_replicated - (stands min file e.cells).over_replicated) + (stands min file after).over_replicated;
            stale = part_is dn e.cells c s (has file Stale) all.stale _ _ at.stale (was_class Stale) (is_class_now Stale) z;
            ahead = part_is dn e.cells c s (has file Ahead) all.ahead _ _ at.ahead (was_class Ahead) (is_class_now Ahead) z;
            wrong_length = part_is dn e.cells c s (has file WrongLength) all.wrong_length _ _ at.wrong_length (was_class WrongLength) (is_class_now WrongLength) z;
            orders = part_is dn e.cells c s (λ y. y.ordered) all.orders _ _ at.orders was_order (ap (λ q. one_if q.ordered) is_part) z;
            places = places_are z;
          })
          ∙ back
        where
          places_are : (all.places - one_if change.was.placed) + one_if change.is.placed ≡ (all.places - length e.cells) + length after
          places_are = omega (arith, length_put dn c e.cells s, place_there dn e.cells, was_place, is_place, at.places.0)

    -- where the block stands as before
    pub recounts : stands min file e.cells ≡ stands min file after → r ≡ replaced all (figures_in min e) (figures_in min is)
    recounts k = stays r (stands min file e.cells) (stands min file after) k (may_restand _ _ refl refl) ∙ restands _ _ refl refl

  -- the live replicas before the change, and behind it
  pub live_moved : counted (has file Live) after + one_if (is_class Live change.was.class) ≡ counted (has file Live) e.cells + one_if (is_class Live change.is.class)
  live_moved = omega (arith, counted_put (has file Live) dn c e.cells s, was_class Live, is_class_now Live)

  -- where no live replica came or went
  pub stands_same : is_class Live change.was.class ≡ is_class Live change.is.class → stands min file e.cells ≡ stands min file after
  stands_same k = stands_by min file e.cells after (let l = ap one_if k in omega (arith, live_moved, l))

-- ---- as the code meets them

pub same_if : (a b : Bool) → beq a b ≡ true → a ≡ b
same_if true true h = refl
same_if true false h = cc
same_if false true h = cc
same_if false false h = refl

pub changed_of : (e : BlockEntry) (dn : ℕ) (f : BlockEntry) (change : Difference) → IsChange e dn f (Some change) → (c : Cell) × (f ≡ with_cell e dn c) × IsChangedShare e.row (find nat_cmp dn e.cells) c (Some change)
changed_of e dn f change (inl h) = let no = h.1 in cc
changed_of e dn f change (inr h) = h

pub other_if : (a b t : Bool) → beq a b ≡ false → b ≡ t → a ≡ not t
other_if true true t h k = cc
other_if true false t h k = ap not k
other_if false true t h k = ap not k
other_if false false t h k = cc

-- a live replica of a block of a closed file came or went
module _ (min dn : ℕ) (all : Figures) (e is : BlockEntry) (xs : Cells) (file : FileBlock) (v : entry (Some file) xs ≡ is) (c : Cell) (h : is ≡ with_cell e dn c)
    (s : is_sorted nat_cmp e.cells ≡ true) (m : MayReplace all (figures_in min e) (figures_in min is))
    (change : Difference) (part : IsChangedShare e.row (find nat_cmp dn e.cells) c (Some change))
    (r : Figures) (counts : r ≡ recounted all change) (closed : file.closed ≡ true) (n : ℕ) (live : n ≡ live_cells file.block xs) where
  abbrev pub Stood : ℕ → ℕ → Type 0
  Stood a b =
      MayRestand r (standing_of true file.replication min a) (standing_of true file.replication min b)
      × (restood r (standing_of true file.replication min a) (standing_of true file.replication min b) ≡ replaced all (figures_in min e) (figures_in min is))

  xs_after : xs ≡ after min dn all e is xs (Some file) v c h s m change part
  xs_after = cells_so min dn all e is xs (Some file) v c h s m change part

  stood : (a b : ℕ) → a ≡ live_cells file.block e.cells → b ≡ n → Stood a b
  stood a b i j =
      let was = stands_closed min file e.cells a closed i in
      let now = stands_closed min file (after min dn all e is xs (Some file) v c h s m change part) b closed (j ∙ live ∙ ap (live_cells file.block) xs_after) in (
        may_restand min dn all e is xs (Some file) v c h s m change part r counts _ _ was now,
        restands min dn all e is xs (Some file) v c h s m change part r counts _ _ was now,
      )

  counted_now : n ≡ counted (has (Some file) Live) (after min dn all e is xs (Some file) v c h s m change part)
  counted_now = live ∙ ap (live_cells file.block) xs_after ∙ sym (live_are file.block (after min dn all e is xs (Some file) v c h s m change part))

  moved_by : n + one_if (is_class Live change.was.class) ≡ live_cells file.block e.cells + one_if (is_class Live change.is.class)
  moved_by = (let x = live_are file.block e.cells in omega (arith, counted_now, live_moved min dn all e is xs (Some file) v c h s m change part, x))

  pub came : is_class Live change.was.class ≡ false → is_class Live change.is.class ≡ true → (1 ≤ n) × Stood (n - 1) n
  came l k =
      let lived = ap one_if l in
      let lives = ap one_if k in
      (omega (arith, moved_by, lived, lives), stood (n - 1) n (omega (arith, moved_by, lived, lives)) refl)

  pub went : is_class Live change.was.class ≡ true → is_class Live change.is.class ≡ false → Stood (n + 1) ((n + 1) - 1)
  went l k =
      let lived = ap one_if l in
      let lives = ap one_if k in
      stood (n + 1) ((n + 1) - 1) (omega (arith, moved_by, lived, lives)) (omega arith)

-- none is told: the DataNode adds as much as before
pub none_told : (min dn : ℕ) (all : Figures) (e is : BlockEntry) (xs : Cells) (file : Option FileBlock) → entry file xs ≡ is → is_sorted nat_cmp e.cells ≡ true → IsChange e dn is None
    → MayReplace all (figures_in min e) (figures_in min is) → all ≡ replaced all (figures_in min e) (figures_in min is)
none_told min dn all e is xs file v s (inl h) m = unchanged min all e is h.0 m
none_told min dn all e is xs file v s (inr h) m =
    let change : Difference = record { was = share_of e.row (find nat_cmp dn e.cells); is = share_of e.row (Some h.0) } in
    let may = may_recount min dn all e is xs file v h.0 h.1 s m change (refl, refl) in
    recounts min dn all e is xs file v h.0 h.1 s m change (refl, refl) all (recounts_nothing all change may (sym h.2))
    (stands_same min dn all e is xs file v h.0 h.1 s m change (refl, refl) (ap (λ q. is_class Live q.class) (sym h.2)))
