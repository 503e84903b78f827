-- The figures of a table after the entry of one block id came, changed or went.
use Rattle.std.proofs.Common.{◌≡◌, ℕ, ◌+◌, ◌-◌, ◌<◌, ◌≤◌, ◌^◌, Bool, true, false, length, Option, Some, None, is_some, refl, sym, ap, ◌∙◌, nat_cmp, arith}
use Rattle.std.specs.BTreeMap.{is_at}
use Rattle.std.specs.Map.{keys_of, lookup}
use Rattle.std.specs.List.Sorted.{IsStrictlySortedBy}
use Rattle.std.specs.FinMap.Entries.{is_sorted}
use Rattle.std.specs.Option.{option_map}
use Rattle.std.proofs.lemmas.List.Sums.{count_by-le-length}
use Rattle.nn_types.specs.declared.replica.Class.{Class}
use Rattle.nn_types.specs.declared.replica.Class.TheVariants.{Stale, Ahead, WrongLength}
use Rattle.nn_model.specs.declared.form.BlockRow.{BlockRow}
use Rattle.nn_model.specs.Counts.{class_of}
use Rattle.nn_replicas.specs.declared.entry.Cell.{Cell}
use Rattle.nn_replicas.specs.declared.entry.Told.{Told}
use Rattle.nn_replicas.specs.declared.figures.Figures.{Figures}
use Rattle.nn_replicas.specs.Table.{BlockEntry}
use Rattle.nn_replicas.specs.Entry.{is_closed, is_safe, cell_of, cell_told, with_word}
use Rattle.nn_replicas.specs.Figures.{is_class, replicas_of, is_missing, is_missing_of_one, is_under_replicated, is_over_replicated, ordered_cells, figures_of, figures_in, replaced, one_if, grown, Changes, MayReplace}
use Rattle.nn_replicas.proofs.Entries.{share, summed, summed_there, summed_put, summed_below}
use Rattle.nn_replicas.proofs.Tables.{Entries, table, set_at, sorted_set, Becomes, written, same_new}
use Rattle.nn_replicas.proofs.Written.{cells_put}

-- what an entry adds, and nothing where there is none
abbrev pub added_by : ℕ → Option BlockEntry → Figures
added_by min o = record {
  blocks = share (λ e. one_if (is_some e.row)) o;
  total = share (λ e. one_if (is_closed e)) o;
  safe = share (λ e. one_if (is_safe min e)) o;
  missing = share (λ e. one_if (is_missing e)) o;
  missing_of_one = share (λ e. one_if (is_missing_of_one e)) o;
  under_replicated = share (λ e. one_if (is_under_replicated e)) o;
  over_replicated = share (λ e. one_if (is_over_replicated e)) o;
  stale = share (λ e. replicas_of Stale e) o;
  ahead = share (λ e. replicas_of Ahead e) o;
  wrong_length = share (λ e. replicas_of WrongLength e) o;
  orders = share (λ e. ordered_cells e) o;
  places = share (λ e. length e.cells) o;
}

-- one entry was `was` and is `is`
pub record Moves (es fs : Entries) (was is : Option BlockEntry) : Type 0 where
  pub there : (f : BlockEntry → ℕ) → share f was ≤ summed f es
  pub sums : (f : BlockEntry → ℕ) → summed f fs + share f was ≡ summed f es + share f is

pub moves : {es fs : Entries} {b : ℕ} {old : Option BlockEntry} {w : BlockEntry} → Becomes es fs b old w → Moves es fs old (Some w)
moves {es} {fs} {b} {old} {w} h = record {
  there = λ f. (let k = ap (share f) h.found in omega (arith, k, summed_there f b es));
  sums = λ f. (let k = ap (share f) h.found in let l = ap (summed f) h.put in omega (arith, k, l, summed_put f b w es h.sorted));
}

-- no block adds more than one to a count of blocks, nor more than its cells to a count of replicas
at_most_one : (p : BlockEntry → Bool) (o : Option BlockEntry) → share (λ e. one_if (p e)) o ≤ 1
at_most_one p None = omega arith
at_most_one p (Some e) = elim (p e) as (λ b. one_if b ≤ 1) [ true ↦ omega arith | false ↦ omega arith ]

class_below : (class : Class) (e : BlockEntry) → replicas_of class e ≤ length e.cells
class_below class e = by_row e.row
  where
    by_row : (row : Option BlockRow) → replicas_of class (record e { row = row }) ≤ length e.cells
    by_row None = omega arith
    by_row (Some row) = count_by-le-length (λ (c : ℕ × Cell). is_class class (option_map (λ r. class_of r row.block) c.1.replica)) e.cells

orders_below : (e : BlockEntry) → ordered_cells e ≤ length e.cells
orders_below e = count_by-le-length (λ (c : ℕ × Cell). c.1.ordered) e.cells

module _ (min : ℕ) (es fs : Entries) (o p : Option BlockEntry) (h : Moves es fs o p)
    (all was is : Figures) (a : all ≡ figures_of (table min es)) (b : was ≡ added_by min o) (c : is ≡ added_by min p) where
  changed : (f : BlockEntry → ℕ) (n x y : ℕ) → n ≡ summed f es → x ≡ share f o → y ≡ share f p → (x ≤ n) × ((n - x) + y ≡ summed f fs)
  changed f n x y i j k = (omega (arith, i, j, h.there f), omega (arith, i, j, k, h.there f, h.sums f))

  at_blocks : (was.blocks ≤ all.blocks) × ((all.blocks - was.blocks) + is.blocks ≡ summed (λ e. one_if (is_some e.row)) fs)
  at_blocks = changed (λ e. one_if (is_some e.row)) all.blocks was.blocks is.blocks (ap (λ x. x.blocks) a) (ap (λ x. x.blocks) b) (ap (λ x. x.blocks) c)

  at_total : (was.total ≤ all.total) × ((all.total - was.total) + is.total ≡ summed (λ e. one_if (is_closed e)) fs)
  at_total = changed (λ e. one_if (is_closed e)) all.total was.total is.total (ap (λ x. x.total) a) (ap (λ x. x.total) b) (ap (λ x. x.total) c)

  at_safe : (was.safe ≤ all.safe) × ((all.safe - was.safe) + is.safe ≡ summed (λ e. one_if (is_safe min e)) fs)
  at_safe = changed (λ e. one_if (is_safe min e)) all.safe was.safe is.safe (ap (λ x. x.safe) a) (ap (λ x. x.safe) b) (ap (λ x. x.safe) c)

  at_missing : (was.missing ≤ all.missing) × ((all.missing - was.missing) + is.missing ≡ summed (λ e. one_if (is_missing e)) fs)
  at_missing = changed (λ e. one_if (is_missing e)) all.missing was.missing is.missing (ap (λ x. x.missing) a) (ap (λ x. x.missing) b) (ap (λ x. x.missing) c)

  at_missing_of_one : (was.missing_of_one ≤ all.missing_of_one) × ((all.missing_of_one - was.missing_of_one) + is.missing_of_one ≡ summed (λ e. one_if (is_missing_of_one e)) fs)
  at_missing_of_one = changed (λ e. one_if (is_missing_of_one e)) all.missing_of_one was.missing_of_one is.missing_of_one (ap (λ x. x.missing_of_one) a) (ap (λ x. x.missing_of_one) b) (ap (λ x. x.missing_of_one) c)

  at_under_replicated : (was.under_replicated ≤ all.under_replicated) × ((all.under_replicated - was.under_replicated) + is.under_replicated ≡ summed (λ e. one_if (is_under_replicated e)) fs)
  at_under_replicated = changed (λ e. one_if (is_under_replicated e)) all.under_replicated was.under_replicated is.under_replicated (ap (λ x. x.under_replicated) a) (ap (λ x. x.under_replicated) b) (ap (λ x. x.under_replicated) c)

  at_over_replicated : (was.over_replicated ≤ all.over_replicated) × ((all.over_replicated - was.over_replicated) + is.over_replicated ≡ summed (λ e. one_if (is_over_replicated e)) fs)
  at_over_replicated = changed (λ e. one_if (is_over_replicated e)) all.over_replicated was.over_replicated is.over_replicated (ap (λ x. x.over_replicated) a) (ap (λ x. x.over_replicated) b) (ap (λ x. x.over_replicated) c)

  at_stale : (was.stale ≤ all.stale) × ((all.stale - was.stale) + is.stale ≡ summed (λ e. replicas_of Stale e) fs)
  at_stale = changed (λ e. replicas_of Stale e) all.stale was.stale is.stale (ap (λ x. x.stale) a) (ap (λ x. x.stale) b) (ap (λ x. x.stale) c)

  at_ahead : (was.ahead ≤ all.ahead) × ((all.ahead - was.ahead) + is.ahead ≡ summed (λ e. replicas_of Ahead e) fs)
  at_ahead = changed (λ e. replicas_of Ahead e) all.ahead was.ahead is.ahead (ap (λ x. x.ahead) a) (ap (λ x. x.ahead) b) (ap (λ x. x.ahead) c)

  at_wrong_length : (was.wrong_length ≤ all.wrong_length) × ((all.wrong_length - was.wrong_length) + is.wrong_length ≡ summed (λ e. replicas_of WrongLength e) fs)
  at_wrong_length = changed (λ e. replicas_of WrongLength e) all.wrong_length was.wrong_length is.wrong_length (ap (λ x. x.wrong_length) a) (ap (λ x. x.wrong_length) b) (ap (λ x. x.wrong_length) c)

  at_orders : (was.orders ≤ all.orders) × ((all.orders - was.orders) + is.orders ≡ summed (λ e. ordered_cells e) fs)
  at_orders = changed (λ e. ordered_cells e) all.orders was.orders is.orders (ap (λ x. x.orders) a) (ap (λ x. x.orders) b) (ap (λ x. x.orders) c)

  at_places : (was.places ≤ all.places) × ((all.places - was.places) + is.places ≡ summed (λ e. length e.cells) fs)
  at_places = changed (λ e. length e.cells) all.places was.places is.places (ap (λ x. x.places) a) (ap (λ x. x.places) b) (ap (λ x. x.places) c)

  pub figures_new : replaced all was is ≡ figures_of (table min fs)
  figures_new = λ i. record {
    blocks = at_blocks.1 i;
    total = at_total.1 i;
    safe = at_safe.1 i;
    missing = at_missing.1 i;
    missing_of_one = at_missing_of_one.1 i;
    under_replicated = at_under_replicated.1 i;
    over_replicated = at_over_replicated.1 i;
    stale = at_stale.1 i;
    ahead = at_ahead.1 i;
    wrong_length = at_wrong_length.1 i;
    orders = at_orders.1 i;
    places = at_places.1 i;
  }

  -- there are fewer blocks than 2^63, and the places fit
  module _ (few : length es < 2 ^ 63) (room : all.places + is.places < 2 ^ 64 + was.places) where
    fits : (all.places - was.places) + is.places < 2 ^ 64
    fits = omega (arith, at_places.0, room)

    of_blocks : (q : BlockEntry → Bool) (n x y : ℕ) → n ≡ summed (λ e. one_if (q e)) es → x ≡ share (λ e. one_if (q e)) o → y ≡ share (λ e. one_if (q e)) p → Changes n x y
    of_blocks q n x y i j k = (let z = at_most_one q p in let w = count_by-le-length (λ (e : ℕ × BlockEntry). q e.1) es in ((changed (λ e. one_if (q e)) n x y i j k).0, omega (arith, i, k, z, w, few)))

    of_replicas : (f : BlockEntry → ℕ) → ((e : BlockEntry) → f e ≤ length e.cells) → (n x y : ℕ) → n ≡ summed f es → x ≡ share f o → y ≡ share f p → Changes n x y
    of_replicas f below n x y i j k =
        let here = changed f n x y i j k in
        (here.0, omega (arith, here.1, summed_below f (λ e. length e.cells) below fs, at_places.1, fits))

    pub may_replace : MayReplace all was is
    may_replace = record {
      blocks = of_blocks (λ e. is_some e.row) all.blocks was.blocks is.blocks (ap (λ x. x.blocks) a) (ap (λ x. x.blocks) b) (ap (λ x. x.blocks) c);
      total = of_blocks (λ e. is_closed e) all.total was.total is.total (ap (λ x. x.total) a) (ap (λ x. x.total) b) (ap (λ x. x.total) c);
      safe = of_blocks (λ e. is_safe min e) all.safe was.safe is.safe (ap (λ x. x.safe) a) (ap (λ x. x.safe) b) (ap (λ x. x.safe) c);
      missing = of_blocks (λ e. is_missing e) all.missing was.missing is.missing (ap (λ x. x.missing) a) (ap (λ x. x.missing) b) (ap (λ x. x.missing) c);
      missing_of_one = of_blocks (λ e. is_missing_of_one e) all.missing_of_one was.missing_of_one is.missing_of_one (ap (λ x. x.missing_of_one) a) (ap (λ x. x.missing_of_one) b) (ap (λ x. x.missing_of_one) c);
      under_replicated = of_blocks (λ e. is_under_replicated e) all.under_replicated was.under_replicated is.under_replicated (ap (λ x. x.under_replicated) a) (ap (λ x. x.under_replicated) b) (ap (λ x. x.under_replicated) c);
      over_replicated = of_blocks (λ e. is_over_replicated e) all.over_replicated was.over_replicated is.over_replicated (ap (λ x. x.over_replicated) a) (ap (λ x. x.over_replicated) b) (ap (λ x. x.over_replicated) c);
      stale = of_replicas (λ e. replicas_of Stale e) (class_below Stale) all.stale was.stale is.stale (ap (λ x. x.stale) a) (ap (λ x. x.stale) b) (ap (λ x. x.stale) c);
      ahead = of_replicas (λ e. replicas_of Ahead e) (class_below Ahead) all.ahead was.ahead is.ahead (ap (λ x. x.ahead) a) (ap (λ x. x.ahead) b) (ap (λ x. x.ahead) c);
      wrong_length = of_replicas (λ e. replicas_of WrongLength e) (class_below WrongLength) all.wrong_length was.wrong_length is.wrong_length (ap (λ x. x.wrong_length) a) (ap (λ x. x.wrong_length) b) (ap (λ x. x.wrong_length) c);
      orders = of_replicas (λ e. ordered_cells e) orders_below all.orders was.orders is.orders (ap (λ x. x.orders) a) (ap (λ x. x.orders) b) (ap (λ x. x.orders) c);
      places = (at_places.0, fits);
    }

-- ---- as the code meets them

module _ {es fs : Entries} {b : ℕ} {old : Option BlockEntry} {w : BlockEntry} (h : Becomes es fs b old w)
    (min : ℕ) (all was is : Figures) (a : all ≡ figures_of (table min es)) (i : was ≡ added_by min old) (j : is ≡ figures_in min w) where
  pub figures_set : replaced all was is ≡ figures_of (table min fs)
  figures_set = figures_new min es fs old (Some w) (moves h) all was is a i j

  pub may_set : length es < 2 ^ 63 → all.places + is.places < 2 ^ 64 + was.places → MayReplace all was is
  may_set few room = may_replace min es fs old (Some w) (moves h) all was is a i j few room

-- ---- what the table keeps of itself, where an entry was written in its place

module _ (min b : ℕ) (es : Entries) (v w : BlockEntry) (found : Some v ≡ lookup (is_at (nat_cmp b)) es) (sorted : IsStrictlySortedBy nat_cmp (keys_of es))
    (all : Figures) (a : all ≡ figures_of (table min es)) where
  abbrev pub Keeps : Figures → Type 0
  Keeps r = (r ≡ figures_of (table min (set_at b es w))) × IsStrictlySortedBy nat_cmp (keys_of (set_at b es w))

  at : Becomes es (set_at b es w) b (Some v) w
  at = written b es v w found sorted

  -- the entry is another one, and counted
  pub keeps_new : (was is r : Figures) → was ≡ figures_in min v → is ≡ figures_in min w → r ≡ replaced all was is → Keeps r
  keeps_new was is r i j k = (k ∙ figures_set at min all was is a i j, sorted_set b es w sorted)

  -- it is as it was
  pub keeps_same : (r : Figures) → r ≡ all → w ≡ v → Keeps r
  keeps_same r k m = (k ∙ a ∙ ap figures_of (sym (same_new at (table min es) min refl m)), sorted_set b es w sorted)

-- a DataNode's cell may be told so much and counted
pub may_tell : (min b : ℕ) (es : Entries) (v : BlockEntry) (dn : ℕ) (told : Told) → Some v ≡ lookup (is_at (nat_cmp b)) es → IsStrictlySortedBy nat_cmp (keys_of es)
    → (all : Figures) → all ≡ figures_of (table min es) → length es < 2 ^ 63 → all.places + grown v dn < 2 ^ 64 + length v.cells
    → is_sorted nat_cmp v.cells ≡ true → MayReplace all (figures_in min v) (figures_in min (with_word v dn told))
may_tell min b es v dn told found sorted all a few room s =
    may_set (written b es v (with_word v dn told) found sorted) min all (figures_in min v) (figures_in min (with_word v dn told)) a refl refl few
    (omega (arith, room, cells_put v dn (cell_told (is_some v.row) told (cell_of v dn)) s))
