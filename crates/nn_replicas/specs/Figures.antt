-- What an operator reads of a table: how many blocks, replicas and orders of each kind there are.
use Rattle.std.specs.Prelude.{◌≡◌, ◌⊎◌, ℕ, Bool, true, false, not, ◌&&◌, ◌==◌, ◌+◌, ◌-◌, ◌<◌, ◌≤◌, ◌^◌, nat_lt, nat_le, List, map, length, Option, Some, None, is_some, count_by, if◌then◌else◌}
use Rattle.std.specs.List.{sum_by}
use Rattle.std.specs.Ordering.{nat_cmp}
use Rattle.nn_sorted.specs.Values.{entries_from}
use Rattle.std.specs.Option.{option_map}
use Rattle.nn_types.specs.declared.block.Block.{Block}
use Rattle.nn_types.specs.declared.replica.Class.{Class}
use Rattle.nn_types.specs.declared.replica.Class.TheVariants.{Stale, Ahead, Building, Live, WrongLength}
use Rattle.nn_model.specs.Counts.{class_of}
use Rattle.nn_model.specs.declared.form.BlockRow.{BlockRow}
use Rattle.nn_replicas.specs.declared.entry.Cell.{Cell}
use Rattle.nn_replicas.specs.declared.entry.Classes.{Classes}
use Rattle.nn_replicas.specs.declared.entry.Difference.{Difference}
use Rattle.nn_replicas.specs.declared.entry.Share.{Share}
use Rattle.nn_replicas.specs.declared.entry.Standing.{Standing}
use Rattle.nn_replicas.specs.declared.figures.Figures.{Figures}
use Rattle.nn_replicas.specs.Table.{BlockEntry, Replicas}
use Rattle.std.specs.FinMap.Entries.{find}
use Rattle.nn_replicas.specs.Entry.{with_cell, live_cells, has_cell, is_closed, is_safe}
use Rattle.nn_replicas.specs.Calls.{total_in, safe_in}

abbrev pub one_if : Bool → ℕ
one_if b = if b then 1 else 0

-- ---- Replicas by class.

abbrev class_number : Class → ℕ
class_number Live = 0
class_number Building = 1
class_number Stale = 2
class_number Ahead = 3
class_number WrongLength = 4

abbrev pub is_class : Class → Option Class → Bool
is_class class None = false
is_class class (Some other) = class_number other == class_number class

-- how many DataNodes have a replica of this class
abbrev pub cells_of : Class → Block → List (ℕ × Cell) → ℕ
cells_of class b cells = count_by (λ c. is_class class (option_map (λ r. class_of r b) c.1.replica)) cells

abbrev of_row : Class → Option BlockRow → List (ℕ × Cell) → ℕ
of_row class None cells = 0
of_row class (Some row) cells = cells_of class row.block cells

-- how many replicas of a block that a file holds are of this class
abbrev pub replicas_of : Class → BlockEntry → ℕ
replicas_of class e = of_row class e.row e.cells

abbrev pub no_classes : Classes
no_classes = record { live = 0; stale = 0; ahead = 0; wrong_length = 0 }

-- with one replica more, if it is of a class
abbrev pub with_class : Classes → Option Class → Classes
with_class c class = record {
  live = c.live + one_if (is_class Live class);
  stale = c.stale + one_if (is_class Stale class);
  ahead = c.ahead + one_if (is_class Ahead class);
  wrong_length = c.wrong_length + one_if (is_class WrongLength class);
}

-- one replica more can be counted
pub record HaveRoom (c : Classes) : Type 0 where
  pub live : c.live + 1 < 2 ^ 64
  pub stale : c.stale + 1 < 2 ^ 64
  pub ahead : c.ahead + 1 < 2 ^ 64
  pub wrong_length : c.wrong_length + 1 < 2 ^ 64

abbrev pub classes_in : Block → List (ℕ × Cell) → Classes
classes_in b cells = record { live = cells_of Live b cells; stale = cells_of Stale b cells; ahead = cells_of Ahead b cells; wrong_length = cells_of WrongLength b cells }

-- ---- One block.

abbrev live_by_row : Option BlockRow → List (ℕ × Cell) → ℕ
live_by_row None cells = 0
live_by_row (Some row) cells = live_cells row.block cells

-- how many live replicas a block has that a file holds
abbrev pub live_of : BlockEntry → ℕ
live_of e = live_by_row e.row e.cells

-- a block of a closed file without a live replica
abbrev pub is_missing : BlockEntry → Bool
is_missing e = is_closed e && (live_of e == 0)

-- of a file with replication 1
abbrev pub is_missing_of_one : BlockEntry → Bool
is_missing_of_one e = is_closed e && ((live_of e == 0) && (e.replication == 1))

-- a block of a closed file with fewer live replicas than the file's replication
abbrev pub is_under_replicated : BlockEntry → Bool
is_under_replicated e = is_closed e && nat_lt (live_of e) e.replication

-- with more
abbrev pub is_over_replicated : BlockEntry → Bool
is_over_replicated e = is_closed e && nat_lt e.replication (live_of e)

-- how many DataNodes are to delete what they have of the block
abbrev pub ordered_cells : BlockEntry → ℕ
ordered_cells e = count_by (λ c. c.1.ordered) e.cells

-- ---- All blocks.

abbrev pub figures_of : Replicas → Figures
figures_of t = record {
  blocks = count_by (λ e. is_some e.1.row) t.entries;
  total = total_in t;
  safe = safe_in t;
  missing = count_by (λ e. is_missing e.1) t.entries;
  missing_of_one = count_by (λ e. is_missing_of_one e.1) t.entries;
  under_replicated = count_by (λ e. is_under_replicated e.1) t.entries;
  over_replicated = count_by (λ e. is_over_replicated e.1) t.entries;
  stale = sum_by (λ e. replicas_of Stale e.1) t.entries;
  ahead = sum_by (λ e. replicas_of Ahead e.1) t.entries;
  wrong_length = sum_by (λ e. replicas_of WrongLength e.1) t.entries;
  orders = sum_by (λ e. ordered_cells e.1) t.entries;
  places = sum_by (λ e. length e.1.cells) t.entries;
}

-- ---- What keeps safe mode on.

-- how many live replicas a block of a closed file has, where they are fewer than make it safe
abbrev pub too_few : ℕ → BlockEntry → Option ℕ
too_few min e = if is_closed e && nat_lt (live_of e) min then Some (live_of e) else None

abbrev pub looked_at : ℕ → ℕ × BlockEntry → ℕ × Option ℕ
looked_at min e = (e.0, too_few min e.1)

-- each block that the table knows, from an id on
abbrev pub unsafe_from : Replicas → ℕ → List (ℕ × Option ℕ)
unsafe_from t from = map (looked_at t.min) (entries_from (nat_cmp from) t.entries)

-- ---- What one block adds, as the code counts it.

abbrev pub figures_in : ℕ → BlockEntry → Figures
figures_in min e = record {
  blocks = one_if (is_some e.row);
  total = one_if (is_closed e);
  safe = one_if (is_safe min e);
  missing = one_if (is_missing e);
  missing_of_one = one_if (is_missing_of_one e);
  under_replicated = one_if (is_under_replicated e);
  over_replicated = one_if (is_over_replicated e);
  stale = replicas_of Stale e;
  ahead = replicas_of Ahead e;
  wrong_length = replicas_of WrongLength e;
  orders = ordered_cells e;
  places = length e.cells;
}

abbrev pub no_figures : Figures
no_figures = record {
  blocks = 0;
  total = 0;
  safe = 0;
  missing = 0;
  missing_of_one = 0;
  under_replicated = 0;
  over_replicated = 0;
  stale = 0;
  ahead = 0;
  wrong_length = 0;
  orders = 0;
  places = 0;
}

-- a block that added `was` adds `is`
abbrev pub replaced : Figures → Figures → Figures → Figures
replaced all was is = record {
  blocks = (all.blocks - was.blocks) + is.blocks;
  total = (all.total - was.total) + is.total;
  safe = (all.safe - was.safe) + is.safe;
  missing = (all.missing - was.missing) + is.missing;
  missing_of_one = (all.missing_of_one - was.missing_of_one) + is.missing_of_one;
  under_replicated = (all.under_replicated - was.under_replicated) + is.under_replicated;
  over_replicated = (all.over_replicated - was.over_replicated) + is.over_replicated;
  stale = (all.stale - was.stale) + is.stale;
  ahead = (all.ahead - was.ahead) + is.ahead;
  wrong_length = (all.wrong_length - was.wrong_length) + is.wrong_length;
  orders = (all.orders - was.orders) + is.orders;
  places = (all.places - was.places) + is.places;
}

-- what a block added is in the count, and the new one fits
abbrev pub Changes : ℕ → ℕ → ℕ → Type 0
Changes all was is = (was ≤ all) × ((all - was) + is < 2 ^ 64)

pub record MayReplace (all was is : Figures) : Type 0 where
  pub blocks : Changes all.blocks was.blocks is.blocks
  pub total : Changes all.total was.total is.total
  pub safe : Changes all.safe was.safe is.safe
  pub missing : Changes all.missing was.missing is.missing
  pub missing_of_one : Changes all.missing_of_one was.missing_of_one is.missing_of_one
  pub under_replicated : Changes all.under_replicated was.under_replicated is.under_replicated
  pub over_replicated : Changes all.over_replicated was.over_replicated is.over_replicated
  pub stale : Changes all.stale was.stale is.stale
  pub ahead : Changes all.ahead was.ahead is.ahead
  pub wrong_length : Changes all.wrong_length was.wrong_length is.wrong_length
  pub orders : Changes all.orders was.orders is.orders
  pub places : Changes all.places was.places is.places

-- what a block of a file with this replication is counted as, by its live replicas
abbrev pub standing_of : Bool → ℕ → ℕ → ℕ → Standing
standing_of closed replication min live = record {
  safe = one_if (closed && nat_le min live);
  missing = one_if (closed && (live == 0));
  missing_of_one = one_if (closed && ((live == 0) && (replication == 1)));
  under_replicated = one_if (closed && nat_lt live replication);
  over_replicated = one_if (closed && nat_lt replication live);
}

-- a block that was counted as `was` is counted as `is`
abbrev pub restood : Figures → Standing → Standing → Figures
restood all was is = record all {
  safe = (all.safe - was.safe) + is.safe;
  missing = (all.missing - was.missing) + is.missing;
  missing_of_one = (all.missing_of_one - was.missing_of_one) + is.missing_of_one;
  under_replicated = (all.under_replicated - was.under_replicated) + is.under_replicated;
  over_replicated = (all.over_replicated - was.over_replicated) + is.over_replicated;
}

pub record MayRestand (all : Figures) (was is : Standing) : Type 0 where
  pub safe : Changes all.safe was.safe is.safe
  pub missing : Changes all.missing was.missing is.missing
  pub missing_of_one : Changes all.missing_of_one was.missing_of_one is.missing_of_one
  pub under_replicated : Changes all.under_replicated was.under_replicated is.under_replicated
  pub over_replicated : Changes all.over_replicated was.over_replicated is.over_replicated

-- ---- What one DataNode adds.

abbrev pub class_by_row : Option BlockRow → Cell → Option Class
class_by_row None c = None
class_by_row (Some row) c = option_map (λ r. class_of r row.block) c.replica

abbrev pub no_share : Share
no_share = record { placed = false; ordered = false; class = None }

-- a DataNode that was placed at a block with this row, or was not
abbrev pub share_of : Option BlockRow → Option Cell → Share
share_of row None = no_share
share_of row (Some c) = record { placed = true; ordered = c.ordered; class = class_by_row row c }

-- it adds as much as before, or something else now
abbrev pub IsChangedShare : Option BlockRow → Option Cell → Cell → Option Difference → Type 0
IsChangedShare row was is None = share_of row (Some is) ≡ share_of row was
IsChangedShare row was is (Some change) = (change.was ≡ share_of row was) × (change.is ≡ share_of row (Some is))

-- all is as it was, or the DataNode's cell is another one, which adds so much
abbrev pub IsChange : BlockEntry → ℕ → BlockEntry → Option Difference → Type 0
IsChange e dn f change = ((f ≡ e) × (change ≡ None)) ⊎ ((c : Cell) × (f ≡ with_cell e dn c) × IsChangedShare e.row (find nat_cmp dn e.cells) c change)

abbrev changed_class : Class → ℕ → Difference → ℕ
changed_class class all change = (all - one_if (is_class class change.was.class)) + one_if (is_class class change.is.class)

-- a DataNode added `was`, and adds `is`
abbrev pub recounted : Figures → Difference → Figures
recounted all change = record all {
  stale = changed_class Stale all.stale change;
  ahead = changed_class Ahead all.ahead change;
  wrong_length = changed_class WrongLength all.wrong_length change;
  orders = (all.orders - one_if change.was.ordered) + one_if change.is.ordered;
  places = (all.places - one_if change.was.placed) + one_if change.is.placed;
}

pub record MayRecount (all : Figures) (change : Difference) : Type 0 where
  pub stale : Changes all.stale (one_if (is_class Stale change.was.class)) (one_if (is_class Stale change.is.class))
  pub ahead : Changes all.ahead (one_if (is_class Ahead change.was.class)) (one_if (is_class Ahead change.is.class))
  pub wrong_length : Changes all.wrong_length (one_if (is_class WrongLength change.was.class)) (one_if (is_class WrongLength change.is.class))
  pub orders : Changes all.orders (one_if change.was.ordered) (one_if change.is.ordered)
  pub places : Changes all.places (one_if change.was.placed) (one_if change.is.placed)

-- how many DataNodes have a cell once this one has
abbrev pub grown : BlockEntry → ℕ → ℕ
grown e dn = length e.cells + one_if (not (has_cell e dn))
