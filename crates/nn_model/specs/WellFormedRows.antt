-- For each clause of a well formed namespace one namespace that breaks that clause alone.
use Rattle.std.specs.Prelude.{◌≡◌, ℕ, ◌≤◌, ◌<◌, ◌^◌, true, false, [], ◌∷◌, nat_le, nat_lt, codes, refl}
use Rattle.std.specs.Ordering.{is_lt}
use Rattle.std.specs.Str.{is_utf8}
use Rattle.std.specs.List.Sorted.{IsStrictlySortedBy}
use Rattle.std.proofs.Common.{ap, inl, inr, arith}
use Rattle.std.proofs.lemmas.Bool.{both_ways, le-leb, lt-ltb, and_parts}
use Rattle.std.proofs.lemmas.Option.{none-some}
use Rattle.std.proofs.lemmas.Str.{IsUtf8-from_is_utf8, lead_after_ascii}
use Rattle.nn_types.specs.declared.block.Block.{Block}
use Rattle.nn_model.specs.declared.form.Form.TheVariants.{Dir}
use Rattle.nn_model.specs.Namespace.{Namespace, root_alone}
use Rattle.nn_model.specs.WellFormed.{IsIssued, HasWellFormedBlocks, IsWellFormed, HasUtf8Names}
use Rattle.nn_model.specs.NamespaceRows.{a, a_b, b, c, f, block, file, namespace}

-- the least number that is too great for the formats
abbrev too_great : ℕ
too_great = 9223372036854775808

above : (m k : ℕ) → nat_le m k ≡ false → m ≤ k → ⊥
above m k e h = both_ways _ e (le-leb m k h)

no_number : (m : ℕ) → nat_lt m (2 ^ 63) ≡ false → m < 2 ^ 63 → ⊥
no_number m e h = both_ways _ e (lt-ltb m (2 ^ 63) h)

no_root : IsWellFormed (record root_alone { rows = [] }) → ⊥
no_root w = none-some Dir w.root

no_parent : IsWellFormed (namespace ((a_b, Dir) ∷ []) b 1001 []) → ⊥
no_parent w = none-some Dir (w.parents a (codes "b") refl)

-- a file with no blocks
abbrev with_replication : ℕ → Namespace
with_replication r = namespace ((f, file r true []) ∷ []) b 1001 []

replication_too_low : IsWellFormed (with_replication 0) → ⊥
replication_too_low w = above 1 0 refl (w.replications f (record { replication = 0; closed = true; blocks = [] }) refl).0

replication_too_high : IsWellFormed (with_replication 513) → ⊥
replication_too_high w = above 513 512 refl (w.replications f (record { replication = 513; closed = true; blocks = [] }) refl).1

rows_out_of_order : HasWellFormedBlocks (namespace ((f, Dir) ∷ (a, Dir) ∷ []) b 1001 []) → ⊥
rows_out_of_order w = both_ways _ refl w.in_order

row_twice : HasWellFormedBlocks (namespace ((f, Dir) ∷ (f, Dir) ∷ []) b 1001 []) → ⊥
row_twice w = both_ways _ refl w.in_order

last_block_too_low : HasWellFormedBlocks (namespace [] 1073741823 1001 []) → ⊥
last_block_too_low w = above 1073741824 1073741823 refl w.last_block_from

last_block_too_high : IsWellFormed (namespace [] too_great 1001 []) → ⊥
last_block_too_high w = no_number too_great refl w.last_block_to

last_stamp_too_low : IsWellFormed (namespace [] b 999 []) → ⊥
last_stamp_too_low w = above 1000 999 refl w.last_stamp_from

last_stamp_too_high : IsWellFormed (namespace [] b too_great []) → ⊥
last_stamp_too_high w = no_number too_great refl w.last_stamp_to

awaiting_out_of_order : HasWellFormedBlocks (namespace [] c 1001 (c ∷ b ∷ [])) → ⊥
unfolding IsStrictlySortedBy
awaiting_out_of_order w = both_ways _ refl (ap is_lt w.awaiting_in_order.0.0)

awaiting_twice : HasWellFormedBlocks (namespace [] c 1001 (c ∷ c ∷ [])) → ⊥
unfolding IsStrictlySortedBy
awaiting_twice w = both_ways _ refl (ap is_lt w.awaiting_in_order.0.0)

awaiting_before_the_first : HasWellFormedBlocks (namespace [] c 1001 (1073741824 ∷ [])) → ⊥
awaiting_before_the_first w = above 1073741825 1073741824 refl (w.awaiting_from 1073741824 refl).0

awaiting_above_the_last : HasWellFormedBlocks (namespace [] b 1001 (c ∷ [])) → ⊥
awaiting_above_the_last w = above c b refl (w.awaiting_from c refl).1

-- ---- Names.

-- a directory whose name is the letter a, and the end of another one
half_a_letter : HasUtf8Names (namespace (((97 ∷ 169 ∷ []) ∷ [], Dir) ∷ []) b 1001 []) → ⊥
half_a_letter utf8 =
    let name = (and_parts (is_utf8 (97 ∷ 169 ∷ [])) true (utf8 ((97 ∷ 169 ∷ []) ∷ []) refl)).0 in
    above 192 169 refl (lead_after_ascii (97 ∷ 169 ∷ []) 0 (IsUtf8-from_is_utf8 _ name) (omega arith) (omega arith) (omega arith))

-- ---- Blocks.

-- two files, of which the second has this block
abbrev with_block : Block → Namespace
with_block x = namespace ((a, file 1 true (block b 1001 5 ∷ [])) ∷ (f, file 1 true (x ∷ [])) ∷ []) 1073741828 1002 (1073741827 ∷ [])

-- what a well formed namespace says of the block
said_of : (x : Block) → HasWellFormedBlocks (with_block x) → IsIssued (with_block x).issued x
said_of x w = w.issued x (inr (inl refl))

block_twice : HasWellFormedBlocks (with_block (block b 1001 5)) → ⊥
block_twice w = above 2 1 refl (w.once b)

-- what breaks the blocks breaks the namespace
block_twice_in_a_tree : IsWellFormed (with_block (block b 1001 5)) → ⊥
block_twice_in_a_tree w = block_twice w.blocks

block_before_the_first : HasWellFormedBlocks (with_block (block 1073741824 1001 5)) → ⊥
block_before_the_first w = above 1073741825 1073741824 refl (said_of _ w).from_first

block_above_the_last : HasWellFormedBlocks (with_block (block 1073741829 1001 5)) → ⊥
block_above_the_last w = above 1073741829 1073741828 refl (said_of _ w).to_last

block_awaits : HasWellFormedBlocks (with_block (block 1073741827 1001 5)) → ⊥
block_awaits w = both_ways _ (said_of _ w).not_awaiting refl

stamp_before_the_first : HasWellFormedBlocks (with_block (block c 1000 5)) → ⊥
stamp_before_the_first w = above 1001 1000 refl (said_of _ w).stamp_from

stamp_above_the_last : HasWellFormedBlocks (with_block (block c 1003 5)) → ⊥
stamp_above_the_last w = above 1003 1002 refl (said_of _ w).stamp_to

length_too_great : HasWellFormedBlocks (with_block (block c 1001 too_great)) → ⊥
length_too_great w = no_number too_great refl (said_of _ w).length
