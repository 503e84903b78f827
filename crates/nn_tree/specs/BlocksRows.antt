-- The blocks of a namespace in order, and lists that are not them.
use Rattle.std.specs.Prelude.{◌≡◌, ℕ, Bool, true, false, cond, [], ◌∷◌, ◌==◌, Option, Some, None, codes, refl}
use Rattle.std.specs.List.Sorted.{IsStrictlySortedBy}
use Rattle.std.proofs.lemmas.Bool.{eqb-true, both_ways}
use Rattle.std.proofs.Common.{ap, arith}
use Rattle.nn_types.specs.declared.profile.Profile.TheVariants.{One}
use Rattle.nn_types.specs.declared.block.Block.{Block}
use Rattle.nn_model.specs.declared.form.Form.{Form}
use Rattle.nn_model.specs.declared.form.Form.TheVariants.{File}
use Rattle.nn_model.specs.declared.form.BlockRow.{BlockRow}
use Rattle.nn_model.specs.Namespace.{Issued, Namespace, with_row}
use Rattle.nn_model.specs.Blocks.{block_row as row}
use Rattle.nn_tree.specs.Restore.{bare}
use Rattle.nn_tree.specs.Blocks.{AreBlockRows}

abbrev first : Block
first = record { id = 1073741825; stamp = 1001; len = 0 }

abbrev second : Block
second = record { id = 1073741826; stamp = 1002; len = 9 }

abbrev file : Bool → Block → Form
file closed block = File (record { replication = 3; closed = closed; blocks = block ∷ [] })

abbrev issued : Issued
issued = record { last_block = 1073741826; last_stamp = 1002; awaiting = []; profile = One }

-- /a is closed and has the second block, /b is open and has the first one
abbrev files : Namespace
files = with_row (with_row (bare issued) (codes "a" ∷ []) (file true second)) (codes "b" ∷ []) (file false first)

-- the two are found in either order
either : (id : ℕ) (p q : Bool) → (1073741825 == id) ≡ p → (1073741826 == id) ≡ q →
    cond p (Some (row false first)) (cond q (Some (row true second)) None)
    ≡ cond q (Some (row true second)) (cond p (Some (row false first)) None)
either id true true h k = absurd (omega (arith, eqb-true 1073741825 id h, eqb-true 1073741826 id k))
either id true false h k = refl
either id false true h k = refl
either id false false h k = refl

by_id : AreBlockRows files (row false first ∷ row true second ∷ [])
unfolding IsStrictlySortedBy
by_id = record {
  ascending = ((refl, tt), (tt, tt));
  all = λ id. either id (1073741825 == id) (1073741826 == id) refl refl;
}

by_path : AreBlockRows files (row true second ∷ row false first ∷ []) → ⊥
unfolding IsStrictlySortedBy
by_path r = let order = r.ascending.0.0 in cc

one_left_out : AreBlockRows files (row false first ∷ []) → ⊥
one_left_out r = let found = r.all 1073741826 in cc

abbrev is_closed : Option BlockRow → Bool
is_closed None = false
is_closed (Some r) = r.closed

closed_told_as_open : AreBlockRows files (row false first ∷ row false second ∷ []) → ⊥
closed_told_as_open r = both_ways false refl (ap is_closed (r.all 1073741826))

one_too_many : AreBlockRows (bare issued) (row false first ∷ []) → ⊥
one_too_many r = let found = r.all 1073741825 in cc
