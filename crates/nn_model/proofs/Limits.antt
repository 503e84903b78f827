-- A namespace at the limits of its numbers, which a log makes and which is well formed.
use Rattle.std.proofs.Common.{ℕ, true, false, List, [], ◌∷◌, refl, lit<, lit≤}
use Rattle.nn_types.specs.Path.{IsPath}
use Rattle.nn_types.specs.declared.tx.Tx.{Tx}
use Rattle.nn_types.specs.declared.edit.Edit.TheVariants.{Add, AddBlock, Close, AllocateBlockId, SetGenstamp}
use Rattle.nn_model.specs.Namespace.{Namespace, root_alone}
use Rattle.nn_model.specs.WellFormed.{IsWellFormed}
use Rattle.nn_model.specs.Log.{IsLog, AreLawful}
use Rattle.nn_model.specs.NamespaceRows.{tx, a, b, c, f, block, file, namespace}
use Rattle.nn_model.proofs.Logs.{log_keeps_well_formed}
use Rattle.nn_model.proofs.Equals.{root_alone_is_well_formed}

-- the greatest number
abbrev max : ℕ
max = 9223372036854775807

abbrev log : List Tx
log =
    tx 1 (SetGenstamp 1001) ∷ tx 2 (AllocateBlockId b) ∷ tx 3 (AllocateBlockId c) ∷ tx 4 (AllocateBlockId max) ∷ tx 5 (SetGenstamp max)
    ∷ tx 6 (Add a 1) ∷ tx 7 (AddBlock a b 1001) ∷ tx 8 (Add f 512) ∷ tx 9 (AddBlock f max max) ∷ tx 10 (Close f (block max max max ∷ [])) ∷ []

abbrev at_the_limits : Namespace
at_the_limits = namespace ((a, file 1 false (block b 1001 0 ∷ [])) ∷ (f, file 512 true (block max max max ∷ [])) ∷ []) max max (c ∷ [])

path_a : IsPath a
path_a = record { each = refl; few = lit≤ tt; short = lit≤ tt }

path_f : IsPath f
path_f = record { each = refl; few = lit≤ tt; short = lit≤ tt }

lawful : AreLawful log
lawful = (
  lit< tt,
  (
    lit< tt,
    (
      lit< tt,
      (
        lit< tt,
        (
          lit< tt,
          (
            (path_a, lit< tt),
            (
              (path_a, lit< tt, lit< tt),
              (
                (path_f, lit< tt),
                (
                  (path_f, lit< tt, lit< tt),
                  ((path_f, ((lit< tt, lit< tt, lit< tt), tt)), tt),
                ),
              ),
            ),
          ),
        ),
      ),
    ),
  ),
)

is_log : IsLog root_alone 0 log
is_log = (refl, refl, (refl, refl, (refl, refl, (refl, refl, (refl, refl, (refl, refl, (refl, refl, (refl, refl, (refl, refl, (refl, refl, tt))))))))))

well_formed_at_the_limits : IsWellFormed at_the_limits
well_formed_at_the_limits = log_keeps_well_formed root_alone 0 log lawful is_log root_alone_is_well_formed
