-- Paths that may be restored and others that may not, one example for each rule.
use Rattle.std.specs.Prelude.{◌≡◌, ℕ, Bool, true, false, List, [], ◌∷◌, map, codes, refl}
use Rattle.nn_types.specs.declared.profile.Profile.TheVariants.{One}
use Rattle.nn_types.specs.declared.block.Block.{Block}
use Rattle.nn_model.specs.declared.form.Form.{Form}
use Rattle.nn_model.specs.declared.form.Form.TheVariants.{Dir, File}
use Rattle.nn_model.specs.Namespace.{Namespace, with_row}
use Rattle.nn_tree.specs.Restore.{parent_of, bare, rises, awaiting_fits, replication_fits, can_restore}

abbrev a : List ℕ
a = codes "a"

abbrev b : List ℕ
b = codes "b"

-- the ids up to 1073741830 were issued, of which 1073741826 awaits, and the stamps up to 1005
abbrev start : Namespace
start = bare (record { last_block = 1073741830; last_stamp = 1005; awaiting = 1073741826 ∷ []; profile = One })

abbrev block : ℕ → ℕ → Block
block id stamp = record { id = id; stamp = stamp; len = 0 }

abbrev file : ℕ → List Block → Form
file replication blocks = File (record { replication = replication; closed = false; blocks = blocks })

-- ---- parents

parents : map parent_of ([] ∷ (a ∷ []) ∷ (a ∷ b ∷ []) ∷ (a ∷ b ∷ a ∷ []) ∷ []) ≡ [] ∷ [] ∷ (a ∷ []) ∷ (a ∷ b ∷ []) ∷ []
parents = refl

-- ---- ids that await

rising : map rises ([] ∷ (1 ∷ []) ∷ (1 ∷ 2 ∷ []) ∷ (1 ∷ 1 ∷ []) ∷ (1 ∷ 3 ∷ 2 ∷ []) ∷ []) ≡ true ∷ true ∷ true ∷ false ∷ false ∷ []
rising = refl

waiting : map (awaiting_fits 1073741830) ([] ∷ (1073741825 ∷ 1073741830 ∷ []) ∷ (1073741824 ∷ []) ∷ (1073741831 ∷ []) ∷ (1073741826 ∷ 1073741825 ∷ []) ∷ [])
    ≡ true ∷ true ∷ false ∷ false ∷ false ∷ []
waiting = refl

-- ---- where a path may stand: below a directory, and where nothing stands

abbrev with_a : Namespace
with_a = with_row start (a ∷ []) Dir

abbrev with_file : Namespace
with_file = with_row start (a ∷ []) (file 3 (block 1073741825 1001 ∷ []))

places : map (λ p. can_restore with_a p Dir) ([] ∷ (a ∷ []) ∷ (b ∷ []) ∷ (a ∷ b ∷ []) ∷ (b ∷ a ∷ []) ∷ (a ∷ b ∷ a ∷ []) ∷ [])
    ≡ false ∷ false ∷ true ∷ true ∷ false ∷ false ∷ []
places = refl

below_a_file : can_restore with_file (a ∷ b ∷ []) Dir ≡ false
below_a_file = refl

-- ---- replications

replications : map replication_fits (0 ∷ 1 ∷ 512 ∷ 513 ∷ []) ≡ false ∷ true ∷ true ∷ false ∷ []
replications = refl

of_a_file : map (λ r. can_restore start (a ∷ []) (file r [])) (0 ∷ 1 ∷ 512 ∷ 513 ∷ []) ≡ false ∷ true ∷ true ∷ false ∷ []
of_a_file = refl

-- ---- blocks

abbrev may_hold : Namespace → List Block → Bool
may_hold n blocks = can_restore n (b ∷ []) (file 3 blocks)

ids : map (λ id. may_hold start (block id 1001 ∷ [])) (1073741824 ∷ 1073741825 ∷ 1073741826 ∷ 1073741830 ∷ 1073741831 ∷ []) ≡ false ∷ true ∷ false ∷ true ∷ false ∷ []
ids = refl

stamps : map (λ stamp. may_hold start (block 1073741825 stamp ∷ [])) (1000 ∷ 1001 ∷ 1005 ∷ 1006 ∷ []) ≡ false ∷ true ∷ true ∷ false ∷ []
stamps = refl

twice : may_hold start (block 1073741825 1001 ∷ block 1073741827 1001 ∷ block 1073741825 1002 ∷ []) ≡ false
twice = refl

in_another_file : map (λ id. may_hold with_file (block id 1001 ∷ [])) (1073741825 ∷ 1073741827 ∷ []) ≡ false ∷ true ∷ []
in_another_file = refl
