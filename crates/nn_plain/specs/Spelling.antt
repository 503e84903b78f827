-- Which values of JSON the plain values and the blocks stand for.
use Rattle.std.specs.Prelude.{◌≡◌, ℕ, List, [], ◌∷◌, Option, Some, None, option_and_then, option_map, codes}
use Rattle.serde_json.specs.Data.{Data, Num, Items, no_items, item, Members, null, boolean, number, string, array, object, unsigned, negative, float}
use Rattle.serde_json.specs.Find.{get, as_number, as_u64}
use Rattle.nn_types.specs.declared.block.Block.{Block}
use Rattle.nn_plain.specs.declared.value.Plain.{Plain}
use Rattle.nn_plain.specs.declared.value.Plain.TheVariants.{Text, Whole, Truth}

-- The whole number that a value is, below 2^64.
abbrev pub whole_of : Data → Option ℕ
whole_of d = option_and_then as_u64 (as_number d)

-- The whole number at a key.
abbrev pub whole_at : List ℕ → Data → Option ℕ
whole_at key d = option_and_then whole_of (get key d)

-- An object with the numbers of a block. It may have other keys too.
pub record SpellsBlock (d : Data) (b : Block) : Type 0 where
  pub members : Members
  pub is_object : d ≡ object members
  pub id : whole_at (codes "id") d ≡ Some b.id
  pub stamp : whole_at (codes "gen") d ≡ Some b.stamp
  pub len : whole_at (codes "len") d ≡ Some b.len

-- Items that are such objects, one for each block. So an array of blocks has more than one spelling.
abbrev pub SpellsBlocks : Items → List Block → Type 0
SpellsBlocks no_items [] = Unit {0}
SpellsBlocks no_items (b ∷ bs) = ⊥
SpellsBlocks (item d ds) [] = ⊥
SpellsBlocks (item d ds) (b ∷ bs) = SpellsBlock d b × SpellsBlocks ds bs

-- The value that a plain value stands for.
abbrev pub Spells : Data → Plain → Type 0
Spells d (Text s) = d ≡ string s.now
Spells d (Whole n) = d ≡ number (unsigned n)
Spells d (Truth b) = d ≡ boolean b

-- The same as a function.
abbrev pub spelled : Plain → Data
spelled (Text s) = string s.now
spelled (Whole n) = number (unsigned n)
spelled (Truth b) = boolean b

abbrev pub spelled_or : Option Plain → Option Data
spelled_or v = option_map spelled v

-- A number counts as whole where it has no sign, no point and no exponent, and is below 2^64.
abbrev pub plain_num : Num → Option Data
plain_num (unsigned n) = Some (number (unsigned n))
plain_num (negative z) = None
plain_num (float x) = None

-- A value that a plain value stands for.
abbrev pub plain_of : Data → Option Data
plain_of null = None
plain_of (boolean b) = Some (boolean b)
plain_of (number n) = plain_num n
plain_of (string s) = Some (string s)
plain_of (array ds) = None
plain_of (object ms) = None
