-- The blocks of a plain line are those that a line's value has.
use Rattle.std.proofs.Common.{◌≡◌, ℕ, ◌^◌, List, [], ◌∷◌, true, Option, Some, None, option_and_then, Result, Ok, Err, codes, refl, sym, ap, ◌∙◌, lt-ltb}
use Rattle.std.specs.Prelude.{is_some}
use Rattle.std.specs.Option.{ok_or}
use Rattle.serde_json.specs.Data.{Data, Items, null, boolean, number, string, array, object, unsigned, negative, float, no_items, item}
use Rattle.serde_json.specs.Find.{get, as_object}
use Rattle.nn_types.specs.Number.{IsNumber}
use Rattle.nn_types.specs.Block.{IsBlock, AreBlocks}
use Rattle.nn_types.specs.declared.block.Block.{Block}
use Rattle.nn_plain.specs.Spelling.{spelled_or, plain_of, Spells, SpellsBlock, SpellsBlocks, whole_of, whole_at}
use Rattle.nn_plain.specs.declared.value.Plain.{Plain}
use Rattle.nn_plain.specs.declared.value.Plain.TheVariants.{Text, Whole, Truth}
use Rattle.nn_edits.specs.Reading.{whole_in, number_in, block_in, items_in}
use Rattle.nn_edits.specs.Parts.{blocks_of_value, number_of_value, text_of_value}
use Rattle.nn_edits.specs.declared.fault.LineFault.{LineFault}
use Rattle.nn_edits.specs.declared.fault.LineFault.TheVariants.{BadNumber, MissingField}

whole_read : (key : List ℕ) (d : Data) (n : ℕ) → whole_at key d ≡ Some n → whole_in key d ≡ Ok n
unfolding whole_in
whole_read key d n e = at (get key d) refl e
  where
    at : (o : Option Data) → get key d ≡ o → option_and_then whole_of o ≡ Some n → whole_in key d ≡ Ok n
    at None there e = absurd (cc)
    at (Some v) there e = rw there (ap (λ x. ok_or x BadNumber) e)

number_read : (key : List ℕ) (d : Data) (n : ℕ) → whole_at key d ≡ Some n → IsNumber n → number_in key d ≡ Ok n
unfolding number_in
number_read key d n e small = rw (whole_read key d n e, lt-ltb n (2 ^ 63) small) refl

block_read : (d : Data) (b : Block) → SpellsBlock d b → IsBlock b → block_in d ≡ Ok b
unfolding block_in
block_read d b so lawful =
    let there : is_some (as_object d) ≡ true = ap (λ x. is_some (as_object x)) so.is_object in
    rw (there, number_read (codes "id") d b.id so.id lawful.0, number_read (codes "gen") d b.stamp so.stamp lawful.1, number_read (codes "len") d b.len so.len lawful.2) refl

items_read : (ds : Items) (bs : List Block) → SpellsBlocks ds bs → AreBlocks bs → items_in ds ≡ Ok bs
unfolding items_in
items_read no_items [] so lawful = refl
items_read no_items (b ∷ bs) so lawful = absurd so
items_read (item d ds) [] so lawful = absurd so
items_read (item d ds) (b ∷ bs) so lawful = rw (block_read d b so.0 lawful.0, items_read ds bs so.1 lawful.1) refl

pub blocks_read : (ds : Items) (bs : List Block) → SpellsBlocks ds bs → AreBlocks bs → blocks_of_value (array ds) ≡ Ok bs
blocks_read ds bs so lawful = items_read ds bs so lawful

-- ---- what a plain value is to a key

pub spells_plain : (d : Data) (v : Plain) → Spells d v → spelled_or (Some v) ≡ plain_of d
spells_plain d (Text s) e = ap plain_of (sym e)
spells_plain d (Whole n) e = ap plain_of (sym e)
spells_plain d (Truth b) e = ap plain_of (sym e)

abbrev pub number_of_plain : Option Data → Result ℕ LineFault
number_of_plain None = Err BadNumber
number_of_plain (Some d) = number_of_value d

pub number_by_plain : (d : Data) (o : Option Data) → o ≡ plain_of d → number_of_value d ≡ number_of_plain o
number_by_plain d o e = at d ∙ ap number_of_plain (sym e)
  where
    at : (d : Data) → number_of_value d ≡ number_of_plain (plain_of d)
    at null = refl
    at (boolean b) = refl
    at (number (unsigned n)) = refl
    at (number (negative z)) = refl
    at (number (float x)) = refl
    at (string s) = refl
    at (array ds) = refl
    at (object ms) = refl

abbrev pub text_of_plain : LineFault → Option Data → Result (List ℕ) LineFault
text_of_plain fault None = Err fault
text_of_plain fault (Some d) = text_of_value fault d

pub text_by_plain : (fault : LineFault) (d : Data) (o : Option Data) → o ≡ plain_of d → text_of_value fault d ≡ text_of_plain fault o
text_by_plain fault d o e = at d ∙ ap (text_of_plain fault) (sym e)
  where
    at : (d : Data) → text_of_value fault d ≡ text_of_plain fault (plain_of d)
    at null = refl
    at (boolean b) = refl
    at (number (unsigned n)) = refl
    at (number (negative z)) = refl
    at (number (float x)) = refl
    at (string s) = refl
    at (array ds) = refl
    at (object ms) = refl

-- No plain value has blocks.
pub no_blocks_read : (d : Data) (v : Plain) → Spells d v → blocks_of_value d ≡ Err MissingField
no_blocks_read d (Text s) e = ap blocks_of_value e
no_blocks_read d (Whole n) e = ap blocks_of_value e
no_blocks_read d (Truth b) e = ap blocks_of_value e
