-- What is read of a value is what the definitions make of it.
use Rattle.std.proofs.Common.{◌≡◌, Some, ap, sym}
use Rattle.serde_json.specs.Data.{Data}
use Rattle.nn_plain.specs.Spelling.{plain_of, spelled_or, Spells}
use Rattle.nn_plain.specs.declared.value.Plain.{Plain}
use Rattle.nn_plain.specs.declared.value.Plain.TheVariants.{Text, Whole, Truth}

pub plain_read : (d : Data) (v : Plain) → Spells d v → spelled_or (Some v) ≡ plain_of d
plain_read d (Text s) e = ap plain_of (sym e)
plain_read d (Whole n) e = ap plain_of (sym e)
plain_read d (Truth b) e = ap plain_of (sym e)
