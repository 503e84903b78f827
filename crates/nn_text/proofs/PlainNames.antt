-- What JSON writes of plain names.
use Rattle.std.proofs.Common.{◌≡◌, ℕ, List, [], ◌∷◌, Bool, true, false, refl, arith}
use Rattle.std.specs.Prelude.{◌&&◌, ◌==◌, nat_lt}
use Rattle.std.specs.List.{list_all}
use Rattle.json.specs.Print.{escape_byte, escape}
use Rattle.nn_text.specs.Plain.{is_plain_byte}

both : (a b : Bool) → (a && b) ≡ true → (a ≡ true) × (b ≡ true)
both true true e = (refl, refl)
both true false e = absurd (cc)
both false b e = absurd (cc)

stands : (b : ℕ) → is_plain_byte b ≡ true → escape_byte b ≡ b ∷ []
unfolding escape_byte
stands b e =
    let eight : (b == 8) ≡ false = grind arith in
    let twelve : (b == 12) ≡ false = grind arith in
    let ten : (b == 10) ≡ false = grind arith in
    let thirteen : (b == 13) ≡ false = grind arith in
    let nine : (b == 9) ≡ false = grind arith in
    let quote : (b == 34) ≡ false = grind arith in
    let backslash : (b == 92) ≡ false = grind arith in
    let above : nat_lt b 32 ≡ false = grind arith in
    rw (quote, backslash, eight, twelve, ten, thirteen, nine, above) refl

-- plain bytes stand as they are
pub escape_plain : (bs : List ℕ) → list_all is_plain_byte bs ≡ true → escape bs ≡ bs
escape_plain [] e = refl
escape_plain (b ∷ bs) e = let h = both (is_plain_byte b) (list_all is_plain_byte bs) e in rw (stands b h.0, escape_plain bs h.1) refl
