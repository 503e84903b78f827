-- Names of segments: `edits_`, the first txid in 19 digits, a dash, and the last txid in 19 digits.
use Rattle.std.specs.Prelude.{◌≡◌, ℕ, zero, suc, ◌+◌, ◌-◌, ◌*◌, ◌/◌, ◌%◌, ◌≤◌, ◌<◌, ◌^◌, List, [], ◌∷◌, ◌++◌, drop, take, fold, ◌&&◌, nat_le, nat_lt, if◌then◌else◌, Option, Some, None, codes}
use Rattle.std.specs.Str.{bytes_eq}

-- the last decimal digits of a number, so many of them, with zeros where it has fewer
unfoldable pub digits : ℕ → ℕ → List ℕ
digits zero n = []
digits (suc places) n = digits places (n / 10) ++ (48 + n % 10) ∷ []

-- the name of the segment from one txid to another
unfoldable pub segment_file_name : ℕ → ℕ → List ℕ
segment_file_name first last = codes "edits_" ++ digits 19 first ++ codes "-" ++ digits 19 last

-- the text names the segment from one txid to another
pub record IsNameOf (text : List ℕ) (first last : ℕ) : Type 0 where
  pub from_one : 1 ≤ first
  pub in_order : first ≤ last
  pub in_range : last < 2 ^ 63
  pub spelled : text ≡ segment_file_name first last

-- ---- the same, as a plain function of the text

-- the number that digits spell
abbrev pub number_spelled : List ℕ → ℕ
number_spelled text = fold (λ n digit. 10 * n + (digit - 48)) 0 text

-- these two txids, if they are in order and this is their name
abbrev pub if_named : List ℕ → ℕ → ℕ → Option (ℕ × ℕ)
if_named text first last = if nat_le 1 first && nat_le first last && nat_lt last (2 ^ 63) && bytes_eq text (segment_file_name first last) then Some (first, last) else None

-- the first and the last txid of a name: those that it spells, if it is their name
unfoldable pub txids_of : List ℕ → Option (ℕ × ℕ)
txids_of text = if_named text (number_spelled (take 19 (drop 6 text))) (number_spelled (take 19 (drop 26 text)))
