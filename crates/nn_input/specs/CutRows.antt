-- Bytes of an input, as they come.
use Rattle.std.specs.Prelude.{◌≡◌, ℕ, List, [], ◌∷◌, ◌++◌, length, true, false, codes, refl}
use Rattle.std.proofs.Common.{inl, inr, ap, arith, length-append}
use Rattle.std.proofs.lemmas.List.{length-take}
use Rattle.nn_bytes.specs.Lines.{line_feed}
use Rattle.nn_input.specs.Cut.{HasCome, IsTextOf, KeepsFirst, Lines, TornBytes, ahead, no_bytes}

-- one read gave these bytes, of which those before a place are cut
abbrev read : List ℕ
read = codes "ab" ++ line_feed ∷ codes "cd"

abbrev at_byte : ℕ → TornBytes → Lines
at_byte from torn = record { buffer = read; from = from; to = 5; torn = torn; last = no_bytes }

abbrev behind : TornBytes
behind = record { kept = codes "cd"; blank = false }

none_cut : HasCome 6 read [] (at_byte 0 no_bytes)
none_cut = record { torn = []; joined = refl; each = refl; unbroken = refl; kept = record { kept = refl; blank = refl } }

one_cut : (HasCome 6 read (codes "ab" ∷ []) (at_byte 3 no_bytes)) × (ahead (at_byte 3 no_bytes) ≡ codes "cd")
one_cut = (record { torn = []; joined = refl; each = refl; unbroken = refl; kept = record { kept = refl; blank = refl } }, refl)

all_cut : (HasCome 6 read (codes "ab" ∷ []) (at_byte 5 behind)) × (ahead (at_byte 5 behind) ≡ [])
all_cut = (record { torn = codes "cd"; joined = refl; each = refl; unbroken = refl; kept = record { kept = refl; blank = refl } }, refl)

-- what is torn is not let go
forgotten : HasCome 6 read (codes "ab" ∷ []) (at_byte 5 no_bytes) → ⊥
forgotten h = omega (arith, ap length h.joined, length-append h.torn [], ap length h.kept.kept, length-take 6 h.torn)

-- one byte of three is kept, and that not all are blank
first_byte : KeepsFirst 1 (32 ∷ codes "ab") (record { kept = 32 ∷ []; blank = false })
first_byte = record { kept = refl; blank = refl }

-- a line is told whole, or by its first bytes
whole : IsTextOf 1 (codes "ab") (codes "ab") false
whole = record { is = inl refl; told = refl }

cut_short : IsTextOf 1 (codes "ab") (codes "a") false
cut_short = record { is = inr (omega arith, refl); told = refl }

-- a line is not blank since its first bytes are
not_blank : IsTextOf 1 (codes " b") (codes " ") true → ⊥
not_blank h = cc (h.told)
