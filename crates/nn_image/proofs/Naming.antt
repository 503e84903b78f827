-- A number with zeros before it.
use Rattle.std.proofs.Common.{◌≡◌, ℕ, ◌-◌, List, [], ◌++◌, length, replicate, false, Result, Ok, Err, ap, ◌∙◌, append-nil, arith}
use Rattle.std.specs.Prelude.{codes, IfOk}
use Rattle.std.specs.Fmt.{decimal, padded_integral, format_spec, char_count}
use Rattle.nn_image.specs.Text.{image_file_name}

-- as a hole of width 19 writes it
abbrev pub hole : ℕ → List ℕ
hole n = padded_integral (format_spec 32 0 4 19 18446744073709551615) false [] (decimal n)

bare : (m : ℕ) (ds : List ℕ) → replicate (m - 0 - 0) 48 ++ (ds ++ []) ≡ replicate m 48 ++ ds
bare m ds = ap (λ k. replicate {A = ℕ} k 48 ++ (ds ++ [])) (let same : m - 0 - 0 ≡ m = omega arith in same) ∙ ap (λ t. replicate {A = ℕ} m 48 ++ t) (append-nil ds)

filled : (n : ℕ) → hole n ≡ replicate (19 - length (decimal n)) 48 ++ decimal n
unfolding padded_integral char_count
filled n = bare (19 - length (decimal n)) (decimal n)

pub named : (txid : ℕ) → codes "fsimage_" ++ hole txid ≡ image_file_name txid
unfolding image_file_name
named txid = ap (λ ds. codes "fsimage_" ++ ds) (filled txid)

pub named_ok : {A E : Type 0} (bytes : A → List ℕ) (r : Result A E) (text name : List ℕ) → text ≡ name → IfOk r (λ s. bytes s ≡ text) → IfOk r (λ s. bytes s ≡ name)
named_ok bytes (Ok s) text name same h = h ∙ same
named_ok bytes (Err e) text name same h = tt
