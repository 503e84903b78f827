-- Texts that were put piece by piece.
use Rattle.std.specs.Prelude.{◌≡◌, true, false, [], ◌++◌, length, drop, Some, codes, refl}
use Rattle.std.proofs.Common.{sym, ap, get_or, ◌∙◌, append-nil, arith, length-append}
use Rattle.nn_device.specs.Device.{Writer}
use Rattle.nn_device.specs.Page.{Page, HasPut, PutsPiece}

abbrev start : Writer
start = record { contents = Some (codes "x"); taken = 5; failed = false }

-- a byte was written
abbrev after_one : Writer
after_one = record { contents = Some (codes "xa"); taken = 6; failed = false }

abbrev page_of_b : Page
page_of_b = record { left = codes "b"; lost = false }

-- what was put is what was written, and what is left
one_of_two : HasPut start (codes "ab") page_of_b after_one
one_of_two = record { prefix = codes "a"; whole = refl; took = record { bytes = refl; counted = refl; unfailed = refl } }

-- nothing that was put is dropped
not_dropped : HasPut start (codes "ab") (record page_of_b { left = [] }) after_one → ⊥
not_dropped h = omega (arith, h.took.counted, ap length h.whole, length-append h.prefix [])

-- and nothing is written twice
not_twice : HasPut start (codes "ab") (record page_of_b { left = codes "ab" }) after_one → ⊥
not_twice h = omega (arith, h.took.counted, ap length h.whole, length-append h.prefix (codes "ab"))

-- behind a failed write the writer has a prefix, whatever is left
failed_after_one : HasPut start (codes "ab") (record { left = []; lost = true }) (record after_one { failed = true })
failed_after_one = record { prefix = codes "a"; rest = codes "b"; whole = refl; short = omega arith; bytes = refl; counted = refl; caused = refl }

-- where all was written, none failed
all_is_no_failure : HasPut start (codes "a") (record { left = []; lost = true }) (record after_one { failed = true }) → ⊥
all_is_no_failure h = omega (arith, h.counted, h.short, ap length h.whole, length-append h.prefix h.rest)

-- a piece comes behind the others, and no other piece does
puts_b : PutsPiece (codes "b") (record page_of_b { left = [] }) after_one page_of_b after_one
puts_b = λ s text h. record { prefix = h.prefix; whole = ap (λ t. t ++ codes "b") (h.whole ∙ append-nil h.prefix); took = h.took }

not_c : PutsPiece (codes "c") (record page_of_b { left = [] }) after_one page_of_b after_one → ⊥
not_c puts =
    let h = puts start (codes "a") (record { prefix = codes "a"; whole = refl; took = record { bytes = refl; counted = refl; unfailed = refl } }) in
    let prefix : codes "a" ≡ h.prefix = ap (drop 1) h.took.bytes in
    let text : codes "ac" ≡ codes "ab" = h.whole ∙ ap (λ t. t ++ codes "b") (sym prefix) in
    let second : 99 ≡ 98 = ap (λ t. get_or t 1 0) text in
    omega (arith, second)
