-- Texts of which a prefix was written.
use Rattle.std.specs.Prelude.{◌≡◌, true, false, [], ◌∷◌, ◌++◌, length, drop, Some, codes, refl}
use Rattle.std.proofs.Common.{sym, ap, get_or, ◌∙◌, true≢false, arith, length-append}
use Rattle.nn_device.specs.Device.{Writer}
use Rattle.nn_device.specs.Parts.{TookPrefix}
use Rattle.nn_device.specs.declared.writer.OutputFault.TheVariants.{WriteFailed, OutOfMemory}

abbrev unwritten : Writer
unwritten = record { contents = Some (codes "x"); taken = 5; failed = false }

-- two bytes were written, and then a write failed
abbrev failed_after_two : Writer
failed_after_two = record { contents = Some (codes "xab"); taken = 7; failed = true }

-- two bytes were written, and then memory ran out
abbrev ended_after_two : Writer
ended_after_two = record { contents = Some (codes "xab"); taken = 7; failed = false }

two_of_three : TookPrefix unwritten failed_after_two (codes "abc") WriteFailed
two_of_three = record { prefix = codes "ab"; rest = codes "c"; whole = refl; short = omega arith; bytes = refl; counted = refl; caused = refl }

-- where all was written, no write failed
all_is_no_failure : TookPrefix unwritten failed_after_two (codes "ab") WriteFailed → ⊥
all_is_no_failure h = omega (arith, h.counted, h.short, ap length h.whole, length-append h.prefix h.rest)

-- a failed write is noted
not_noted : TookPrefix unwritten ended_after_two (codes "abc") WriteFailed → ⊥
not_noted h = true≢false (sym h.caused)

-- memory may run out before the last byte, and before the first
ran_out : TookPrefix unwritten ended_after_two (codes "abc") OutOfMemory
ran_out = record { prefix = codes "ab"; rest = codes "c"; whole = refl; short = omega arith; bytes = refl; counted = refl; caused = refl }

ran_out_at_once : TookPrefix unwritten unwritten (codes "ab") OutOfMemory
ran_out_at_once = record { prefix = []; rest = codes "ab"; whole = refl; short = omega arith; bytes = refl; counted = refl; caused = refl }

-- where all was written, memory did not run out
all_is_no_refusal : TookPrefix unwritten ended_after_two (codes "ab") OutOfMemory → ⊥
all_is_no_refusal h = omega (arith, h.counted, h.short, ap length h.whole, length-append h.prefix h.rest)

-- where memory ran out, no write failed
no_write_failed : TookPrefix unwritten failed_after_two (codes "abc") OutOfMemory → ⊥
no_write_failed h = true≢false h.caused

-- all bytes that were taken are counted
one_too_few : TookPrefix unwritten (record ended_after_two { taken = 6 }) (codes "abc") OutOfMemory → ⊥
one_too_few h = let e : 3 ≡ length (120 ∷ h.prefix) = ap length h.bytes in omega (arith, e, h.counted)

-- and no other bytes were taken than those of the text
other_bytes : TookPrefix unwritten ended_after_two (codes "acb") OutOfMemory → ⊥
other_bytes h =
    let prefix : codes "ab" ≡ h.prefix = ap (drop 1) h.bytes in
    let text : codes "acb" ≡ codes "ab" ++ h.rest = h.whole ∙ ap (λ t. t ++ h.rest) (sym prefix) in
    let second : 99 ≡ 98 = ap (λ t. get_or t 1 0) text in
    omega (arith, second)
