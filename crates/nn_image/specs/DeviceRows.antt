-- What is told of a text of which a prefix was written, and of reads that failed.
use Rattle.std.specs.Prelude.{◌≡◌, ℕ, true, false, [], ◌∷◌, ◌++◌, length, Some, Ok, Err, codes, refl}
use Rattle.std.proofs.Common.{sym, ap, inl, inr, true≢false, arith, length-append}
use Rattle.nn_bytes.specs.Lines.{line_feed}
use Rattle.nn_bytes.specs.Pieces.{joined_lines}
use Rattle.nn_bytes.proofs.PieceLemmas.{joined_more}
use Rattle.nn_device.specs.Device.{Reader, Writer}
use Rattle.nn_image.specs.declared.fault.ImageFault.TheVariants.{NotHeader, Truncated, BadLine, ReadFault, OutOfMemory}
use Rattle.nn_image.specs.declared.fault.SaveFault.TheVariants as save
use Rattle.nn_image.specs.Outcome.{ImageFails, IsOfDevice, Noted, IsNoRead}
use Rattle.nn_image.specs.Loading.{StopsAtLine}
use Rattle.nn_image.specs.Saving.{WrotePrefix}

-- ---- writes

abbrev unwritten : Writer
unwritten = record { contents = Some []; taken = 5; failed = false }

-- two bytes were written, and then a write failed
abbrev failed_after_two : Writer
failed_after_two = record { contents = Some (codes "ab"); taken = 7; failed = true }

-- two bytes were written, and then memory ran out
abbrev ended_after_two : Writer
ended_after_two = record { contents = Some (codes "ab"); taken = 7; failed = false }

two_told : WrotePrefix unwritten failed_after_two (codes "abc") (save.WriteFault 2)
two_told = record { took = record { prefix = codes "ab"; rest = codes "c"; whole = refl; short = omega arith; bytes = refl; counted = refl; caused = refl }; told = refl }

-- the bytes of this text are told, and not all that the writer took
all_told : WrotePrefix unwritten failed_after_two (codes "abc") (save.WriteFault 7) → ⊥
all_told h = omega (arith, h.told, h.took.counted)

-- a failed write was noted
not_noted : WrotePrefix unwritten ended_after_two (codes "abc") (save.WriteFault 2) → ⊥
not_noted h = true≢false (sym h.took.caused)

no_memory : WrotePrefix unwritten ended_after_two (codes "abc") save.OutOfMemory
no_memory = record { took = record { prefix = codes "ab"; rest = codes "c"; whole = refl; short = omega arith; bytes = refl; counted = refl; caused = refl }; told = tt }

-- where memory ran out, no write failed
no_failure : WrotePrefix unwritten failed_after_two (codes "abc") save.OutOfMemory → ⊥
no_failure h = true≢false h.took.caused

-- and some bytes are left out
no_memory_behind_all : WrotePrefix unwritten ended_after_two (codes "ab") save.OutOfMemory → ⊥
no_memory_behind_all h = omega (arith, h.took.counted, h.took.short, ap length h.took.whole, length-append h.took.prefix h.took.rest)

-- ---- reads

read_failed : Noted ReadFault false true
read_failed = refl

-- no failed read is made up
made_up : Noted ReadFault false false → ⊥
made_up h = true≢false (sym h)

-- a failed read is told
torn_by_a_read : Noted Truncated false true → ⊥
torn_by_a_read h = true≢false h

no_memory_by_a_read : Noted OutOfMemory false true → ⊥
no_memory_by_a_read h = true≢false h

of_the_text : IsNoRead Truncated
of_the_text = tt

of_a_read : IsNoRead ReadFault → ⊥
of_a_read h = h

-- a fault of the text is the one that the definition gives
given : ImageFails {Y = ℕ} (BadLine 2) (Err (BadLine 2))
given = refl

another_line : ImageFails {Y = ℕ} (BadLine 3) (Err (BadLine 2)) → ⊥
another_line h = cc

no_fault : ImageFails {Y = ℕ} Truncated (Ok 5) → ⊥
no_fault h = cc

-- a fault of the device comes whatever the definition gives
whatever : ImageFails {Y = ℕ} ReadFault (Ok 5) × ImageFails {Y = ℕ} OutOfMemory (Err (BadLine 2))
whatever = (tt, tt)

of_the_device : IsOfDevice ReadFault × IsOfDevice OutOfMemory
of_the_device = (inl refl, inr refl)

not_of_the_device : IsOfDevice Truncated → ⊥
not_of_the_device (inl e) = cc
not_of_the_device (inr e) = cc

-- of a reader that fails no line was read, so a line has no fault
nothing_read : (before after : Reader) → after.given ≡ before.given → StopsAtLine before after NotHeader → ⊥
nothing_read before after none h =
    omega (
      arith,
      none,
      h.came.counted,
      length-append (joined_lines (h.earlier ++ h.line ∷ [])) h.behind,
      ap length (joined_more h.earlier h.line),
      length-append (joined_lines h.earlier) (h.line ++ line_feed ∷ []),
      length-append h.line (line_feed ∷ []),
    )

-- one byte too many was read
too_far : (before after : Reader) (h : StopsAtLine before after NotHeader) → length h.behind ≡ 65537 → ⊥
too_far before after h is = omega (arith, is, h.few)
