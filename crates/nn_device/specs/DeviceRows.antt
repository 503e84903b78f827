-- Reads and writes of devices whose bytes are known.
use Rattle.std.specs.Prelude.{◌≡◌, ◌<◌, ◌≤◌, ◌⊎◌, ◌^◌, ℕ, true, false, Some, codes, refl}
use Rattle.std.proofs.Common.{sym, inl, inr, true≢false, arith}
use Rattle.nn_device.specs.Device.{Reader, Writer, Gave, FailedToRead, GaveOn, FailedToReadOn, Took, FailedToWrite}

abbrev unread : Reader
unread = record { left = Some (codes "abc"); reads = 0; given = 0; failed = false; refused = false }

abbrev half_read : Reader
half_read = record { left = Some (codes "c"); reads = 1; given = 2; failed = false; refused = false }

abbrev failed_reader : Reader
failed_reader = record { left = Some (codes "c"); reads = 1; given = 2; failed = true; refused = true }

abbrev unwritten : Writer
unwritten = record { contents = Some (codes "x"); taken = 7; failed = false }

abbrev written : Writer
written = record { contents = Some (codes "xabc"); taken = 10; failed = false }

abbrev torn : Writer
torn = record { contents = Some (codes "xab"); taken = 9; failed = true }

-- two bytes were given
gave_two : Gave unread half_read 2
gave_two = record { open_before = refl; open_after = refl; unrefused = refl; read = refl; counted = refl; bounded = omega arith }

-- no read that gave bytes notes a failure
no_failure_noted : Gave unread failed_reader 2 → ⊥
no_failure_noted h = true≢false h.open_after

-- a reader that failed gives nothing more
fails_for_good : Gave failed_reader failed_reader 0 → ⊥
fails_for_good h = true≢false h.open_before

-- all bytes that were given are counted
one_too_few : Gave unread half_read 1 → ⊥
one_too_few h = let e : 2 ≡ 1 = h.counted in omega (arith, e)

-- each read that gave bytes is counted
not_read : Gave unread (record half_read { reads = 0 }) 2 → ⊥
not_read h = let e : 0 ≡ 1 = h.read in omega (arith, e)

-- a failed read gives nothing, and is counted
failed_read : FailedToRead half_read (record failed_reader { reads = 2 })
failed_read = record { noted = refl; read = inr (refl, refl); counted = refl; why = inl (inl refl) }

-- a reader that was given up is not read
abbrev read_so_often : Reader
read_so_often = record half_read { reads = 2 ^ 24 }

given_up : FailedToRead read_so_often (record read_so_often { failed = true })
given_up = record { noted = refl; read = inl refl; counted = refl; why = inr (omega arith) }

-- no read fails of itself: the device refused one, or the reader had failed, or had given all that it may
not_of_itself : FailedToRead half_read (record failed_reader { refused = false }) → ⊥
not_of_itself h = by h.why
  where
    by : ((false ≡ true) ⊎ ((false ≡ true) ⊎ (2 ^ 62 ≤ 2))) ⊎ (2 ^ 24 ≤ 1) → ⊥
    by (inl (inl e)) = true≢false (sym e)
    by (inl (inr (inl e))) = true≢false (sym e)
    by (inl (inr (inr more))) = omega (arith, more)
    by (inr more) = omega (arith, more)

not_of_itself_on : FailedToReadOn half_read (record failed_reader { refused = false }) → ⊥
not_of_itself_on h = by h.why
  where
    by : (false ≡ true) ⊎ ((false ≡ true) ⊎ (2 ^ 62 ≤ 2)) → ⊥
    by (inl e) = true≢false (sym e)
    by (inr (inl e)) = true≢false (sym e)
    by (inr (inr more)) = omega (arith, more)

-- a read that gave bytes was not refused
not_refused : Gave unread (record half_read { refused = true }) 2 → ⊥
not_refused h = true≢false h.unrefused

not_refused_on : GaveOn unread (record half_read { reads = 0; refused = true }) 2 → ⊥
not_refused_on h = true≢false h.unrefused

-- a failed read is not made again
read_again : FailedToRead failed_reader (record failed_reader { reads = 2 }) → ⊥
read_again h = neither h.read where
  neither : (◌≡◌ {A = ℕ} 2 1) ⊎ ((◌≡◌ {A = ℕ} 2 2) × (true ≡ false)) → ⊥
  neither (inl e) = omega (arith, e)
  neither (inr more) = true≢false more.1

-- an end is no failed read
end_is_no_failure : FailedToRead half_read half_read → ⊥
end_is_no_failure h = true≢false (sym h.noted)

-- a read that is not counted gave two bytes, or failed
gave_two_on : GaveOn unread (record half_read { reads = 0 }) 2
gave_two_on = record { open_before = refl; open_after = refl; unrefused = refl; read = refl; counted = refl; bounded = omega arith }

failed_on : FailedToReadOn half_read failed_reader
failed_on = record { noted = refl; read = refl; counted = refl; why = inl refl }

-- however many there are, they give no reader up
none_is_counted : GaveOn unread half_read 2 → ⊥
none_is_counted h = let e : 1 ≡ 0 = h.read in omega (arith, e)

no_failed_one_is : FailedToReadOn half_read (record failed_reader { reads = 2 }) → ⊥
no_failed_one_is h = let e : 2 ≡ 1 = h.read in omega (arith, e)

-- but its bytes are
one_too_few_on : GaveOn unread (record half_read { reads = 0; given = 1 }) 2 → ⊥
one_too_few_on h = let e : 1 ≡ 2 = h.counted in omega (arith, e)

-- a failure is noted, and gives nothing
fails_for_good_on : GaveOn failed_reader failed_reader 0 → ⊥
fails_for_good_on h = true≢false h.open_before

no_failure_noted_on : GaveOn unread (record failed_reader { reads = 0 }) 2 → ⊥
no_failure_noted_on h = true≢false h.open_after

end_is_no_failure_on : FailedToReadOn half_read half_read → ⊥
end_is_no_failure_on h = true≢false (sym h.noted)

failure_gives_nothing : FailedToReadOn half_read (record failed_reader { given = 3 }) → ⊥
failure_gives_nothing h = let e : 3 ≡ 2 = h.counted in omega (arith, e)

-- the whole text was taken
took_all : Took unwritten written (codes "abc")
took_all = record { bytes = refl; counted = refl; unfailed = refl }

-- two bytes of three were taken
took_two : FailedToWrite unwritten torn (codes "abc") 2
took_two = record { short = omega arith; bytes = refl; counted = refl; noted = refl }

-- where all was taken, no write failed
all_is_no_failure : FailedToWrite unwritten torn (codes "ab") 2 → ⊥
all_is_no_failure h = let less : 2 < 2 = h.short in omega (arith, less)

-- a failed write is noted
not_noted : FailedToWrite unwritten (record torn { failed = false }) (codes "abc") 2 → ⊥
not_noted h = true≢false (sym h.noted)

-- an output that failed before still says so
stays_failed : Took (record unwritten { failed = true }) written (codes "abc") → ⊥
stays_failed h = true≢false (sym h.unfailed)
