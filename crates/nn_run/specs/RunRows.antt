-- What is printed for an input that is not read, and what a run says of its devices, computed.
use Rattle.std.specs.Prelude.{◌≡◌, ℕ, ◌+◌, ◌-◌, Bool, true, false, option_map, List, [], ◌∷◌, ◌++◌, length, map, Some, None, codes, refl}
use Rattle.std.proofs.Common.{zero, suc, arith, sym, ap, inl, inr, true≢false, length-append, ◌∙◌}
use Rattle.nn_bytes.specs.Lines.{line_feed}
use Rattle.nn_device.specs.Device.{Reader, Writer}
use Rattle.nn_input.specs.declared.fault.InputFault.TheVariants.{ReadFailed, TooLong, OutOfMemory}
use Rattle.nn_run.specs.declared.engine.Options.{Options}
use Rattle.nn_image.specs.Front.{behind_mark, bytes_of, image_cut_from, divided, from_header, passed_over, rest_of}
use Rattle.nn_run.specs.Input.{IsWithinLimits, IsTooLong, IsUnread}
use Rattle.nn_run.specs.Start.{scenario_in}
use Rattle.nn_run.specs.Output.{Printed}
use Rattle.nn_run.specs.Run.{Given, IsOutputOfAll, unread, unread_line, NoneFailed, Unfinished, WroteOutput, WroteOutputPrefix, running}

unread_lines : map unread_line (ReadFailed ∷ TooLong ∷ OutOfMemory ∷ [])
    ≡ (codes "fault 8" ++ line_feed ∷ []) ∷ (codes "fault 8" ++ line_feed ∷ []) ∷ (codes "fault 55" ++ line_feed ∷ []) ∷ []
unread_lines = refl

-- none is a listing
status : map (λ fault. (unread fault).status) (ReadFailed ∷ TooLong ∷ OutOfMemory ∷ []) ≡ 1 ∷ 1 ∷ 1 ∷ []
status = refl

-- and each is told in words
told : map (λ fault. (unread fault).error) (ReadFailed ∷ TooLong ∷ OutOfMemory ∷ [])
    ≡ (codes "error: the input could not be read (fault 8; --explain 8 says more)" ++ line_feed ∷ [])
    ∷ (codes "error: the input is too long (fault 8; --explain 8 says more)" ++ line_feed ∷ [])
    ∷ (codes "error: out of memory (fault 55; --explain 55 says more)" ++ line_feed ∷ []) ∷ []
told = refl

-- a reader that has three bytes left
abbrev reader : Bool → Reader
reader failed = record { left = Some (codes "abc"); reads = 0; given = 0; failed = failed; refused = false }

read_failed : IsUnread false (reader false) (reader true) ReadFailed
read_failed = refl

-- none is told that did not fail
not_made_up : IsUnread false (reader false) (reader false) ReadFailed → ⊥
not_made_up h = true≢false (sym h)

-- three bytes are not too many
not_too_long : IsUnread false (reader false) (record { left = Some []; reads = 1; given = 3; failed = false; refused = false }) TooLong → ⊥
not_too_long h = let more = h.0.1 in let many = h.0.3 in omega (arith, more, many)

-- ---- What is too long.

spaces : ℕ → List ℕ
spaces zero = []
spaces (suc n) = 32 ∷ spaces n

size : (n : ℕ) → length (spaces n) ≡ n
unfolding spaces
size zero = refl
size (suc n) = ap suc (size n)

no_mark : (n : ℕ) (line : List ℕ) → behind_mark line (spaces n) ≡ None
unfolding spaces
no_mark zero line = refl
no_mark (suc n) line = no_mark n (line ++ 32 ∷ [])

no_image : (n : ℕ) → from_header (spaces n) ≡ None
unfolding spaces
no_image zero = refl
no_image (suc n) = no_mark n (32 ∷ [])

all_passed : (n : ℕ) → passed_over (spaces n) ≡ n
unfolding passed_over
all_passed n = omega (arith, ap (λ o. length (spaces n) - length (bytes_of o)) (no_image n), size n)

-- one byte more than may be passed over, where an image is asked for, or than a scenario may have
too_long_a_front : IsTooLong true (spaces 16777217)
too_long_a_front = inl (omega (arith, all_passed 16777217))

too_long_a_scenario : IsTooLong false (spaces 16777217)
too_long_a_scenario = inr (omega (arith, size 16777217))

none_left : (n : ℕ) → length (scenario_in true (spaces n)) ≡ 0
unfolding divided
none_left n = ap (λ o. length (rest_of (option_map (image_cut_from true []) o))) (no_image n)

-- as many as may be
fits : IsWithinLimits true (spaces 16777216) × IsWithinLimits false (spaces 16777216)
fits = (
  record {
    front = omega (arith, all_passed 16777216);
    scenario = (let none : length (scenario_in true (spaces 16777216)) ≡ 0 = none_left 16777216 in omega (arith, none));
  },
  record { front = omega arith; scenario = omega (arith, size 16777216) },
)

-- ---- What failed.

-- where memory ran out, no read failed
not_of_a_read : IsUnread false (reader false) (reader true) OutOfMemory → ⊥
not_of_a_read h = true≢false h

readable : (options : Options) → NoneFailed (running options false (reader false) (reader true)) → ⊥
readable options h = true≢false h

-- a writer that got so much
abbrev writer : ℕ → Bool → Writer
writer taken failed = record { contents = None; taken = taken; failed = failed }

-- a failed write is one that was noted
no_write_failed : (options : Options) → WroteOutputPrefix (running options false (reader false) (reader false)) (writer 0 false) (writer 2 false) (record { written = 2 }) → ⊥
no_write_failed options h = true≢false (sym h.prefix.took.caused)

-- ---- What a run wrote.

abbrev memory_line : Bool → Writer
memory_line failed = record { contents = Some (codes "fault 55" ++ line_feed ∷ []); taken = 9; failed = failed }

abbrev unwritten : Writer
unwritten = record { contents = Some []; taken = 0; failed = false }

-- memory ran out, and no read failed
wrote_55 : (options : Options) → WroteOutput (running options false (reader false) (reader false)) unwritten (memory_line false) 1
    (codes "error: out of memory (fault 55; --explain 55 says more)" ++ line_feed ∷ [])
wrote_55 options = record {
  output = unread OutOfMemory;
  right = inr (OutOfMemory, refl, refl);
  took = record { bytes = refl; counted = refl; unfailed = refl };
  ends = refl;
  told = refl;
}

-- a writer that got the line of an input that can't be read
abbrev unread_written : Writer
unread_written = record { contents = Some (codes "fault 8" ++ line_feed ∷ []); taken = 8; failed = false }

wrote_8 : (options : Options) → WroteOutput (running options false (reader false) (reader true)) unwritten unread_written 1
    (codes "error: the input could not be read (fault 8; --explain 8 says more)" ++ line_feed ∷ [])
wrote_8 options = record {
  output = unread ReadFailed;
  right = inr (ReadFailed, refl, refl);
  took = record { bytes = refl; counted = refl; unfailed = refl };
  ends = refl;
  told = refl;
}

-- a line on standard error is of what was written, and a listing has none
not_with_a_line : (given : Given) (writer' : Writer) (ended : ℕ) (h : WroteOutput given unwritten writer' ended (codes "error")) → h.output.error ≡ [] → ⊥
not_with_a_line given writer' ended h none = let e : codes "error" ≡ [] = h.told ∙ none in cc

-- a whole output was written: no write failed
not_with_a_failed_write : (given : Given) (ended : ℕ) (error : List ℕ) → WroteOutput given unwritten (memory_line true) ended error → ⊥
not_with_a_failed_write given ended error h = true≢false h.took.unfailed

-- and all of it is what the writer got
not_with_more_counted : (given : Given) (ended : ℕ) (error text : List ℕ) → length text ≡ 3
    → WroteOutput given unwritten (record { contents = Some text; taken = 4; failed = false }) ended error → ⊥
not_with_more_counted given ended error text three h =
    let n = h.took.counted in
    let m : length text ≡ length h.output.text = ap length h.took.bytes in
    omega (arith, n, m, three)

-- a writer that got the first word of a line
abbrev word : Bool → Writer
word failed = record { contents = Some (codes "fault"); taken = 5; failed = failed }

-- a prefix is not all
not_a_prefix_of_all : Unfinished unwritten (memory_line true) (unread OutOfMemory).text (record { written = 9 }) → ⊥
not_a_prefix_of_all h =
    let w = h.took in
    let e : 9 ≡ length w.prefix + length w.rest = ap length w.whole ∙ length-append w.prefix w.rest in
    omega (arith, e, h.told, w.short)

wrote_a_prefix_of_55 : (options : Options) → WroteOutputPrefix (running options false (reader false) (reader false)) unwritten (word true) (record { written = 5 })
wrote_a_prefix_of_55 options = record {
  output = unread OutOfMemory;
  right = inr (OutOfMemory, refl, refl);
  prefix = record {
    took = record { prefix = codes "fault"; rest = codes " 55" ++ line_feed ∷ []; whole = refl; short = omega arith; bytes = refl; counted = refl; caused = refl };
    told = refl;
  };
}

not_told_of_another_count : (given : Given) → WroteOutputPrefix given unwritten (word true) (record { written = 4 }) → ⊥
not_told_of_another_count given h = let e : 5 ≡ 0 + length h.prefix.took.prefix = h.prefix.took.counted in omega (arith, e, h.prefix.told)

-- the output of all is of what was given, up to the end, and of no more than an input may have
not_of_a_part : (given : Given) (p : Printed) → IsOutputOfAll (record given { after = record { left = Some (codes "c"); reads = 1; given = 2; failed = false; refused = false } }) p → ⊥
not_of_a_part given p h = let e : codes "c" ≡ [] = h.whole in cc

not_of_other_bytes : (options : Options) (p : Printed) (o : IsOutputOfAll (running options false (reader false) (record { left = Some []; reads = 1; given = 3; failed = false; refused = false })) p) → length o.input ≡ 2 → ⊥
not_of_other_bytes options p o two = let e : 3 ≡ 0 + length o.input = o.counted in omega (arith, e, two)
