-- Logs and segments, computed.
use Rattle.std.specs.Prelude.{◌≡◌, ℕ, ◌+◌, ◌^◌, List, [], ◌∷◌, ◌++◌, Ok, Err, refl}
use Rattle.std.proofs.lemmas.Bool.{both_ways, eqb-false, lt-ltb}
use Rattle.std.proofs.lemmas.Option.{none-some}
use Rattle.std.proofs.Common.{sym, lit<}
use Rattle.nn_types.specs.declared.profile.Profile.TheVariants.{One}
use Rattle.nn_types.specs.declared.edit.Edit.TheVariants.{StartSegment, EndSegment, Mkdir, Delete, SetGenstamp}
use Rattle.nn_types.specs.declared.tx.Tx.{Tx}
use Rattle.nn_model.specs.declared.form.Form.TheVariants.{Dir}
use Rattle.nn_types.specs.declared.edit_fault.EditFault.TheVariants.{Exists, BadGeneration}
use Rattle.nn_model.specs.Namespace.{Namespace, no_block, root_alone}
use Rattle.nn_model.specs.Log.{namespace_after, IsLog, run, log_of, CountsUp, AreLawful}
use Rattle.nn_model.specs.NamespaceRows.{tx, a, ab, namespace}

-- ---- A log, and the run of it.

abbrev first_part : List Tx
first_part = tx 1 (StartSegment One) ∷ tx 2 (Mkdir a) ∷ tx 3 (SetGenstamp 1001) ∷ []

abbrev second_part : List Tx
second_part = tx 4 (Delete a) ∷ tx 5 (Mkdir ab) ∷ tx 6 EndSegment ∷ []

abbrev after_first : Namespace
after_first = namespace ((a, Dir) ∷ []) no_block 1001 []

abbrev after_both : Namespace
after_both = namespace ((ab, Dir) ∷ []) no_block 1001 []

-- the second part goes on from the namespace of the first
parts : (namespace_after root_alone first_part ≡ after_first) × (namespace_after after_first second_part ≡ after_both)
    × (namespace_after root_alone (first_part ++ second_part) ≡ after_both)
parts = (refl, refl, refl)

is_a_log : IsLog after_first 3 second_part
is_a_log = (refl, refl, (refl, refl, (refl, refl, tt)))

no_log_of_a_wrong_txid : IsLog root_alone 1 (tx 1 (StartSegment One) ∷ []) → ⊥
no_log_of_a_wrong_txid log = eqb-false 1 2 refl log.0

no_log_over_a_gap : IsLog root_alone 0 (tx 1 (StartSegment One) ∷ tx 3 EndSegment ∷ []) → ⊥
no_log_over_a_gap log = eqb-false 3 2 refl log.2.0

no_log_of_a_refused_edit : IsLog after_first 3 (tx 4 (Mkdir a) ∷ []) → ⊥
no_log_of_a_refused_edit log = none-some Exists (sym log.1)

-- a run stops at the first edit that is refused, and leaves no namespace
runs : (run root_alone [] ≡ Ok root_alone) × (run root_alone (first_part ++ second_part) ≡ Ok after_both)
    × (run root_alone (tx 1 (Mkdir a) ∷ tx 2 (SetGenstamp 1000) ∷ tx 3 (Mkdir a) ∷ []) ≡ Err (2, BadGeneration))
runs = (refl, refl, refl)

-- a log of lawful edits, and one with a stamp that is too great for the formats
lawful : AreLawful (tx 1 (StartSegment One) ∷ tx 2 (SetGenstamp 9223372036854775807) ∷ [])
lawful = (tt, (lit< tt, tt))

not_lawful : (AreLawful (tx 1 (SetGenstamp 9223372036854775808) ∷ []) → ⊥) × (AreLawful (tx 1 (StartSegment One) ∷ tx 2 (SetGenstamp 9223372036854775808) ∷ []) → ⊥)
not_lawful = (λ are. both_ways _ refl (lt-ltb 9223372036854775808 (2 ^ 63) are.0), λ are. both_ways _ refl (lt-ltb 9223372036854775808 (2 ^ 63) are.1.0))

-- ---- Segments: of each only what is new counts.

abbrev marks : ℕ → List Tx
marks txid = tx txid (StartSegment One) ∷ tx (txid + 1) EndSegment ∷ []

counts_up : CountsUp 6 (marks 7)
counts_up = (refl, (refl, tt))

does_not_count_up : (CountsUp 5 (marks 7) → ⊥) × (CountsUp 6 (tx 7 (StartSegment One) ∷ tx 7 EndSegment ∷ []) → ⊥)
does_not_count_up = (λ up. eqb-false 7 6 refl up.0, λ up. eqb-false 7 8 refl up.1.0)

overlapping_segments : log_of 0 (first_part ∷ (tx 2 (Mkdir a) ∷ tx 3 (SetGenstamp 1001) ∷ second_part) ∷ []) ≡ first_part ++ second_part
overlapping_segments = refl

old_segment_passed_over : log_of 0 (marks 1 ∷ marks 1 ∷ marks 3 ∷ []) ≡ marks 1 ++ marks 3
old_segment_passed_over = refl

-- what the base holds already is old
segments_after_a_base : log_of 3 (first_part ∷ second_part ∷ []) ≡ second_part
segments_after_a_base = refl

log_begins_too_high : log_of 0 (marks 2 ∷ []) ≡ []
log_begins_too_high = refl

-- a segment that begins above the next txid adds nothing; where the gap is filled later, what comes then counts
segment_begins_too_high : (log_of 0 (marks 1 ∷ marks 4 ∷ []) ≡ marks 1) × (log_of 0 (marks 1 ∷ marks 5 ∷ marks 3 ∷ []) ≡ marks 1 ++ marks 3)
segment_begins_too_high = (refl, refl)
