-- What is a segment: two marks, and for each clause an example that breaks it.
use Rattle.std.specs.Prelude.{◌≡◌, ◌≤◌, ℕ, List, [], ◌∷◌, length, map, true, Ok, codes, refl}
use Rattle.std.proofs.Common.{arith, sym, ap, get_or, lit<, true≢false}
use Rattle.nn_types.specs.declared.profile.Profile.TheVariants.{One}
use Rattle.nn_types.specs.declared.edit.Edit.TheVariants.{StartSegment, EndSegment, Mkdir, Append}
use Rattle.nn_types.specs.declared.tx.Tx.{Tx}
use Rattle.nn_segment.specs.Name.{digits, segment_file_name}
use Rattle.nn_segment.specs.Lines.{is_ended, reads_of}
use Rattle.nn_segment.specs.Segment.{Segment, IsSegment, max_bytes}

abbrev start : ℕ → Tx
start txid = record { txid = txid; edit = StartSegment One }

abbrev mkdir : ℕ → Tx
mkdir txid = record { txid = txid; edit = Mkdir (codes "a" ∷ []) }

abbrev last : ℕ → Tx
last txid = record { txid = txid; edit = EndSegment }

abbrev marks : List Tx
marks = start 1 ∷ last 2 ∷ []

abbrev one_to_two : List ℕ
one_to_two = codes "edits_0000000000000000001-0000000000000000002"

abbrev segment : List ℕ → List ℕ → List Tx → Segment
segment name bytes txs = record { name = name; bytes = bytes; txs = txs }

-- whatever else is on their lines
two_marks : (bytes : List ℕ) → length bytes ≤ max_bytes → is_ended bytes ≡ true → reads_of bytes ≡ map Ok marks → IsSegment (segment one_to_two bytes marks)
unfolding segment_file_name digits
two_marks bytes short ended lines = record {
  short = short;
  ended = ended;
  lines = lines;
  counts_up = (refl, (refl, tt));
  named = record { from_one = omega arith; in_order = omega arith; in_range = lit< tt; spelled = refl };
  starts = refl;
  ends = refl;
  keeps_profile = refl;
}

not_longer : (bytes : List ℕ) → length bytes ≡ 16777217 → IsSegment (segment one_to_two bytes marks) → ⊥
not_longer bytes long h = omega (arith, h.short, long)

not_torn : IsSegment (segment one_to_two (codes "{}") marks) → ⊥
not_torn h = true≢false (sym h.ended)

-- no line, no transaction
not_of_other_lines : IsSegment (segment one_to_two [] marks) → ⊥
unfolding reads_of
not_of_other_lines h = let e : 0 ≡ 2 = ap length h.lines in omega (arith, e)

not_with_a_gap : (bytes : List ℕ) → IsSegment (segment one_to_two bytes (start 1 ∷ last 3 ∷ [])) → ⊥
not_with_a_gap bytes h = let e : 3 ≡ 2 = h.counts_up.1.0 in omega (arith, e)

not_from_another_txid : (bytes : List ℕ) → IsSegment (segment one_to_two bytes (start 2 ∷ last 3 ∷ [])) → ⊥
unfolding segment_file_name digits
not_from_another_txid bytes h = let e : 49 ≡ 50 = ap (λ (text : List ℕ). get_or text 24 0) h.named.spelled in omega (arith, e)

not_from_zero : (name bytes : List ℕ) → IsSegment (segment name bytes (start 0 ∷ last 1 ∷ [])) → ⊥
not_from_zero name bytes h = let e : 1 ≤ 0 = h.named.from_one in omega (arith, e)

not_without_a_start_mark : (bytes : List ℕ) → IsSegment (segment one_to_two bytes (mkdir 1 ∷ last 2 ∷ [])) → ⊥
not_without_a_start_mark bytes h = true≢false (sym h.starts)

not_without_an_end_mark : (bytes : List ℕ) → IsSegment (segment one_to_two bytes (start 1 ∷ mkdir 2 ∷ [])) → ⊥
not_without_an_end_mark bytes h = true≢false (sym h.ends)

not_with_a_mark_inside : (name bytes : List ℕ) → IsSegment (segment name bytes (start 1 ∷ start 2 ∷ last 3 ∷ [])) → ⊥
not_with_a_mark_inside name bytes h = true≢false (sym h.ends)

not_behind_an_end_mark : (name bytes : List ℕ) → IsSegment (segment name bytes (start 1 ∷ last 2 ∷ last 3 ∷ [])) → ⊥
not_behind_an_end_mark name bytes h = true≢false (sym h.ends)

-- an append is one of profile 2
not_with_an_append : (name bytes : List ℕ) → IsSegment (segment name bytes (start 1 ∷ record { txid = 2; edit = Append (codes "a" ∷ []) } ∷ last 3 ∷ [])) → ⊥
not_with_an_append name bytes h = true≢false (sym h.keeps_profile)
