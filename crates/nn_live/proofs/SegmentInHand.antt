-- The edits in hand of the code are those of the definition's service.
use Rattle.std.proofs.Common.{◌≡◌, ℕ, ◌+◌, ◌≤◌, ◌<◌, ◌==◌, Bool, List, [], ◌∷◌, ◌++◌, true, false, cond, None, Some, Result, Ok, Err, length, drop, map, refl, sym, subst, ap, ap₂, ◌∙◌, arith, length-append}
use Rattle.std.proofs.lemmas.Bool.{eqb-true, ne_eqb}
use Rattle.std.proofs.lemmas.List.{length-map, nil_from_length}
use Rattle.nn_bytes.specs.Lines.{line_feed}
use Rattle.nn_types.specs.declared.tx.Tx.{Tx}
use Rattle.nn_edits.specs.Reading.{edit_of_line}
use Rattle.nn_bytes.specs.Pieces.{joined_lines}
use Rattle.nn_segment.specs.Segment.{Segment, IsSegment, is_end, starts, ends_once, last_txid, max_bytes}
use Rattle.nn_segment.specs.declared.fault.SegmentFault.{SegmentFault}
use Rattle.nn_segment.proofs.SegmentLemmas.{read_is_segment}
use Rattle.nn_scenario.specs.Checking.{SegmentCheck, AreSegments, IsInHand, IsCheckOf}
use Rattle.nn_scenario.specs.Cut.{EditLine, Part, no_lines, with_line, last_part, part_name, segment_of, with_segment, segments_from}
use Rattle.nn_scenario.specs.Reading.{Reading, with_edit_line}
use Rattle.nn_scenario.specs.declared.segments.PartFault.{PartFault}
use Rattle.nn_scenario.specs.declared.steps.Step.TheVariants as step
use Rattle.nn_scenario.proofs.CheckLemmas.{has_no_end}
use Rattle.nn_live.specs.Serving.{SegmentInHand, HasRead, IsAllOf, HasPart, part_alone}

-- ---- One more edit.

last_added : (txs : List Tx) (tx : Tx) → last_txid (txs ++ tx ∷ []) ≡ tx.txid
last_added [] tx = refl
last_added (t ∷ []) tx = refl
last_added (t ∷ u ∷ txs) tx = last_added (u ∷ txs) tx

module _ (part : Part) (line : EditLine) where
  longer : length part.bytes ≤ length (with_line part line).bytes
  longer = omega (arith, length-append (part.bytes ++ line.text) (line_feed ∷ []), length-append part.bytes line.text)

  pub one_more_edit : (x : SegmentInHand) (c : SegmentCheck) (txs : List Tx) → HasPart part x → IsCheckOf (with_edit_line (part_alone part) line) c
      → (length (with_line part line).bytes ≤ max_bytes → x.txs ≡ part.txs → txs ≡ part.txs ++ line.tx ∷ [])
      → HasRead (with_edit_line (part_alone part) line) (with_line part line) (record { check = c; txs = txs; edits = x.edits + 1; last = line.tx.txid })
  one_more_edit x c txs has check kept = record {
    check = check;
    whole = λ short. kept short (has.whole (omega (arith, short, longer)));
    edits = ap (λ k. k + 1) has.edits ∙ sym (length-append part.txs (line.tx ∷ []));
    last = sym (last_added part.txs line.tx);
  }

-- what was read with one more line, which is an end mark or not
abbrev closed : Part → EditLine → Reading
closed part line = record { parts = with_line part line ∷ []; in_hand = no_lines; steps = step.Edit ∷ [] }

abbrev going_on : Part → EditLine → Reading
going_on part line = record { parts = []; in_hand = with_line part line; steps = step.Edit ∷ [] }

-- where the check says that they are too long, they are
pub too_long : (part : Part) (line : EditLine) (c : SegmentCheck) → IsCheckOf (with_edit_line (part_alone part) line) c → true ≡ (c.room == 0) → length (with_line part line).bytes ≤ max_bytes → ⊥
too_long part line c check full short = at (is_end line.tx.edit) refl
  where
    none : c.room ≡ 0
    none = eqb-true c.room 0 (sym full)

    at : (b : Bool) → is_end line.tx.edit ≡ b → ⊥
    at true e =
        let is : with_edit_line (part_alone part) line ≡ closed part line = ap (λ b. cond b (closed part line) (going_on part line)) e in
        let room = (subst (λ (r : Reading). IsCheckOf r c) is check).room in
        absurd (omega (arith, room, none))
    at false e =
        let is : with_edit_line (part_alone part) line ≡ going_on part line = ap (λ b. cond b (closed part line) (going_on part line)) e in
        let room = (subst (λ (r : Reading). IsCheckOf r c) is check).room in
        absurd (omega (arith, room, none, short))

-- ---- What the segment is.

module _ (part : Part) where
  -- one part alone is this segment, or has this fault
  one_part : (r : Result Segment SegmentFault) (segments : List Segment) → with_segment 1 r (Ok []) ≡ Ok segments → (g : Segment) × (r ≡ Ok g) × (segments ≡ g ∷ [])
  one_part (Ok g) segments e = (g, refl, grind (arith, e))
  one_part (Err fault) segments e = absurd (cc)

  one_fault : (r : Result Segment SegmentFault) (bad : PartFault) → with_segment 1 r (Ok []) ≡ Err bad → r ≡ Err bad.fault
  one_fault (Ok g) bad e = absurd (cc)
  one_fault (Err fault) bad e = grind (arith, e)

  cut_one : segments_from 1 (part ∷ []) ≡ with_segment 1 (segment_of part) (Ok [])
  unfolding segments_from
  cut_one = refl

  pub is_bad : (bad : PartFault) → AreSegments (part ∷ []) (Some bad) → segment_of part ≡ Err bad.fault
  is_bad bad all = one_fault (segment_of part) bad (sym cut_one ∙ all [])

  pub is_good : AreSegments (part ∷ []) None → (g : Segment) × (segment_of part ≡ Ok g) × IsSegment g × (g.txs ≡ part.txs) × (length part.bytes ≤ max_bytes)
  is_good (segments, ok, txs) =
      let one = one_part (segment_of part) segments (sym cut_one ∙ ok) in
      let g = one.0 in
      let read = read_is_segment (part_name part.txs) part.bytes g one.1 in
      let same : map (λ (s : Segment). s.txs) (g ∷ []) ≡ map (λ (p : Part). p.txs) (part ∷ []) = subst (λ (gs : List Segment). map (λ (s : Segment). s.txs) gs ≡ map (λ (p : Part). p.txs) (part ∷ [])) one.2 txs in
      (g, one.1, read.0, grind (arith, same), subst (λ (b : List ℕ). length b ≤ max_bytes) read.2 read.0.short)

-- ---- No end mark came.

-- edits that have not ended are no segment
pub has_no_mark : (part : Part) (x : SegmentInHand) → HasPart part x → (g : Segment) → IsSegment g → g.txs ≡ part.txs → ⊥
has_no_mark part x has g is same = at part.txs has.check.in_hand same
  where
    at : (txs : List Tx) → IsInHand txs x.check → g.txs ≡ txs → ⊥
    at [] h e = let bad : starts [] ≡ true = subst (λ (ts : List Tx). starts ts ≡ true) e is.starts in absurd (cc)
    at (t ∷ later) h e =
        let once : ends_once later ≡ true = subst (λ (ts : List Tx). ends_once (drop 1 ts) ≡ true) e is.ends in
        let none = has_no_end later h.not_ended in
        absurd (cc)

-- no edits are no bytes
pub no_edits : (part : Part) (x : SegmentInHand) → HasPart part x → x.edits ≡ 0 → part ≡ no_lines
no_edits part x has none =
    let read = has.check.read in
    let txs : part.txs ≡ [] = nil_from_length part.txs (sym has.edits ∙ none) in
    let lines : read.lines ≡ [] = nil_from_length read.lines (sym (length-map read.lines edit_of_line) ∙ ap length read.reads ∙ length-map part.txs Ok ∙ ap length txs) in
    ap₂ (λ (b : List ℕ) (ts : List Tx). record { bytes = b; txs = ts }) (read.joined ∙ ap joined_lines lines) txs

-- what was put behind edits in hand, where that is no end mark, is in hand with them
pub still_open : (part : Part) (line : EditLine) (x : SegmentInHand) → is_end line.tx.edit ≡ false → HasRead (with_edit_line (part_alone part) line) (with_line part line) x → HasPart (with_line part line) x
still_open part line x isnt has =
    let is : with_edit_line (part_alone part) line ≡ going_on part line = ap (λ b. cond b (closed part line) (going_on part line)) isnt in
    let check = subst (λ (r : Reading). IsCheckOf r x.check) is has.check in
    record {
      check = record { read = check.read; room = check.room; lines = check.lines; in_hand = check.in_hand; ended = check.ended; parts = check.parts };
      whole = has.whole;
      edits = has.edits;
      last = has.last;
    }

-- and with an end mark they are all that was read
pub now_ended : (part : Part) (line : EditLine) → is_end line.tx.edit ≡ true → IsAllOf (with_line part line) (with_edit_line (part_alone part) line)
now_ended part line ends =
    let is : with_edit_line (part_alone part) line ≡ closed part line = ap (λ b. cond b (closed part line) (going_on part line)) ends in
    ap (λ (r : Reading). r.parts ++ last_part r.in_hand) is

-- edits in hand are all that was read
pub all_alone : (part : Part) (x : SegmentInHand) → HasPart part x → 0 < x.edits → IsAllOf part (part_alone part)
all_alone part x has some = ap (λ b. cond b [] (part ∷ [])) (ne_eqb (length part.txs) 0 (λ none. absurd (omega (arith, some, has.edits, none))))
