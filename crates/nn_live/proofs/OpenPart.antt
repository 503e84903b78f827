-- Where all parts of a log are segments, the lines of the one in hand have no end mark, and a start mark finds none in hand.
use Rattle.std.proofs.Common.{◌≡◌, ℕ, ◌≤◌, ◌+◌, ◌==◌, ◌&&◌, ◌||◌, drop, Bool, true, false, cond, List, [], ◌∷◌, ◌++◌, length, map, Result, Ok, Err, refl, sym, subst, ap, ◌∙◌, arith, append_assoc, append-nil}
use Rattle.std.specs.List.{All}
use Rattle.std.proofs.lemmas.Bool.{eqb-true, ne_eqb}
use Rattle.std.proofs.lemmas.List.{nil_from_length}
use Rattle.std.proofs.lemmas.List.Elements.{All-nil, All-head, All-tail}
use Rattle.nn_types.specs.declared.tx.Tx.{Tx}
use Rattle.nn_edits.specs.Reading.{edit_of_line}
use Rattle.nn_bytes.specs.Pieces.{is_unbroken, joined_lines}
use Rattle.nn_segment.specs.Segment.{Segment, is_start, is_end, ends_once}
use Rattle.nn_segment.specs.declared.fault.SegmentFault.{SegmentFault}
use Rattle.nn_segment.proofs.SegmentLemmas.{read_is_segment}
use Rattle.nn_scenario.specs.Cut.{EditLine, Part, AreRead, no_lines, with_line, parts_from, part_name, segment_of, with_segment, segments_from}
use Rattle.nn_scenario.specs.declared.segments.PartFault.{PartFault}
use Rattle.nn_scenario.proofs.SegmentLemmas.{one_more_read}
use Rattle.nn_live.proofs.Came.{same_txs}
use Rattle.nn_live.proofs.Twice.{not_both}

-- the first of the parts is a segment, and the others are the rest
pub record FirstSegment (k : ℕ) (part : Part) (parts : List Part) (segments : List Segment) : Type 0 where
  pub first : Segment
  pub later : List Segment
  pub is : segment_of part ≡ Ok first
  pub others : segments_from (k + 1) parts ≡ Ok later
  pub are : first ∷ later ≡ segments

pub first_segment : (k : ℕ) (part : Part) (parts : List Part) (segments : List Segment) → segments_from k (part ∷ parts) ≡ Ok segments → FirstSegment k part parts segments
unfolding segments_from
first_segment k part parts segments is = at (segment_of part) refl (segments_from (k + 1) parts) refl is
  where
    at : (r : Result Segment SegmentFault) → segment_of part ≡ r → (q : Result (List Segment) PartFault) → segments_from (k + 1) parts ≡ q → with_segment k r q ≡ Ok segments
        → FirstSegment k part parts segments
    at (Ok g) e (Ok later) f h = record { first = g; later = later; is = e; others = f; are = cc }
    at (Ok g) e (Err bad) f h = absurd (cc)
    at (Err fault) e q f h = absurd (cc)

-- ---- The lines of a segment that has not ended.

-- a line is read as its edit
pub record IsReadLine (l : EditLine) : Type 0 where
  pub unbroken : is_unbroken l.text ≡ true
  pub is : edit_of_line l.text ≡ Ok l.tx
  pub from_one : 1 ≤ l.tx.txid

abbrev pub NoEnd : List Tx → Type 0
NoEnd [] = Unit {0}
NoEnd (tx ∷ txs) = (is_end tx.edit ≡ false) × NoEnd txs

pub no_end_more : (txs : List Tx) (tx : Tx) → NoEnd txs → is_end tx.edit ≡ false → NoEnd (txs ++ tx ∷ [])
no_end_more [] tx none goes = (goes, tt)
no_end_more (x ∷ txs) tx none goes = (none.0, no_end_more txs tx none.1 goes)

-- whether what follows a transaction ends once, by its marks
abbrev goes_on : Bool → Bool → List Tx → Bool
goes_on start end txs = cond (start || end) (end && (length txs == 0)) (ends_once txs)

never_ends : (txs : List Tx) → NoEnd txs → ends_once txs ≡ true → ⊥
never_ends [] none ends = absurd (cc)
never_ends (tx ∷ txs) none ends = at (never_ends txs none.1) (is_start tx.edit) (ap (λ b. goes_on (is_start tx.edit) b txs) (sym none.0) ∙ ends)
  where
    at : (ends_once txs ≡ true → ⊥) → (a : Bool) → goes_on a false txs ≡ true → ⊥
    at later true e = absurd (cc)
    at later false e = later e

-- nor where a start mark follows
start_inside : (txs : List Tx) (tx : Tx) (rest : List Tx) → NoEnd txs → is_start tx.edit ≡ true → ends_once (txs ++ tx ∷ rest) ≡ true → ⊥
start_inside [] tx rest none starts ends = at (is_end tx.edit) refl (ap (λ a. goes_on a (is_end tx.edit) rest) (sym starts) ∙ ends)
  where
    at : (b : Bool) → is_end tx.edit ≡ b → goes_on true b rest ≡ true → ⊥
    at true e f = absurd (not_both tx.edit starts e)
    at false e f = absurd (cc)
start_inside (x ∷ txs) tx rest none starts ends =
    at (start_inside txs tx rest none.1 starts) (is_start x.edit) (ap (λ b. goes_on (is_start x.edit) b (txs ++ tx ∷ rest)) (sym none.0) ∙ ends)
  where
    at : (ends_once (txs ++ tx ∷ rest) ≡ true → ⊥) → (a : Bool) → goes_on a false (txs ++ tx ∷ rest) ≡ true → ⊥
    at later true e = absurd (cc)
    at later false e = later e

pub read_more : (part : Part) (l : EditLine) → AreRead part → IsReadLine l → AreRead (with_line part l)
read_more part l are is = one_more_read part l.text l.tx are is.unbroken is.is is.from_one

-- a part that is a segment ends once
part_ends : (part : Part) (g : Segment) → AreRead part → segment_of part ≡ Ok g → ends_once (drop 1 part.txs) ≡ true
part_ends part g are is =
    subst (λ txs. ends_once (drop 1 txs) ≡ true) (same_txs part g are is) (read_is_segment (part_name part.txs) part.bytes g is).0.ends

-- the lines in hand and some that follow end once
record EndsOnce (part : Part) : Type 0 where
  later : List Tx
  ends : ends_once (drop 1 (part.txs ++ later)) ≡ true

ends_later : (lines : List EditLine) (part : Part) (k : ℕ) (segments : List Segment) → AreRead part → All IsReadLine lines → segments_from k (parts_from part lines) ≡ Ok segments
    → (length part.txs == 0) ≡ false → EndsOnce part
unfolding parts_from
ends_later [] part k segments are all is some =
    let g = first_segment k part [] segments (ap (λ b. segments_from k (cond b [] (part ∷ []))) (sym some) ∙ is) in
    record { later = []; ends = subst (λ txs. ends_once (drop 1 txs) ≡ true) (sym (append-nil part.txs)) (part_ends part g.first are g.is) }
ends_later (l ∷ lines) part k segments are all is some = at (is_end l.tx.edit) (ends_later lines) is
  where
    now : AreRead (with_line part l)
    now = read_more part l are (All-head IsReadLine l lines all)

    others : All IsReadLine lines
    others = All-tail IsReadLine l lines all

    at : (b : Bool) → ((p : Part) (j : ℕ) (gs : List Segment) → AreRead p → All IsReadLine lines → segments_from j (parts_from p lines) ≡ Ok gs → (length p.txs == 0) ≡ false → EndsOnce p)
        → segments_from k (cond b (with_line part l ∷ parts_from no_lines lines) (parts_from (with_line part l) lines)) ≡ Ok segments → EndsOnce part
    at true rest e =
        let g = first_segment k (with_line part l) (parts_from no_lines lines) segments e in
        record { later = l.tx ∷ []; ends = part_ends (with_line part l) g.first now g.is }
    at false rest e =
        let r = rest (with_line part l) k segments now others e (longer part.txs) in
        record { later = l.tx ∷ r.later; ends = subst (λ txs. ends_once (drop 1 txs) ≡ true) (append_assoc part.txs (l.tx ∷ []) r.later) r.ends }
      where
        longer : (txs : List Tx) → (length (txs ++ l.tx ∷ []) == 0) ≡ false
        longer [] = refl
        longer (x ∷ txs) = ne_eqb (length (x ∷ (txs ++ l.tx ∷ []))) 0 (λ z. absurd (omega (arith, z)))

-- a part without transactions has no bytes
no_part : (part : Part) → AreRead part → (length part.txs == 0) ≡ true → part ≡ no_lines
no_part part are none = at are.lines are.joined (are.reads ∙ ap (map Ok) (nil_from_length part.txs (eqb-true _ _ none)))
  where
    at : (lines : List (List ℕ)) → part.bytes ≡ joined_lines lines → map edit_of_line lines ≡ [] → part ≡ no_lines
    at [] joined reads = λ j. record { bytes = joined j; txs = nil_from_length part.txs (eqb-true _ _ none) j }
    at (line ∷ lines) joined reads = absurd (cc)

-- where a start mark comes in a run without a fault, none are in hand
pub start_alone : (part : Part) (l : EditLine) (lines : List EditLine) (k : ℕ) (segments : List Segment) → AreRead part → NoEnd part.txs → IsReadLine l → All IsReadLine lines
    → is_start l.tx.edit ≡ true → segments_from k (parts_from (with_line part l) lines) ≡ Ok segments → part ≡ no_lines
start_alone part l lines k segments are none is all starts ends = at part.txs refl
  where
    inside : (x : Tx) (txs : List Tx) → part.txs ≡ x ∷ txs → ⊥
    inside x txs e =
        let some : (length (part.txs ++ l.tx ∷ []) == 0) ≡ false = ap (λ ts. length (ts ++ l.tx ∷ []) == 0) e ∙ ne_eqb _ 0 (λ z. absurd (omega (arith, z))) in
        let once = ends_later lines (with_line part l) k segments (read_more part l are is) all ends some in
        let other : ends_once (txs ++ l.tx ∷ once.later) ≡ true =
        sym (ap ends_once (append_assoc txs (l.tx ∷ []) once.later)) ∙ ap (λ ts. ends_once (drop 1 ((ts ++ l.tx ∷ []) ++ once.later))) (sym e) ∙ once.ends in
        start_inside txs l.tx once.later (subst NoEnd e none).1 starts other

    at : (txs : List Tx) → part.txs ≡ txs → part ≡ no_lines
    at [] e = no_part part are (ap (λ ts. length ts == 0) e)
    at (x ∷ txs) e = absurd (inside x txs e)

-- and at its end none are
pub none_left : (part : Part) (k : ℕ) (segments : List Segment) → AreRead part → NoEnd part.txs → segments_from k (parts_from part []) ≡ Ok segments → (part ≡ no_lines) × (segments ≡ [])
unfolding parts_from segments_from
none_left part k segments are none is = at (length part.txs == 0) refl
  where
    own : (r : Result (List Segment) PartFault) (x y : List Segment) → r ≡ Ok x → r ≡ Ok y → y ≡ x
    own r x y e f = cc

    first_no_end : (txs : List Tx) → NoEnd txs → ends_once (drop 1 txs) ≡ true → ⊥
    first_no_end [] n e = absurd (cc)
    first_no_end (x ∷ txs) n e = never_ends txs n.1 e

    at : (b : Bool) → (length part.txs == 0) ≡ b → (part ≡ no_lines) × (segments ≡ [])
    at true e = (no_part part are e, own _ [] segments refl (ap (λ c. segments_from k (cond c [] (part ∷ []))) (sym e) ∙ is))
    at false e =
        let once = ends_later [] part k segments are (All-nil IsReadLine) is e in
        let g = first_segment k part [] segments (ap (λ c. segments_from k (cond c [] (part ∷ []))) (sym e) ∙ is) in
        absurd (first_no_end part.txs none (part_ends part g.first are g.is))
