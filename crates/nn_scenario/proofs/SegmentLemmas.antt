-- Parts of the log as segments.
use Rattle.std.proofs.Common.{◌≡◌, ℕ, ◌+◌, ◌≤◌, List, [], ◌∷◌, ◌++◌, length, map, true, Some, max, None, Result, Ok, Err, refl, sym, ap, ◌∙◌, subst, append_assoc, append-nil, arith, length-append}
use Rattle.std.specs.Prelude.{slice_get}
use Rattle.std.proofs.lemmas.List.{map-append}
use Rattle.std.specs.List.{All}
use Rattle.std.proofs.lemmas.List.Elements.{All-head, All-push, All-nil}
use Rattle.nn_bytes.specs.Lines.{line_feed}
use Rattle.nn_edits.specs.Reading.{edit_of_line}
use Rattle.nn_types.specs.declared.tx.Tx.{Tx}
use Rattle.nn_segment.specs.Lines.{reads_of}
use Rattle.nn_bytes.specs.Pieces.{is_unbroken, joined_lines}
use Rattle.nn_bytes.proofs.PieceLemmas.{each_more, joined_more}
use Rattle.nn_segment.proofs.JoinedLines.{reads_joined}
use Rattle.nn_segment.specs.Segment.{Segment, last_txid}
use Rattle.nn_segment.specs.Name.{segment_file_name, txids_of}
use Rattle.nn_segment.specs.Reading.{read_segment}
use Rattle.nn_segment.proofs.ReadingLemmas.{no_name}
use Rattle.nn_segment.specs.declared.fault.SegmentFault.{SegmentFault}
use Rattle.nn_segment.specs.declared.fault.SegmentFault.TheVariants.{BadName, NoStart, NoEnd, Gap, TornLine, NameMismatch, TooLong, BadLine, WrongProfile, OutOfMemory}
use Rattle.nn_segment.specs.Outcome.{SegmentGives}
use Rattle.nn_scenario.specs.Cut.{Part, no_lines, with_line, AreRead, part_name, segment_of, with_segment, segments_from}
use Rattle.nn_scenario.specs.declared.segments.PartFault.{PartFault}

-- the segments so far, and then those that were read
abbrev pub prepend : List Segment → Result (List Segment) PartFault → Result (List Segment) PartFault
prepend prefix (Ok segments) = Ok (prefix ++ segments)
prepend prefix (Err e) = Err e

pub no_parts : (k : ℕ) (prefix : List Segment) (parts : List Part) → length parts ≡ 0 → prepend prefix (segments_from k parts) ≡ Ok prefix
unfolding segments_from
no_parts k prefix [] e = ap Ok (append-nil prefix)
no_parts k prefix (part ∷ parts) e = absurd (omega arith)

pub part_taken : (k : ℕ) (part : Part) (parts : List Part) (prefix : List Segment) (s : Segment) → segment_of part ≡ Ok s
    → prepend prefix (segments_from k (part ∷ parts)) ≡ prepend (prefix ++ s ∷ []) (segments_from (k + 1) parts)
unfolding segments_from
part_taken k part parts prefix s is = rw is (later (segments_from (k + 1) parts))
  where
    later : (r : Result (List Segment) PartFault) → prepend prefix (with_segment k (Ok s) r) ≡ prepend (prefix ++ s ∷ []) r
    later (Ok segments) = ap Ok (sym (append_assoc prefix (s ∷ []) segments))
    later (Err e) = refl

-- one more segment
pub part_read : (part : Part) (parts : List Part) (prefix prefix' : List Segment) (s : Segment) → segment_of part ≡ Ok s → prefix' ≡ prefix ++ s ∷ []
    → prepend prefix' (segments_from (length prefix' + 1) parts) ≡ prepend prefix (segments_from (length prefix + 1) (part ∷ parts))
part_read part parts prefix prefix' s is more =
    let size : length prefix' + 1 ≡ length prefix + 1 + 1 = omega (arith, ap length more, length-append prefix (s ∷ [])) in
    ap (λ k. prepend prefix' (segments_from k parts)) size
    ∙ ap (λ f. prepend f (segments_from (length prefix + 1 + 1) parts)) more
    ∙ sym (part_taken (length prefix + 1) part parts prefix s is)

pub part_refused : (k : ℕ) (part : Part) (parts : List Part) (prefix : List Segment) (fault : SegmentFault) → segment_of part ≡ Err fault
    → prepend prefix (segments_from k (part ∷ parts)) ≡ Err (record { fault = fault; segment = k })
unfolding segments_from
part_refused k part parts prefix fault is = rw is refl

pub all_parts : (parts : List Part) → prepend [] (segments_from 1 parts) ≡ segments_from 1 parts
all_parts parts = same (segments_from 1 parts)
  where
    same : (r : Result (List Segment) PartFault) → prepend [] r ≡ r
    same (Ok segments) = refl
    same (Err e) = refl

-- a fault other than out of memory is the definition's
pub fault_given : {X : Type 0} (fault : SegmentFault) (given : Result X SegmentFault) → SegmentGives (Err fault) given → (fault ≡ OutOfMemory → ⊥) → given ≡ Err fault
fault_given BadName given is other = is
fault_given TooLong given is other = is
fault_given NoStart given is other = is
fault_given (TornLine line) given is other = is
fault_given (BadLine line fault) given is other = is
fault_given (Gap expected) given is other = is
fault_given (WrongProfile line) given is other = is
fault_given NoEnd given is other = is
fault_given NameMismatch given is other = is
fault_given OutOfMemory given is other = absurd (other refl)

-- ---- the bytes of a part

pub read_back : (part : Part) → AreRead part → reads_of part.bytes ≡ map Ok part.txs
read_back part h = ap reads_of h.joined ∙ reads_joined h.lines part.txs h.unbroken h.reads

pub none_read : AreRead no_lines
none_read = record { lines = []; unbroken = refl; joined = refl; reads = refl; from_one = All-nil (λ (tx : Tx). 1 ≤ tx.txid) }

pub one_more_read : (part : Part) (text : List ℕ) (tx : Tx) → AreRead part → is_unbroken text ≡ true → edit_of_line text ≡ Ok tx → 1 ≤ tx.txid
    → AreRead (with_line part (record { text = text; tx = tx }))
one_more_read part text tx h whole is from = record {
  lines = h.lines ++ text ∷ [];
  unbroken = each_more h.lines text h.unbroken whole;
  joined = ap (λ bytes. bytes ++ text ++ line_feed ∷ []) h.joined ∙ append_assoc (joined_lines h.lines) text (line_feed ∷ []) ∙ sym (joined_more h.lines text);
  reads = map-append edit_of_line h.lines (text ∷ []) ∙ (λ j. h.reads j ++ is j ∷ []) ∙ sym (map-append Ok part.txs (tx ∷ []));
  from_one = All-push (λ (t : Tx). 1 ≤ t.txid) part.txs tx h.from_one from;
}

-- ---- names

pub named : (txs : List Tx) (first last : Tx) (high : ℕ) → Some first ≡ slice_get txs 0 → last_txid txs ≡ last.txid → high ≡ max first.txid last.txid → segment_file_name first.txid high ≡ part_name txs
named [] first last high f l h = absurd (cc)
named (x ∷ txs) first last high f l h =
    let same : first ≡ x = cc in
    ap (λ n. segment_file_name first.txid n) (h ∙ ap (max first.txid) (sym l)) ∙ ap (λ (t : Tx). segment_file_name t.txid (max t.txid (last_txid (x ∷ txs)))) same

pub first_from_one : (txs : List Tx) (first : Tx) → All (λ tx. 1 ≤ tx.txid) txs → Some first ≡ slice_get txs 0 → 1 ≤ first.txid
first_from_one [] first all f = absurd (cc)
first_from_one (x ∷ txs) first all f = subst (λ (t : Tx). 1 ≤ t.txid) (let same : x ≡ first = cc in same) (All-head (λ (t : Tx). 1 ≤ t.txid) x txs all)

no_txids : txids_of [] ≡ None
unfolding txids_of
no_txids = refl

-- where there are no transactions there is no name
pub unnamed : (name bytes : List ℕ) → name ≡ [] → read_segment name bytes ≡ Err BadName
unnamed name bytes none = no_name name bytes (ap txids_of none ∙ no_txids)
