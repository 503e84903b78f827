-- A log, checked line by line.
use Rattle.std.proofs.Common.{◌≡◌, ◌≢◌, ℕ, suc, Bool, true, false, not, cond, eqb, ◌+◌, ◌-◌, ◌≤◌, ◌<◌, ◌^◌, List, [], ◌∷◌, ◌++◌, length, map, max, Option, Some, None, Result, Ok, Err, refl, sym, ap, ◌∙◌, subst, arith, append_assoc, append-nil, length-append}
use Rattle.std.specs.Prelude.{◌||◌, ◌&&◌, nat_lt, is_some}
use Rattle.std.specs.List.{list_any}
use Rattle.std.proofs.Math.Nat.{le-max_left, max-eq_right, max-le}
use Rattle.std.proofs.lemmas.Bool.{and_from, eqb-true, eq-eqb, ne_eqb, lt-ltb, ltb-true, ltb-false}
use Rattle.std.proofs.lemmas.List.{map-append}
use Rattle.std.proofs.lemmas.List.Elements.{All-head}
use Rattle.nn_bytes.specs.Lines.{line_feed}
use Rattle.nn_edits.specs.Reading.{edit_of_line}
use Rattle.nn_types.specs.declared.edit.Edit.{Edit}
use Rattle.nn_types.specs.declared.edit.Edit.TheVariants as edit
use Rattle.nn_types.specs.declared.profile.Profile.{Profile}
use Rattle.nn_types.specs.declared.tx.Tx.{Tx}
use Rattle.nn_model.specs.Apply.{fault_if, first_fault}
use Rattle.nn_segment.specs.Lines.{lines_of, reads_of, is_ended}
use Rattle.nn_bytes.specs.Pieces.{is_unbroken, joined_lines}
use Rattle.nn_segment.specs.Name.{txids_of}
use Rattle.nn_segment.specs.Reading.{later_fault, after_start, lines_fault, names_txids, bytes_checks, unless, read_segment}
use Rattle.nn_segment.specs.Segment.{Segment, start_profile, is_start, is_end, allows, ends_once, last_txid}
use Rattle.nn_segment.specs.declared.fault.SegmentFault.{SegmentFault}
use Rattle.nn_segment.specs.declared.fault.SegmentFault.TheVariants.{NoStart, Gap, WrongProfile, TooLong, NoEnd, TornLine}
use Rattle.nn_segment.proofs.Names.{names}
use Rattle.nn_segment.proofs.ReadingLemmas.{accepted, by_lines, bytes_good, bytes_refused, end_refuses, none_refuses, order_refuses, refused}
use Rattle.nn_scenario.specs.Checking.{SegmentCheck, first_line_fault, later_line_fault, or_fault, begun, gone_on, line_added, part_fault, or_bad, part_ended, line_checked, HasBegunPart, IsInHand, AreSegments, IsCheckOf}
use Rattle.nn_scenario.specs.Cut.{Part, AreRead, no_lines, with_line, last_part, part_name, segment_of, with_segment, segments_from}
use Rattle.nn_scenario.specs.Reading.{Reading, nothing_read, with_edit_line}
use Rattle.nn_scenario.specs.declared.steps.Step.TheVariants as step
use Rattle.nn_scenario.specs.declared.segments.PartFault.{PartFault}
use Rattle.nn_scenario.proofs.SegmentLemmas.{no_parts, none_read, one_more_read, part_refused, part_taken, prepend, read_back}

abbrev has_end : List Tx → Bool
has_end txs = list_any (λ (tx : Tx). is_end tx.edit) txs

abbrev has_start : List Tx → Bool
has_start txs = list_any (λ (tx : Tx). is_start tx.edit) txs

-- ---- one more line

pub last_is_next : (t : Tx) (later : List Tx) (tx : Tx) → last_txid (t ∷ (later ++ tx ∷ [])) ≡ tx.txid
last_is_next t [] tx = refl
last_is_next t (x ∷ later) tx = last_is_next x later tx

-- behind a transaction that the line before these is, with the number of the first of them
later_goes_on : (profile : Profile) (n : ℕ) (before : Tx) (later : List Tx) (tx : Tx)
    → later_fault profile n (before.txid + 1) (map Ok (later ++ tx ∷ []))
    ≡ or_fault (later_fault profile n (before.txid + 1) (map Ok later)) (later_line_fault (Some profile) (length later + n) (last_txid (before ∷ later) + 1) tx)
later_goes_on profile n before [] tx = ap (λ k. later_line_fault (Some profile) k (before.txid + 1) tx) (let same : n ≡ 0 + n = omega arith in same)
later_goes_on profile n before (x ∷ later) tx =
    let place : length later + (n + 1) ≡ suc (length later) + n = omega arith in
    let rest : later_fault profile (n + 1) (x.txid + 1) (map Ok (later ++ tx ∷ []))
    ≡ or_fault (later_fault profile (n + 1) (x.txid + 1) (map Ok later)) (later_line_fault (Some profile) (suc (length later) + n) (last_txid (x ∷ later) + 1) tx) =
    later_goes_on profile (n + 1) x later tx
    ∙ ap (λ k. or_fault (later_fault profile (n + 1) (x.txid + 1) (map Ok later)) (later_line_fault (Some profile) k (last_txid (x ∷ later) + 1) tx)) place in
    at (eqb x.txid (before.txid + 1)) (allows profile x.edit) rest
  where
    at : (t a : Bool)
        → later_fault profile (n + 1) (x.txid + 1) (map Ok (later ++ tx ∷ [])) ≡ or_fault (later_fault profile (n + 1) (x.txid + 1) (map Ok later)) (later_line_fault (Some profile) (suc (length later) + n) (last_txid (x ∷ later) + 1) tx)
        → cond t (cond a (later_fault profile (n + 1) (x.txid + 1) (map Ok (later ++ tx ∷ []))) (Some (WrongProfile n))) (Some (Gap (before.txid + 1)))
        ≡ or_fault (cond t (cond a (later_fault profile (n + 1) (x.txid + 1) (map Ok later)) (Some (WrongProfile n))) (Some (Gap (before.txid + 1)))) (later_line_fault (Some profile) (suc (length later) + n) (last_txid (x ∷ later) + 1) tx)
    at true true rest = rest
    at true false rest = refl
    at false a rest = refl

pub order_goes_on : (t : Tx) (later : List Tx) (tx : Tx)
    → lines_fault (map Ok (t ∷ (later ++ tx ∷ []))) ≡ or_fault (lines_fault (map Ok (t ∷ later))) (later_line_fault (start_profile t.edit) (length later + 2) (last_txid (t ∷ later) + 1) tx)
order_goes_on t later tx = at (start_profile t.edit)
  where
    at : (o : Option Profile) → after_start o (t.txid + 1) (map Ok (later ++ tx ∷ [])) ≡ or_fault (after_start o (t.txid + 1) (map Ok later)) (later_line_fault o (length later + 2) (last_txid (t ∷ later) + 1) tx)
    at None = refl
    at (Some profile) = later_goes_on profile 2 t later tx

pub order_begins : (tx : Tx) → lines_fault (map Ok (tx ∷ [])) ≡ first_line_fault (start_profile tx.edit)
order_begins tx = at (start_profile tx.edit)
  where
    at : (o : Option Profile) → after_start o (tx.txid + 1) [] ≡ first_line_fault o
    at None = refl
    at (Some profile) = refl

-- ---- marks

-- an end mark alone ends
one_end : (e : Edit) (tx : Tx) → tx.edit ≡ e → is_end e ≡ true → ends_once (tx ∷ []) ≡ true
one_end edit.EndSegment tx is ends = rw is refl
one_end (edit.StartSegment p) tx is ends = absurd (cc)
one_end (edit.Mkdir p) tx is ends = absurd (cc)
one_end (edit.Add p r) tx is ends = absurd (cc)
one_end (edit.AddBlock p i s) tx is ends = absurd (cc)
one_end (edit.UpdateBlocks p b) tx is ends = absurd (cc)
one_end (edit.Close p b) tx is ends = absurd (cc)
one_end (edit.Append p) tx is ends = absurd (cc)
one_end (edit.Rename s d) tx is ends = absurd (cc)
one_end (edit.Delete p) tx is ends = absurd (cc)
one_end (edit.SetReplication p r) tx is ends = absurd (cc)
one_end (edit.AllocateBlockId i) tx is ends = absurd (cc)
one_end (edit.SetGenstamp s) tx is ends = absurd (cc)

pub ends_once_at : (later : List Tx) (tx : Tx) → not (has_end later) ≡ true → is_end tx.edit ≡ true → ends_once (later ++ tx ∷ []) ≡ not (has_start later)
ends_once_at [] tx none ends = one_end tx.edit tx refl ends
ends_once_at (x ∷ later) tx none ends = at (is_start x.edit) (is_end x.edit) none (λ more. ends_once_at later tx more ends)
  where
    at : (s e : Bool) → not (e || has_end later) ≡ true → (not (has_end later) ≡ true → ends_once (later ++ tx ∷ []) ≡ not (has_start later))
        → cond (s || e) (e && eqb (length (later ++ tx ∷ [])) 0) (ends_once (later ++ tx ∷ [])) ≡ not (s || has_start later)
    at true false none more = refl
    at false false none more = more none
    at true true none more = absurd (cc)
    at false true none more = absurd (cc)

pub has_no_end : (later : List Tx) → not (has_end later) ≡ true → ends_once later ≡ false
has_no_end [] none = refl
has_no_end (x ∷ later) none = at (is_start x.edit) (is_end x.edit) none (λ more. has_no_end later more)
  where
    at : (s e : Bool) → not (e || has_end later) ≡ true → (not (has_end later) ≡ true → ends_once later ≡ false)
        → cond (s || e) (e && eqb (length later) 0) (ends_once later) ≡ false
    at true false none more = refl
    at false false none more = more none
    at true true none more = absurd (cc)
    at false true none more = absurd (cc)

-- ---- order

later_rises : (profile : Profile) (n : ℕ) (before : Tx) (later : List Tx) → later_fault profile n (before.txid + 1) (map Ok later) ≡ None → before.txid ≤ last_txid (before ∷ later)
later_rises profile n before [] none = omega arith
later_rises profile n before (x ∷ later) none = at (eqb x.txid (before.txid + 1)) refl (allows profile x.edit) none (λ more. later_rises profile (n + 1) x later more)
  where
    at : (t : Bool) → eqb x.txid (before.txid + 1) ≡ t → (a : Bool)
        → cond t (cond a (later_fault profile (n + 1) (x.txid + 1) (map Ok later)) (Some (WrongProfile n))) (Some (Gap (before.txid + 1))) ≡ None
        → (later_fault profile (n + 1) (x.txid + 1) (map Ok later) ≡ None → x.txid ≤ last_txid (x ∷ later)) → before.txid ≤ last_txid (x ∷ later)
    at true is true none more = let next = eqb-true x.txid (before.txid + 1) is in let up = more none in omega (arith, next, up)
    at true is false none more = absurd (cc)
    at false is a none more = absurd (cc)

pub in_order_rises : (t : Tx) (later : List Tx) → lines_fault (map Ok (t ∷ later)) ≡ None → t.txid ≤ last_txid (t ∷ later)
in_order_rises t later none = at (start_profile t.edit) none
  where
    at : (o : Option Profile) → after_start o (t.txid + 1) (map Ok later) ≡ None → t.txid ≤ last_txid (t ∷ later)
    at None none = absurd (cc)
    at (Some profile) none = later_rises profile 2 t later none

-- ---- a part as a segment

max_below : (a b k : ℕ) → a < k → b < k → max a b < k
max_below a b k l r =
    let top : max a b ≤ k - 1 = max-le {k = k - 1} (omega (arith, l)) (omega (arith, r)) in
    omega (arith, top, l)

named_so : (t : Tx) (later : List Tx) → 1 ≤ t.txid → t.txid < 2 ^ 63 → last_txid (t ∷ later) < 2 ^ 63
    → txids_of (part_name (t ∷ later)) ≡ Some (t.txid, max t.txid (last_txid (t ∷ later)))
named_so t later from below last = names (part_name (t ∷ later)) t.txid (max t.txid (last_txid (t ∷ later))) (record {
  from_one = from;
  in_order = le-max_left t.txid (last_txid (t ∷ later));
  in_range = max_below t.txid (last_txid (t ∷ later)) (2 ^ 63) below last;
  spelled = refl;
})

name_is : (t : Tx) (later : List Tx) → lines_fault (map Ok (t ∷ later)) ≡ None → names_txids (Some (t.txid, max t.txid (last_txid (t ∷ later)))) (t ∷ later) ≡ true
name_is t later none =
    and_from (eqb t.txid t.txid) (eqb (max t.txid (last_txid (t ∷ later))) (last_txid (t ∷ later)))
    (eq-eqb t.txid t.txid refl) (eq-eqb _ _ (max-eq_right (in_order_rises t later none)))

ended_behind : (xs ys : List ℕ) → is_ended ys ≡ true → is_ended (xs ++ ys) ≡ true
ended_behind [] ys h = h
ended_behind (b ∷ xs) ys h = one (xs ++ ys) (ended_behind xs ys h)
  where
    one : (zs : List ℕ) → is_ended zs ≡ true → is_ended (b ∷ zs) ≡ true
    one [] h = absurd (cc)
    one (c ∷ zs) h = h

joined_ended : (line : List ℕ) (lines : List (List ℕ)) → is_ended (joined_lines (line ∷ lines)) ≡ true
joined_ended line [] = ap is_ended (append-nil (line ++ line_feed ∷ [])) ∙ ended_behind line (line_feed ∷ []) refl
joined_ended line (next ∷ lines) = ended_behind (line ++ line_feed ∷ []) (joined_lines (next ∷ lines)) (joined_ended next lines)

bytes_ended : (bytes : List ℕ) (t : Tx) (later : List Tx) → AreRead (record { bytes = bytes; txs = t ∷ later }) → is_ended bytes ≡ true
bytes_ended bytes t later h = at h.lines h.joined h.reads
  where
    at : (lines : List (List ℕ)) → bytes ≡ joined_lines lines → map edit_of_line lines ≡ map Ok (t ∷ later) → is_ended bytes ≡ true
    at [] joined reads = absurd (cc)
    at (line ∷ lines) joined reads = ap is_ended joined ∙ joined_ended line lines

some_bytes : (bytes : List ℕ) → is_ended bytes ≡ true → eqb (length bytes) 0 ≡ false
some_bytes [] h = absurd (cc)
some_bytes (b ∷ bytes) h = ne_eqb (suc (length bytes)) 0 (λ e. absurd (omega (arith, e)))

too_long : (bytes : List ℕ) → 16777216 < length bytes → first_fault (bytes_checks bytes) ≡ Some TooLong
too_long bytes long =
    ap (λ b. first_fault (fault_if b TooLong ∷ fault_if (eqb (length bytes) 0) NoStart ∷ fault_if (not (is_ended bytes)) (TornLine (length (lines_of bytes))) ∷ [])) (lt-ltb 16777216 (length bytes) long)

-- what a part is, where its lines have this fault, and this says whether it ends
pub judged_part : (bytes : List ℕ) (t : Tx) (later : List Tx) (room : ℕ) (order : Option SegmentFault) (ends : Bool) → AreRead (record { bytes = bytes; txs = t ∷ later })
    → t.txid < 2 ^ 63 → last_txid (t ∷ later) < 2 ^ 63 → room ≡ 16777217 - length bytes → order ≡ lines_fault (map Ok (t ∷ later)) → (order ≡ None → ends_once later ≡ ends)
    → segment_of (record { bytes = bytes; txs = t ∷ later }) ≡ unless (part_fault room order ends) (record { name = part_name (t ∷ later); bytes = bytes; txs = t ∷ later })
judged_part bytes t later room order ends h below last left is ended = sized (nat_lt 16777216 (length bytes)) refl
  where
    txs : List Tx
    txs = t ∷ later

    name : List ℕ
    name = part_name (t ∷ later)

    txids : ℕ × ℕ
    txids = (t.txid, max t.txid (last_txid (t ∷ later)))

    named : txids_of name ≡ Some txids
    named = named_so t later (All-head (λ (tx : Tx). 1 ≤ tx.txid) t later h.from_one) below last

    whole : is_ended bytes ≡ true
    whole = bytes_ended bytes t later h

    read : reads_of bytes ≡ map Ok txs
    read = read_back (record { bytes = bytes; txs = txs }) h

    by_order : first_fault (bytes_checks bytes) ≡ None → (o : Option SegmentFault) → order ≡ o → (e : Bool) → ends ≡ e
        → read_segment name bytes ≡ unless (or_fault o (cond e None (Some NoEnd))) (record { name = name; bytes = bytes; txs = txs })
    by_order good (Some fault) was e so =
        refused name bytes fault (by_lines name bytes txids named good ∙ order_refuses txids (reads_of bytes) txs None fault read (sym is ∙ was))
    by_order good None was true so =
        accepted name bytes txs (by_lines name bytes txids named good ∙ none_refuses txids (reads_of bytes) txs read (sym is ∙ was) (ended was ∙ so) (name_is t later (sym is ∙ was))) read
    by_order good None was false so =
        refused name bytes NoEnd (by_lines name bytes txids named good ∙ end_refuses txids (reads_of bytes) txs read (sym is ∙ was) (ended was ∙ so))

    sized : (b : Bool) → nat_lt 16777216 (length bytes) ≡ b
        → read_segment name bytes ≡ unless (part_fault room order ends) (record { name = name; bytes = bytes; txs = txs })
    sized true long =
        let more : 16777216 < length bytes = ltb-true 16777216 (length bytes) long in
        let none : room ≡ 0 = omega (arith, left, more) in
        bytes_refused name bytes txids TooLong named (too_long bytes more)
        ∙ ap (λ b. unless (cond b (Some TooLong) (or_fault order (cond ends None (Some NoEnd)))) (record { name = name; bytes = bytes; txs = txs })) (sym (eq-eqb room 0 none))
    sized false short =
        let few : length bytes ≤ 16777216 = ltb-false 16777216 (length bytes) short in
        let some : eqb room 0 ≡ false = ne_eqb room 0 (λ none. absurd (omega (arith, left, few, none))) in
        by_order (bytes_good bytes few (some_bytes bytes whole) whole) order refl ends refl
        ∙ ap (λ b. unless (cond b (Some TooLong) (or_fault order (cond ends None (Some NoEnd)))) (record { name = name; bytes = bytes; txs = txs })) (sym some)

-- ---- parts as segments

segments_behind : (k : ℕ) (parts more : List Part) (segments : List Segment) → segments_from k parts ≡ Ok segments
    → segments_from k (parts ++ more) ≡ prepend segments (segments_from (length parts + k) more)
unfolding segments_from
segments_behind k [] more segments is = let none : [] ≡ segments = cc in sym (all_from (segments_from k more)) ∙ ap (λ prefix. prepend prefix (segments_from k more)) none ∙ ap (λ n. prepend segments (segments_from n more)) (let same : k ≡ 0 + k = omega arith in same)
  where
    all_from : (r : Result (List Segment) PartFault) → prepend [] r ≡ r
    all_from (Ok segments) = refl
    all_from (Err e) = refl
segments_behind k (part ∷ parts) more segments is = at (segment_of part) (segments_from (k + 1) parts) refl is (segments_behind (k + 1) parts more)
  where
    place : length parts + (k + 1) ≡ suc (length parts) + k
    place = omega arith

    one : (s : Segment) (later : List Segment) (r : Result (List Segment) PartFault) → with_segment k (Ok s) (prepend later r) ≡ prepend (s ∷ later) r
    one s later (Ok segments) = refl
    one s later (Err e) = refl

    at : (o : Result Segment SegmentFault) (r : Result (List Segment) PartFault) → segments_from (k + 1) parts ≡ r → with_segment k o r ≡ Ok segments
        → ((later : List Segment) → segments_from (k + 1) parts ≡ Ok later → segments_from (k + 1) (parts ++ more) ≡ prepend later (segments_from (length parts + (k + 1)) more))
        → with_segment k o (segments_from (k + 1) (parts ++ more)) ≡ prepend segments (segments_from (suc (length parts) + k) more)
    at (Ok s) (Ok later) was is rest =
        let same : s ∷ later ≡ segments = cc in
        ap (with_segment k (Ok s)) (rest later was)
        ∙ one s later (segments_from (length parts + (k + 1)) more)
        ∙ ap (λ prefix. prepend prefix (segments_from (length parts + (k + 1)) more)) same
        ∙ ap (λ n. prepend segments (segments_from n more)) place
    at (Ok s) (Err e) was is rest = absurd (cc)
    at (Err e) r was is rest = absurd (cc)

txs_map-append : {A B : Type 0} (f : A → B) (xs : List A) (x : A) → map f (xs ++ x ∷ []) ≡ map f xs ++ f x ∷ []
txs_map-append f xs x = map-append f xs (x ∷ [])

-- one more part, of which it was found what it is
pub one_more_part : (parts : List Part) (part : Part) (bad : Option PartFault) (fault : Option SegmentFault) → AreSegments parts bad
    → segment_of part ≡ unless fault (record { name = part_name part.txs; bytes = part.bytes; txs = part.txs })
    → AreSegments (parts ++ part ∷ []) (or_bad bad fault (length parts + 1))
one_more_part parts part (Some bad) fault h is = λ more. ap (segments_from 1) (append_assoc parts (part ∷ []) more) ∙ h (part ∷ more)
one_more_part parts part None (Some fault) h is = λ more.
    ap (segments_from 1) (append_assoc parts (part ∷ []) more)
    ∙ segments_behind 1 parts (part ∷ more) h.0 h.1
    ∙ part_refused (length parts + 1) part more h.0 fault is
one_more_part parts part None None h is =
    let s : Segment = record { name = part_name part.txs; bytes = part.bytes; txs = part.txs } in (
      h.0 ++ s ∷ [],
      segments_behind 1 parts (part ∷ []) h.0 h.1 ∙ part_taken (length parts + 1) part [] h.0 s is ∙ no_parts (length parts + 1 + 1) (h.0 ++ s ∷ []) [] refl,
      txs_map-append (λ (x : Segment). x.txs) h.0 s ∙ ap (λ prefix. prefix ++ part.txs ∷ []) h.2 ∙ sym (txs_map-append (λ (p : Part). p.txs) parts part),
    )

-- ---- the check of one more line

any_behind : (p : Tx → Bool) (later : List Tx) (tx : Tx) → list_any p (later ++ tx ∷ []) ≡ (list_any p later || p tx)
any_behind p [] tx = at (p tx)
  where
    at : (b : Bool) → (b || false) ≡ b
    at true = refl
    at false = refl
any_behind p (x ∷ later) tx = at (p x) (any_behind p later tx)
  where
    at : (b : Bool) → list_any p (later ++ tx ∷ []) ≡ (list_any p later || p tx) → (b || list_any p (later ++ tx ∷ [])) ≡ ((b || list_any p later) || p tx)
    at true h = refl
    at false h = h

end_is_no_start : (e : Edit) → is_end e ≡ true → start_profile e ≡ None
end_is_no_start edit.EndSegment ends = refl
end_is_no_start (edit.StartSegment p) ends = absurd (cc)
end_is_no_start (edit.Mkdir p) ends = absurd (cc)
end_is_no_start (edit.Add p r) ends = absurd (cc)
end_is_no_start (edit.AddBlock p i s) ends = absurd (cc)
end_is_no_start (edit.UpdateBlocks p b) ends = absurd (cc)
end_is_no_start (edit.Close p b) ends = absurd (cc)
end_is_no_start (edit.Append p) ends = absurd (cc)
end_is_no_start (edit.Rename s d) ends = absurd (cc)
end_is_no_start (edit.Delete p) ends = absurd (cc)
end_is_no_start (edit.SetReplication p r) ends = absurd (cc)
end_is_no_start (edit.AllocateBlockId i) ends = absurd (cc)
end_is_no_start (edit.SetGenstamp s) ends = absurd (cc)

-- whichever line it is
record Adds (c : SegmentCheck) (bytes : ℕ) (c' : SegmentCheck) : Type 0 where
  room : c'.room ≡ c.room - bytes
  lines : c'.lines ≡ c.lines + 1
  ended : c'.ended ≡ c.ended
  bad : c'.bad ≡ c.bad

adds : (c : SegmentCheck) (bytes : ℕ) (tx : Tx) → Adds c bytes (line_added c bytes tx)
adds c bytes tx = at (eqb c.lines 0) refl
  where
    at : (b : Bool) → eqb c.lines 0 ≡ b → Adds c bytes (cond b (begun c bytes tx) (gone_on c bytes tx))
    at true none = record { room = refl; lines = let zero : c.lines ≡ 0 = eqb-true c.lines 0 none in omega (arith, zero); ended = refl; bad = refl }
    at false some = record { room = refl; lines = refl; ended = refl; bad = refl }

is_first : (c : SegmentCheck) (bytes : ℕ) (tx : Tx) → c.lines ≡ 0 → line_added c bytes tx ≡ begun c bytes tx
is_first c bytes tx none = ap (λ b. cond b (begun c bytes tx) (gone_on c bytes tx)) (eq-eqb c.lines 0 none)

is_later : (c : SegmentCheck) (bytes : ℕ) (tx : Tx) (k : ℕ) → c.lines ≡ suc k → line_added c bytes tx ≡ gone_on c bytes tx
is_later c bytes tx k some = ap (λ b. cond b (begun c bytes tx) (gone_on c bytes tx)) (ne_eqb c.lines 0 (λ none. absurd (omega (arith, some, none))))

order_added : (t : Tx) (later : List Tx) (c : SegmentCheck) (tx : Tx) → HasBegunPart t later c → c.lines ≡ suc (length later)
    → or_fault c.order (later_line_fault c.profile (c.lines + 1) c.next tx) ≡ lines_fault (map Ok (t ∷ (later ++ tx ∷ [])))
order_added t later c tx h lines =
    let place : c.lines + 1 ≡ length later + 2 = omega (arith, lines) in
    ap (λ o. or_fault o (later_line_fault c.profile (c.lines + 1) c.next tx)) h.order
    ∙ ap (λ p. or_fault (lines_fault (map Ok (t ∷ later))) (later_line_fault p (c.lines + 1) c.next tx)) h.profile
    ∙ ap (λ n. or_fault (lines_fault (map Ok (t ∷ later))) (later_line_fault (start_profile t.edit) n c.next tx)) place
    ∙ ap (λ n. or_fault (lines_fault (map Ok (t ∷ later))) (later_line_fault (start_profile t.edit) (length later + 2) n tx)) h.next
    ∙ sym (order_goes_on t later tx)

has_begun : (c : SegmentCheck) (bytes : ℕ) (tx : Tx) → tx.txid < 2 ^ 63 → HasBegunPart tx [] (begun c bytes tx)
has_begun c bytes tx below = record {
  profile = refl;
  next = refl;
  order = sym (order_begins tx);
  inside = refl;
  not_ended = refl;
  first_in_range = below;
  last_in_range = omega (arith, below);
}

has_gone_on : (t : Tx) (later : List Tx) (c : SegmentCheck) (bytes : ℕ) (tx : Tx) → HasBegunPart t later c → c.lines ≡ suc (length later) → tx.txid < 2 ^ 63 → is_end tx.edit ≡ false
    → HasBegunPart t (later ++ tx ∷ []) (gone_on c bytes tx)
has_gone_on t later c bytes tx h lines below other = record {
  profile = h.profile;
  next = ap (λ n. n + 1) (sym (last_is_next t later tx));
  order = order_added t later c tx h lines;
  inside = ap (λ b. b || is_start tx.edit) h.inside ∙ sym (any_behind (λ (x : Tx). is_start x.edit) later tx);
  not_ended = ap not (any_behind (λ (x : Tx). is_end x.edit) later tx) ∙ none (has_end later) (is_end tx.edit) h.not_ended other;
  first_in_range = h.first_in_range;
  last_in_range = omega (arith, below);
}
  where
    none : (a b : Bool) → not a ≡ true → b ≡ false → not (a || b) ≡ true
    none true b na nb = na
    none false true na nb = absurd (cc)
    none false false na nb = refl

in_hand_still : (txs : List Tx) (c : SegmentCheck) (bytes : ℕ) (tx : Tx) → IsInHand txs c → c.lines ≡ length txs → tx.txid < 2 ^ 63 → is_end tx.edit ≡ false
    → IsInHand (txs ++ tx ∷ []) (line_added c bytes tx)
in_hand_still [] c bytes tx h lines below other = subst (HasBegunPart tx []) (sym (is_first c bytes tx lines)) (has_begun c bytes tx below)
in_hand_still (t ∷ later) c bytes tx h lines below other =
    subst (HasBegunPart t (later ++ tx ∷ [])) (sym (is_later c bytes tx (length later) lines)) (has_gone_on t later c bytes tx h lines below other)

-- the part that an end mark ends
abbrev fault_here : SegmentCheck → Option SegmentFault
fault_here c = part_fault c.room c.order (true && not c.inside)

ended_by : (txs : List Tx) (c : SegmentCheck) (n : ℕ) (tx : Tx) (bytes : List ℕ) → IsInHand txs c → c.lines ≡ length txs → tx.txid < 2 ^ 63 → is_end tx.edit ≡ true
    → AreRead (record { bytes = bytes; txs = txs ++ tx ∷ [] }) → c.room - n ≡ 16777217 - length bytes
    → segment_of (record { bytes = bytes; txs = txs ++ tx ∷ [] }) ≡ unless (fault_here (line_added c n tx)) (record { name = part_name (txs ++ tx ∷ []); bytes = bytes; txs = txs ++ tx ∷ [] })
ended_by [] c n tx bytes h lines below ends read room =
    judged_part bytes tx [] (c.room - n) (first_line_fault (start_profile tx.edit)) true read below below room (sym (order_begins tx))
    (λ none. absurd (let fault : Some NoStart ≡ None = sym (ap first_line_fault (end_is_no_start tx.edit ends)) ∙ none in cc))
    ∙ ap (λ k. unless (fault_here k) (record { name = part_name (tx ∷ []); bytes = bytes; txs = tx ∷ [] })) (sym (is_first c n tx lines))
ended_by (t ∷ later) c n tx bytes h lines below ends read room =
    let last : last_txid (t ∷ (later ++ tx ∷ [])) < 2 ^ 63 = subst (λ k. k < 2 ^ 63) (sym (last_is_next t later tx)) below in
    judged_part bytes t (later ++ tx ∷ []) (c.room - n) (or_fault c.order (later_line_fault c.profile (c.lines + 1) c.next tx)) (true && not (c.inside || is_start tx.edit))
    read h.first_in_range last room (order_added t later c tx h lines) (λ none. ends_once_at later tx h.not_ended ends ∙ marks)
    ∙ ap (λ k. unless (fault_here k) (record { name = part_name (t ∷ (later ++ tx ∷ [])); bytes = bytes; txs = t ∷ (later ++ tx ∷ []) })) (sym (is_later c n tx (length later) lines))
  where
    or_none : (a b : Bool) → b ≡ false → not a ≡ (true && not (a || b))
    or_none true b none = refl
    or_none false true none = absurd (cc)
    or_none false false none = refl

    no_start : is_start tx.edit ≡ false
    no_start = ap is_some (end_is_no_start tx.edit ends)

    marks : not (has_start later) ≡ (true && not (c.inside || is_start tx.edit))
    marks = ap not (sym h.inside) ∙ or_none c.inside (is_start tx.edit) no_start

room_left : (c : SegmentCheck) (bytes text : List ℕ) → c.room ≡ 16777217 - length bytes → c.room - (length text + 1) ≡ 16777217 - length (bytes ++ text ++ line_feed ∷ [])
room_left c bytes text room = omega (arith, room, length-append (bytes ++ text) (line_feed ∷ []), length-append bytes text)

-- one more line is checked
pub line_checks : (x : Reading) (c : SegmentCheck) (text : List ℕ) (tx : Tx) → is_unbroken text ≡ true → edit_of_line text ≡ Ok tx → 1 ≤ tx.txid → tx.txid < 2 ^ 63 → IsCheckOf x c
    → IsCheckOf (with_edit_line x (record { text = text; tx = tx })) (line_checked c (length text + 1) tx)
line_checks x c text tx whole is from below h = at (is_end tx.edit) refl
  where
    n : ℕ
    n = length text + 1

    part : Part
    part = with_line x.in_hand (record { text = text; tx = tx })

    added : SegmentCheck
    added = line_added c n tx

    more : Adds c n added
    more = adds c n tx

    read : AreRead part
    read = one_more_read x.in_hand text tx h.read whole is from

    room : c.room - n ≡ 16777217 - length part.bytes
    room = room_left c x.in_hand.bytes text h.room

    at : (b : Bool) → is_end tx.edit ≡ b → IsCheckOf
        (cond b (record { parts = x.parts ++ part ∷ []; in_hand = no_lines; steps = x.steps ++ step.Edit ∷ [] }) (record { parts = x.parts; in_hand = part; steps = x.steps ++ step.Edit ∷ [] }))
        (cond b (part_ended added true) added)
    at false other = record {
      read = read;
      room = more.room ∙ room;
      lines = omega (arith, more.lines, h.lines, length-append x.in_hand.txs (tx ∷ []));
      in_hand = in_hand_still x.in_hand.txs c n tx h.in_hand h.lines below other;
      ended = more.ended ∙ h.ended;
      parts = subst (AreSegments x.parts) (sym more.bad) h.parts;
    }
    at true ends = record {
      read = none_read;
      room = refl;
      lines = refl;
      in_hand = tt;
      ended = omega (arith, more.ended, h.ended, length-append x.parts (part ∷ []));
      parts = subst (AreSegments (x.parts ++ part ∷ [])) (bad_is (sym more.bad) (ap (λ k. k + 1) (sym (more.ended ∙ h.ended))))
          (one_more_part x.parts part c.bad (fault_here added) h.parts (ended_by x.in_hand.txs c n tx part.bytes h.in_hand h.lines below ends read room));
    }
      where
        bad_is : {a b : Option PartFault} {k l : ℕ} → a ≡ b → k ≡ l → or_bad a (fault_here added) k ≡ or_bad b (fault_here added) l
        bad_is {a} {b} {k} {l} same place = ap (λ o. or_bad o (fault_here added) k) same ∙ ap (λ m. or_bad b (fault_here added) m) place

-- ---- no line

pub nothing_checked : IsCheckOf nothing_read (record { room = 16777217; lines = 0; profile = None; next = 0; order = None; inside = false; ended = 0; bad = None })
unfolding segments_from
nothing_checked = record { read = none_read; room = refl; lines = refl; in_hand = tt; ended = refl; parts = ([], refl, refl) }

-- ---- no more lines

pub none_in_hand : (x : Reading) (c : SegmentCheck) → c.lines ≡ 0 → IsCheckOf x c → AreSegments (x.parts ++ last_part x.in_hand) c.bad
none_in_hand x c none h =
    subst (λ parts. AreSegments parts c.bad)
    (sym (ap (λ b. x.parts ++ cond b [] (x.in_hand ∷ [])) (eq-eqb (length x.in_hand.txs) 0 (sym h.lines ∙ none)) ∙ append-nil x.parts))
    h.parts

pub some_in_hand : (x : Reading) (c : SegmentCheck) → c.lines ≢ 0 → IsCheckOf x c → AreSegments (x.parts ++ last_part x.in_hand) (or_bad c.bad (part_fault c.room c.order false) (c.ended + 1))
some_in_hand x c some h =
    subst (λ parts. AreSegments parts (or_bad c.bad (part_fault c.room c.order false) (c.ended + 1)))
    (sym (ap (λ b. x.parts ++ cond b [] (x.in_hand ∷ [])) (ne_eqb (length x.in_hand.txs) 0 (λ none. some (h.lines ∙ none)))))
    (subst (λ k. AreSegments (x.parts ++ x.in_hand ∷ []) (or_bad c.bad (part_fault c.room c.order false) (k + 1))) (sym h.ended)
    (one_more_part x.parts x.in_hand c.bad (part_fault c.room c.order false) h.parts (left x.in_hand.txs refl h.in_hand)))
  where
    left : (txs : List Tx) → x.in_hand.txs ≡ txs → IsInHand txs c
        → segment_of x.in_hand ≡ unless (part_fault c.room c.order false) (record { name = part_name x.in_hand.txs; bytes = x.in_hand.bytes; txs = x.in_hand.txs })
    left [] was begun = absurd (some (h.lines ∙ ap length was))
    left (t ∷ later) was begun =
        let last : last_txid (t ∷ later) < 2 ^ 63 = omega (arith, begun.next, begun.last_in_range) in
        subst (λ txs. segment_of (record { bytes = x.in_hand.bytes; txs = txs }) ≡ unless (part_fault c.room c.order false) (record { name = part_name txs; bytes = x.in_hand.bytes; txs = txs })) (sym was)
        (judged_part x.in_hand.bytes t later c.room c.order false
        (subst (λ txs. AreRead (record { bytes = x.in_hand.bytes; txs = txs })) was h.read)
        begun.first_in_range last h.room begun.order (λ none. has_no_end later begun.not_ended))
