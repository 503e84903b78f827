-- A log that is checked line by line, where its last part has not ended.
use Rattle.std.specs.Prelude.{◌≡◌, ℕ, ◌+◌, ◌-◌, ◌≤◌, ◌<◌, ◌^◌, List, [], ◌∷◌, ◌++◌, length, map, Bool, true, false, not, ◌==◌, ◌&&◌, ◌||◌, if◌then◌else◌, Option, Some, None, Ok, Err}
use Rattle.std.specs.List.{list_any}
use Rattle.nn_types.specs.declared.profile.Profile.{Profile}
use Rattle.nn_types.specs.declared.tx.Tx.{Tx}
use Rattle.nn_segment.specs.Reading.{lines_fault}
use Rattle.nn_segment.specs.Segment.{Segment, start_profile, is_start, is_end, allows, last_txid}
use Rattle.nn_segment.specs.declared.fault.SegmentFault.{SegmentFault}
use Rattle.nn_segment.specs.declared.fault.SegmentFault.TheVariants.{NoStart, Gap, WrongProfile, TooLong, NoEnd}
use Rattle.nn_scenario.specs.Cut.{Part, AreRead, segments_from}
use Rattle.nn_scenario.specs.Reading.{Reading}
use Rattle.nn_scenario.specs.declared.segments.PartFault.{PartFault}

-- what is known of the part in hand, how many parts have ended, and the first of them that has a fault
pub record SegmentCheck : Type 0 where
  pub room : ℕ  -- the bytes that the part in hand may still have, and one
  pub lines : ℕ
  pub profile : Option Profile  -- of its first line, if that is a start mark
  pub next : ℕ  -- the txid behind its last line's
  pub order : Option SegmentFault  -- the first fault of its lines
  pub inside : Bool  -- whether a start mark is behind its first line
  pub ended : ℕ
  pub bad : Option PartFault

-- ---- What the check does with a line.

-- the fault of a first line of this profile
abbrev pub first_line_fault : Option Profile → Option SegmentFault
first_line_fault None = Some NoStart
first_line_fault (Some profile) = None

-- the fault of line n, which is to be the transaction with the expected txid, in a part of this profile
abbrev pub later_line_fault : Option Profile → ℕ → ℕ → Tx → Option SegmentFault
later_line_fault None n expected tx = Some NoStart
later_line_fault (Some profile) n expected tx = if tx.txid == expected then (if allows profile tx.edit then None else Some (WrongProfile n)) else Some (Gap expected)

-- the fault so far, or another
abbrev pub or_fault : Option SegmentFault → Option SegmentFault → Option SegmentFault
or_fault None more = more
or_fault (Some fault) more = Some fault

-- a first line, of so many bytes with its line feed
abbrev pub begun : SegmentCheck → ℕ → Tx → SegmentCheck
begun c bytes tx = record {
  room = c.room - bytes;
  lines = 1;
  profile = start_profile tx.edit;
  next = tx.txid + 1;
  order = first_line_fault (start_profile tx.edit);
  inside = false;
  ended = c.ended;
  bad = c.bad;
}

-- a later line
abbrev pub gone_on : SegmentCheck → ℕ → Tx → SegmentCheck
gone_on c bytes tx = record {
  room = c.room - bytes;
  lines = c.lines + 1;
  profile = c.profile;
  next = tx.txid + 1;
  order = or_fault c.order (later_line_fault c.profile (c.lines + 1) c.next tx);
  inside = c.inside || is_start tx.edit;
  ended = c.ended;
  bad = c.bad;
}

abbrev pub line_added : SegmentCheck → ℕ → Tx → SegmentCheck
line_added c bytes tx = if c.lines == 0 then begun c bytes tx else gone_on c bytes tx

-- the fault of a part with so much room left, this fault of its lines, and whether its only mark behind the first line is an end mark, its last line
abbrev pub part_fault : ℕ → Option SegmentFault → Bool → Option SegmentFault
part_fault room order ends = if room == 0 then Some TooLong else or_fault order (if ends then None else Some NoEnd)

-- the first segment with a fault, where the next one has this
abbrev pub or_bad : Option PartFault → Option SegmentFault → ℕ → Option PartFault
or_bad (Some bad) fault segment = Some bad
or_bad None None segment = None
or_bad None (Some fault) segment = Some (record { fault = fault; segment = segment })

-- the part in hand ends, with an end mark or without
abbrev pub part_ended : SegmentCheck → Bool → SegmentCheck
part_ended c marked = record {
  room = 16777217;
  lines = 0;
  profile = c.profile;
  next = c.next;
  order = c.order;
  inside = c.inside;
  ended = c.ended + 1;
  bad = or_bad c.bad (part_fault c.room c.order (marked && not c.inside)) (c.ended + 1);
}

-- one more line, of so many bytes with its line feed
abbrev pub line_checked : SegmentCheck → ℕ → Tx → SegmentCheck
line_checked c bytes tx = if is_end tx.edit then part_ended (line_added c bytes tx) true else line_added c bytes tx

-- ---- What it knows.

-- of a part that begins so
pub record HasBegunPart (t : Tx) (later : List Tx) (c : SegmentCheck) : Type 0 where
  pub profile : c.profile ≡ start_profile t.edit
  pub next : c.next ≡ last_txid (t ∷ later) + 1
  pub order : c.order ≡ lines_fault (map Ok (t ∷ later))
  pub inside : c.inside ≡ list_any (λ (tx : Tx). is_start tx.edit) later
  pub not_ended : not (list_any (λ (tx : Tx). is_end tx.edit) later) ≡ true
  pub first_in_range : t.txid < 2 ^ 63
  pub last_in_range : c.next ≤ 2 ^ 63

abbrev pub IsInHand : List Tx → SegmentCheck → Type 0
IsInHand [] c = Unit {0}
IsInHand (t ∷ later) c = HasBegunPart t later c

-- parts are segments, or this is the first that has a fault, whatever parts follow
abbrev pub AreSegments : List Part → Option PartFault → Type 0
AreSegments parts None = (segments : List Segment) × (segments_from 1 parts ≡ Ok segments) × (map (λ (s : Segment). s.txs) segments ≡ map (λ (p : Part). p.txs) parts)
AreSegments parts (Some bad) = (more : List Part) → segments_from 1 (parts ++ more) ≡ Err bad

-- the check is of the parts that were read, and of the part in hand
pub record IsCheckOf (x : Reading) (c : SegmentCheck) : Type 0 where
  pub read : AreRead x.in_hand
  pub room : c.room ≡ 16777217 - length x.in_hand.bytes
  pub lines : c.lines ≡ length x.in_hand.txs
  pub in_hand : IsInHand x.in_hand.txs c
  pub ended : c.ended ≡ length x.parts
  pub parts : AreSegments x.parts c.bad
