-- The edit lines of a scenario, cut into segments after each end mark.
use Rattle.std.specs.Prelude.{◌≡◌, ◌≤◌, ℕ, ◌+◌, ◌==◌, List, [], ◌∷◌, ◌++◌, length, map, max, true, if◌then◌else◌, Result, Ok, Err}
use Rattle.std.specs.List.{All, list_all}
use Rattle.nn_bytes.specs.Lines.{line_feed}
use Rattle.nn_edits.specs.Reading.{edit_of_line}
use Rattle.nn_types.specs.declared.tx.Tx.{Tx}
use Rattle.nn_bytes.specs.Pieces.{is_unbroken, joined_lines}
use Rattle.nn_segment.specs.Name.{segment_file_name}
use Rattle.nn_segment.specs.Reading.{read_segment}
use Rattle.nn_segment.specs.Segment.{Segment, is_end, last_txid}
use Rattle.nn_segment.specs.declared.fault.SegmentFault.{SegmentFault}
use Rattle.nn_scenario.specs.declared.segments.PartFault.{PartFault}

-- a line as it is, and the transaction that it is read as
pub record EditLine : Type 0 where
  pub text : List ℕ
  pub tx : Tx

-- what is to become one segment: its bytes, and the transactions that its lines were read as
pub record Part : Type 0 where
  pub bytes : List ℕ
  pub txs : List Tx

abbrev pub no_lines : Part
no_lines = record { bytes = []; txs = [] }

-- the part with one more line, which a line feed ends
abbrev pub with_line : Part → EditLine → Part
with_line part line = record { bytes = part.bytes ++ line.text ++ line_feed ∷ []; txs = part.txs ++ line.tx ∷ [] }

-- the part alone, unless it has no lines
abbrev pub last_part : Part → List Part
last_part part = if length part.txs == 0 then [] else part ∷ []

-- the parts that lines are cut into, where the lines of a part in hand come before them: an end mark ends its part
unfoldable pub parts_from : Part → List EditLine → List Part
parts_from part [] = last_part part
parts_from part (line ∷ lines) =
    if is_end line.tx.edit
    then with_line part line ∷ parts_from no_lines lines
    else parts_from (with_line part line) lines

-- lines, cut after each end mark
abbrev pub cut : List EditLine → List Part
cut lines = parts_from no_lines lines

-- the bytes of a part are whole lines that are read as its transactions, which are numbered from 1
pub record AreRead (part : Part) : Type 0 where
  pub lines : List (List ℕ)
  pub unbroken : list_all is_unbroken lines ≡ true
  pub joined : part.bytes ≡ joined_lines lines
  pub reads : map edit_of_line lines ≡ map Ok part.txs
  pub from_one : All (λ tx. 1 ≤ tx.txid) part.txs

-- ---- Parts as segments.

-- the name of a part: its first and its last txid, or the first twice where the last is smaller
abbrev pub part_name : List Tx → List ℕ
part_name [] = []
part_name (tx ∷ txs) = segment_file_name tx.txid (max tx.txid (last_txid (tx ∷ txs)))

-- the segment that a part is, or its first fault
abbrev pub segment_of : Part → Result Segment SegmentFault
segment_of part = read_segment (part_name part.txs) part.bytes

abbrev pub with_segment : ℕ → Result Segment SegmentFault → Result (List Segment) PartFault → Result (List Segment) PartFault
with_segment k (Ok s) (Ok later) = Ok (s ∷ later)
with_segment k (Ok s) (Err bad) = Err bad
with_segment k (Err fault) later = Err (record { fault = fault; segment = k })

-- the segments of parts that are counted from k, or the first fault with its segment
unfoldable pub segments_from : ℕ → List Part → Result (List Segment) PartFault
segments_from k [] = Ok []
segments_from k (part ∷ parts) = with_segment k (segment_of part) (segments_from (k + 1) parts)
