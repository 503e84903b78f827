-- What is read without a fault is a segment, and a segment is read without a fault.
use Rattle.std.proofs.Common.{◌≡◌, ℕ, suc, ◌+◌, ◌-◌, ◌<◌, ◌≤◌, List, [], ◌∷◌, length, map, drop, Bool, true, false, cond, not, eqb, ltb, Option, Some, None, Ok, Err, refl, sym, ap, ◌∙◌, subst, arith}
use Rattle.std.specs.Prelude.{is_none, is_some}
use Rattle.std.proofs.lemmas.Bool.{and_parts, and_from, ne_eqb, eqb-true, eq-eqb, ltb-false, not-false}
use Rattle.nn_types.specs.declared.tx.Tx.{Tx}
use Rattle.nn_types.specs.declared.profile.Profile.{Profile}
use Rattle.nn_model.specs.Log.{CountsUp}
use Rattle.nn_model.specs.Apply.{fault_if, first_fault}
use Rattle.nn_segment.specs.declared.fault.SegmentFault.{SegmentFault}
use Rattle.nn_segment.specs.declared.fault.SegmentFault.TheVariants.{BadName, TooLong, NoStart, TornLine, NoEnd, NameMismatch, Gap, WrongProfile}
use Rattle.nn_segment.specs.Name.{txids_of, IsNameOf}
use Rattle.nn_segment.specs.Lines.{lines_of, is_ended, reads_of}
use Rattle.nn_segment.specs.Segment.{Segment, max_bytes, start_profile, allows, allows_all, allowed_by, keeps_profile, starts, ends_once, first_txid, last_txid, IsSegment}
use Rattle.nn_segment.specs.Reading.{later_fault, after_start, lines_fault, txs_in, names_txids, bytes_checks, lines_checks, fault_of_segment, unless, read_segment}
use Rattle.nn_segment.proofs.Names.{named, names}
use Rattle.nn_segment.proofs.ReadingLemmas.{Reads, by_lines, accepted, bytes_good, none_refuses}

-- ---- no fault, check by check

pub first_none : (o : Option SegmentFault) (os : List (Option SegmentFault)) → first_fault (o ∷ os) ≡ None → (o ≡ None) × (first_fault os ≡ None)
first_none None os e = (refl, e)
first_none (Some x) os e = absurd (cc)

when_none : (b : Bool) (x : SegmentFault) → fault_if b x ≡ None → b ≡ false
when_none true x e = absurd (cc)
when_none false x e = refl

some_if : {A : Type 0} (o : Option A) → is_none o ≡ false → (x : A) × (o ≡ Some x)
some_if None e = absurd (cc)
some_if (Some x) e = (x, refl)

-- ---- lines with no fault

-- each is read, they count up, and a segment of this profile may have them
pub record Counted (profile : Profile) (last : ℕ) (reads : Reads) : Type 0 where
  pub all : reads ≡ map Ok (txs_in reads)
  pub up : CountsUp last (txs_in reads)
  pub allowed : allows_all profile (txs_in reads) ≡ true

later_counted : (profile : Profile) (n last : ℕ) (reads : Reads) → later_fault profile n (last + 1) reads ≡ None → Counted profile last reads
later_counted profile n last [] e = record { all = refl; up = tt; allowed = refl }
later_counted profile n last (Err x ∷ reads) e = absurd (cc)
later_counted profile n last (Ok tx ∷ reads) e =
    at (eqb tx.txid (last + 1)) refl (allows profile tx.edit) refl e (later_counted profile (n + 1) tx.txid reads)
  where
    at : (t : Bool) → eqb tx.txid (last + 1) ≡ t → (a : Bool) → allows profile tx.edit ≡ a
        → cond t (cond a (later_fault profile (n + 1) (tx.txid + 1) reads) (Some (WrongProfile n))) (Some (Gap (last + 1))) ≡ None
        → (later_fault profile (n + 1) (tx.txid + 1) reads ≡ None → Counted profile tx.txid reads) → Counted profile last (Ok tx ∷ reads)
    at false is a may e more = absurd (cc)
    at true is false may e more = absurd (cc)
    at true is true may e more =
        let rest = more e in
        record { all = ap (λ rs. Ok tx ∷ rs) rest.all; up = (eqb-true tx.txid (last + 1) is, rest.up); allowed = and_from _ _ may rest.allowed }

-- and the first is a start mark
pub record Ordered (reads : Reads) : Type 0 where
  pub starts : 0 < length (txs_in reads) → starts (txs_in reads) ≡ true
  pub all : 1 ≤ first_txid (txs_in reads) → reads ≡ map Ok (txs_in reads)
  pub up : 1 ≤ first_txid (txs_in reads) → CountsUp (first_txid (txs_in reads) - 1) (txs_in reads)
  pub profile : 0 < length (txs_in reads) → keeps_profile (txs_in reads) ≡ true

lines_ordered : (reads : Reads) → lines_fault reads ≡ None → Ordered reads
lines_ordered [] e = record { starts = λ some. absurd (omega arith); all = λ some. refl; up = λ some. tt; profile = λ some. absurd (omega arith) }
lines_ordered (Err x ∷ reads) e = absurd (cc)
lines_ordered (Ok tx ∷ reads) e = at (start_profile tx.edit) refl e
  where
    at : (o : Option Profile) → start_profile tx.edit ≡ o → after_start o (tx.txid + 1) reads ≡ None → Ordered (Ok tx ∷ reads)
    at None is e = absurd (cc)
    at (Some profile) is e =
        let rest = later_counted profile 2 tx.txid reads e in
        record {
          starts = λ some. ap is_some is;
          all = λ some. ap (λ rs. Ok tx ∷ rs) rest.all;
          up = λ some. (omega arith, rest.up);
          profile = λ some. ap (λ p. allowed_by p (txs_in reads)) is ∙ rest.allowed;
        }

some_txs : (txs : List Tx) → ends_once (drop 1 txs) ≡ true → 0 < length txs
some_txs [] e = absurd (cc)
some_txs (tx ∷ txs) e = omega arith

is_named_parts : (txids : ℕ × ℕ) (txs : List Tx) → names_txids (Some txids) txs ≡ true → (txids.0 ≡ first_txid txs) × (txids.1 ≡ last_txid txs)
is_named_parts txids txs e = let both = and_parts _ _ e in (eqb-true txids.0 (first_txid txs) both.0, eqb-true txids.1 (last_txid txs) both.1)

-- a segment, from the checks on name, bytes and lines
pub whole : (name bytes : List ℕ) (txids : ℕ × ℕ) → txids_of name ≡ Some txids → first_fault (bytes_checks bytes) ≡ None → first_fault (lines_checks (Some txids) (reads_of bytes)) ≡ None
    → IsSegment (record { name = name; bytes = bytes; txs = txs_in (reads_of bytes) })
whole name bytes txids is_name good lines_good =
    let reads = reads_of bytes in
    let txs = txs_in (reads_of bytes) in
    let long = first_none (fault_if (ltb max_bytes (length bytes)) TooLong) _ good in
    let empty = first_none (fault_if (eqb (length bytes) 0) NoStart) _ long.1 in
    let torn = first_none (fault_if (not (is_ended bytes)) (TornLine (length (lines_of bytes)))) _ empty.1 in
    let order = first_none (lines_fault reads) _ lines_good in
    let end = first_none (fault_if (not (ends_once (drop 1 txs))) NoEnd) _ order.1 in
    let other = first_none (fault_if (not (names_txids (Some txids) txs)) NameMismatch) _ end.1 in
    let ended : ends_once (drop 1 txs) ≡ true = not-false _ (when_none _ NoEnd end.0) in
    let same = is_named_parts txids txs (not-false _ (when_none _ NameMismatch other.0)) in
    let of = named name txids.0 txids.1 is_name in
    let ordered = lines_ordered reads order.0 in
    let one : 1 ≤ first_txid txs = subst (λ n. 1 ≤ n) same.0 of.from_one in
    record {
      short = ltb-false max_bytes (length bytes) (when_none _ TooLong long.0);
      ended = not-false _ (when_none _ (TornLine (length (lines_of bytes))) torn.0);
      lines = ordered.all one;
      counts_up = ordered.up one;
      named = subst (λ l. IsNameOf name (first_txid txs) l) same.1 (subst (λ f. IsNameOf name f txids.1) same.0 of);
      starts = ordered.starts (some_txs txs ended);
      ends = ended;
      keeps_profile = ordered.profile (some_txs txs ended);
    }

fault_parts : (name bytes : List ℕ) → fault_of_segment name bytes ≡ None → (txids : ℕ × ℕ) × (txids_of name ≡ Some txids) × (first_fault (bytes_checks bytes) ≡ None) × (first_fault (lines_checks (Some txids) (reads_of bytes)) ≡ None)
unfolding fault_of_segment
fault_parts name bytes e =
    let bad = first_none (fault_if (is_none (txids_of name)) BadName) _ e in
    let early = first_none (first_fault (bytes_checks bytes)) _ bad.1 in
    let late = first_none (first_fault (lines_checks (txids_of name) (reads_of bytes))) [] early.1 in
    let found = some_if (txids_of name) (when_none _ BadName bad.0) in
    (found.0, found.1, early.0, ap (λ o. first_fault (lines_checks o (reads_of bytes))) (sym found.1) ∙ late.0)

-- what is read is a segment of that name and those bytes
pub read_is_segment : (name bytes : List ℕ) (s : Segment) → read_segment name bytes ≡ Ok s → IsSegment s × (s.name ≡ name) × (s.bytes ≡ bytes)
unfolding read_segment
read_is_segment name bytes s e = at (fault_of_segment name bytes) refl e
  where
    at : (o : Option SegmentFault) → fault_of_segment name bytes ≡ o → unless o (record { name = name; bytes = bytes; txs = txs_in (reads_of bytes) }) ≡ Ok s → IsSegment s × (s.name ≡ name) × (s.bytes ≡ bytes)
    at (Some x) none e = absurd (cc)
    at None none e =
        let parts = fault_parts name bytes none in
        let is : IsSegment (record { name = name; bytes = bytes; txs = txs_in (reads_of bytes) }) = whole name bytes parts.0 parts.1 parts.2 parts.3 in
        let itself : record { name = name; bytes = bytes; txs = txs_in (reads_of bytes) } ≡ s = cc in
        (subst IsSegment itself is, ap (λ (x : Segment). x.name) (sym itself), ap (λ (x : Segment). x.bytes) (sym itself))

-- ---- and back

later_none : (profile : Profile) (n last : ℕ) (txs : List Tx) → CountsUp last txs → allows_all profile txs ≡ true → later_fault profile n (last + 1) (map Ok txs) ≡ None
later_none profile n last [] up allowed = refl
later_none profile n last (tx ∷ txs) up allowed =
    let both = and_parts (allows profile tx.edit) (allows_all profile txs) allowed in
    ap (λ t. cond t (cond (allows profile tx.edit) (later_fault profile (n + 1) (tx.txid + 1) (map Ok txs)) (Some (WrongProfile n))) (Some (Gap (last + 1)))) (eq-eqb tx.txid (last + 1) up.0)
    ∙ ap (λ t. cond t (later_fault profile (n + 1) (tx.txid + 1) (map Ok txs)) (Some (WrongProfile n))) both.0
    ∙ later_none profile (n + 1) tx.txid txs up.1 both.1

lines_none : (txs : List Tx) → keeps_profile txs ≡ true → CountsUp (first_txid txs - 1) txs → lines_fault (map Ok txs) ≡ None
lines_none [] e up = refl
lines_none (tx ∷ txs) e up = at (start_profile tx.edit) e
  where
    at : (o : Option Profile) → allowed_by o txs ≡ true → after_start o (tx.txid + 1) (map Ok txs) ≡ None
    at None e = absurd (cc)
    at (Some profile) e = later_none profile 2 tx.txid txs up.1 e

some_lines : (bytes : List ℕ) (txs : List Tx) → reads_of bytes ≡ map Ok txs → starts txs ≡ true → eqb (length bytes) 0 ≡ false
unfolding reads_of
some_lines [] [] is e = absurd (cc)
some_lines [] (tx ∷ txs) is e = absurd (cc)
some_lines (b ∷ bytes) txs is e = ne_eqb (suc (length bytes)) 0 (λ z. omega arith)

-- a segment is read
pub segment_is_read : (s : Segment) → IsSegment s → read_segment s.name s.bytes ≡ Ok s
segment_is_read s is =
    let txids : ℕ × ℕ = (first_txid s.txs, last_txid s.txs) in
    let found = names s.name (first_txid s.txs) (last_txid s.txs) is.named in
    let good = bytes_good s.bytes is.short (some_lines s.bytes s.txs is.lines is.starts) is.ended in
    let order = lines_none s.txs is.keeps_profile is.counts_up in
    let same = and_from _ _ (eq-eqb (first_txid s.txs) (first_txid s.txs) refl) (eq-eqb (last_txid s.txs) (last_txid s.txs) refl) in
    let none = by_lines s.name s.bytes txids found good ∙ none_refuses txids (reads_of s.bytes) s.txs is.lines order is.ends same in
    accepted s.name s.bytes s.txs none is.lines
