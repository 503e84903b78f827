-- What the checks say of lines that were read.
use Rattle.std.proofs.Common.{◌≡◌, ℕ, suc, ◌+◌, ◌-◌, ◌≤◌, List, [], ◌∷◌, ◌++◌, length, map, drop, Bool, true, false, cond, not, eqb, Option, Some, None, Result, Ok, Err, refl, sym, ap, ◌∙◌, inl, inr, ◌⊎◌, arith}
use Rattle.std.specs.Prelude.{is_none, slice_get}
use Rattle.std.proofs.lemmas.Bool.{le-ltb}
use Rattle.nn_edits.specs.declared.fault.LineFault.{LineFault}
use Rattle.nn_edits.specs.declared.fault.LineFault.TheVariants as line
use Rattle.nn_types.specs.declared.tx.Tx.{Tx}
use Rattle.nn_types.specs.declared.profile.Profile.{Profile}
use Rattle.nn_model.specs.Apply.{fault_if, first_fault}
use Rattle.nn_edits.specs.Outcome.{LineFails}
use Rattle.nn_segment.specs.declared.fault.SegmentFault.{SegmentFault}
use Rattle.nn_segment.specs.declared.fault.SegmentFault.TheVariants.{BadName, TooLong, NoStart, TornLine, BadLine, Gap, WrongProfile, NoEnd, NameMismatch}
use Rattle.nn_segment.specs.Name.{txids_of}
use Rattle.nn_segment.specs.Lines.{lines_of, is_ended, reads_of}
use Rattle.nn_segment.specs.Segment.{start_profile, allows, ends_once, last_txid}
use Rattle.nn_segment.specs.Reading.{later_fault, after_start, lines_fault, txs_in, names_txids, bytes_checks, lines_checks, fault_of_segment, fault_of_line, unless, read_segment}
use Rattle.nn_segment.specs.Outcome.{StopsAt}

abbrev pub Reads : Type 0
Reads = List (Result Tx LineFault)

-- ---- from the checks to the segment

lone : (o : Option SegmentFault) → first_fault (o ∷ []) ≡ o
lone None = refl
lone (Some e) = refl

pub all_txs : (txs : List Tx) → txs_in (map Ok txs) ≡ txs
all_txs [] = refl
all_txs (tx ∷ txs) = ap (λ ts. tx ∷ ts) (all_txs txs)

-- where name and bytes have no fault, the lines decide
pub by_lines : (name bytes : List ℕ) (txids : ℕ × ℕ) → txids_of name ≡ Some txids → first_fault (bytes_checks bytes) ≡ None
    → fault_of_segment name bytes ≡ first_fault (lines_checks (Some txids) (reads_of bytes))
unfolding fault_of_segment
by_lines name bytes txids named good =
    ap (λ o. first_fault (fault_if (is_none o) BadName ∷ first_fault (bytes_checks bytes) ∷ first_fault (lines_checks o (reads_of bytes)) ∷ [])) named
    ∙ ap (λ o. first_fault (o ∷ first_fault (lines_checks (Some txids) (reads_of bytes)) ∷ [])) good
    ∙ lone (first_fault (lines_checks (Some txids) (reads_of bytes)))

pub refused : (name bytes : List ℕ) (e : SegmentFault) → fault_of_segment name bytes ≡ Some e → read_segment name bytes ≡ Err e
unfolding read_segment
refused name bytes e is = rw is refl

pub accepted : (name bytes : List ℕ) (txs : List Tx) → fault_of_segment name bytes ≡ None → reads_of bytes ≡ map Ok txs
    → read_segment name bytes ≡ Ok (record { name = name; bytes = bytes; txs = txs })
unfolding read_segment
accepted name bytes txs is read =
    ap (λ o. unless o (record { name = name; bytes = bytes; txs = txs_in (reads_of bytes) })) is
    ∙ ap (λ reads. Ok (record { name = name; bytes = bytes; txs = txs_in reads })) read
    ∙ ap (λ ts. Ok (record { name = name; bytes = bytes; txs = ts })) (all_txs txs)

early : (name bytes : List ℕ) (e : SegmentFault) → first_fault (fault_if (is_none (txids_of name)) BadName ∷ first_fault (bytes_checks bytes) ∷ []) ≡ Some e → fault_of_segment name bytes ≡ Some e
unfolding fault_of_segment
early name bytes e is = two (fault_if (is_none (txids_of name)) BadName) (first_fault (bytes_checks bytes)) (first_fault (lines_checks (txids_of name) (reads_of bytes))) e is
  where
    two : (a b c : Option SegmentFault) (e : SegmentFault) → first_fault (a ∷ b ∷ []) ≡ Some e → first_fault (a ∷ b ∷ c ∷ []) ≡ Some e
    two (Some x) b c e is = is
    two None (Some x) c e is = is
    two None None c e is = absurd (cc)

-- a fault before the lines
pub refused_early : (name bytes : List ℕ) (e : SegmentFault) → first_fault (fault_if (is_none (txids_of name)) BadName ∷ first_fault (bytes_checks bytes) ∷ []) ≡ Some e
    → read_segment name bytes ≡ Err e
refused_early name bytes e is = refused name bytes e (early name bytes e is)

named_then : (name bytes : List ℕ) (txids : ℕ × ℕ) (o : Option SegmentFault) → txids_of name ≡ Some txids → first_fault (bytes_checks bytes) ≡ o
    → first_fault (fault_if (is_none (txids_of name)) BadName ∷ first_fault (bytes_checks bytes) ∷ []) ≡ o
named_then name bytes txids o named is =
    ap (λ t. first_fault (fault_if (is_none t) BadName ∷ first_fault (bytes_checks bytes) ∷ [])) named ∙ ap (λ x. first_fault (None ∷ x ∷ [])) is ∙ lone o

-- a name that names no txids
pub no_name : (name bytes : List ℕ) → txids_of name ≡ None → read_segment name bytes ≡ Err BadName
no_name name bytes none = refused_early name bytes BadName (ap (λ o. first_fault (fault_if (is_none o) BadName ∷ first_fault (bytes_checks bytes) ∷ [])) none)

-- a fault of the bytes, under a name
pub bytes_refused : (name bytes : List ℕ) (txids : ℕ × ℕ) (e : SegmentFault) → txids_of name ≡ Some txids → first_fault (bytes_checks bytes) ≡ Some e → read_segment name bytes ≡ Err e
bytes_refused name bytes txids e named is = refused_early name bytes e (named_then name bytes txids (Some e) named is)

-- ---- name and bytes

checks_of : Bool → Bool → Bool → ℕ → Option SegmentFault
checks_of long empty torn n = first_fault (fault_if long TooLong ∷ fault_if empty NoStart ∷ fault_if torn (TornLine n) ∷ [])

pub bytes_good : (bytes : List ℕ) → length bytes ≤ 16777216 → eqb (length bytes) 0 ≡ false → is_ended bytes ≡ true → first_fault (bytes_checks bytes) ≡ None
unfolding checks_of
bytes_good bytes short some ended =
    ap (λ b. checks_of b (eqb (length bytes) 0) (not (is_ended bytes)) (length (lines_of bytes))) (le-ltb 16777216 (length bytes) short)
    ∙ ap (λ b. checks_of false b (not (is_ended bytes)) (length (lines_of bytes))) some
    ∙ ap (λ b. checks_of false false (not b) (length (lines_of bytes))) ended

pub bytes_torn : (bytes : List ℕ) → length bytes ≤ 16777216 → eqb (length bytes) 0 ≡ false → is_ended bytes ≡ false
    → first_fault (bytes_checks bytes) ≡ Some (TornLine (length (lines_of bytes)))
unfolding checks_of
bytes_torn bytes short some torn =
    ap (λ b. checks_of b (eqb (length bytes) 0) (not (is_ended bytes)) (length (lines_of bytes))) (le-ltb 16777216 (length bytes) short)
    ∙ ap (λ b. checks_of false b (not (is_ended bytes)) (length (lines_of bytes))) some
    ∙ ap (λ b. checks_of false false (not b) (length (lines_of bytes))) torn

-- ---- order, before a bad line

later_first : (profile : Profile) (n expected : ℕ) (txs : List Tx) (rest : Reads) (e : SegmentFault) → later_fault profile n expected (map Ok txs) ≡ Some e
    → later_fault profile n expected (map Ok txs ++ rest) ≡ Some e
later_first profile n expected [] rest e is = absurd (cc)
later_first profile n expected (tx ∷ txs) rest e is = at (eqb tx.txid expected) (allows profile tx.edit) (later_first profile (n + 1) (tx.txid + 1) txs rest e) is
  where
    at : (t a : Bool) → (later_fault profile (n + 1) (tx.txid + 1) (map Ok txs) ≡ Some e → later_fault profile (n + 1) (tx.txid + 1) (map Ok txs ++ rest) ≡ Some e)
        → cond t (cond a (later_fault profile (n + 1) (tx.txid + 1) (map Ok txs)) (Some (WrongProfile n))) (Some (Gap expected)) ≡ Some e
        → cond t (cond a (later_fault profile (n + 1) (tx.txid + 1) (map Ok txs ++ rest)) (Some (WrongProfile n))) (Some (Gap expected)) ≡ Some e
    at true true more is = more is
    at true false more is = is
    at false a more is = is

lines_first : (txs : List Tx) (rest : Reads) (e : SegmentFault) → lines_fault (map Ok txs) ≡ Some e → lines_fault (map Ok txs ++ rest) ≡ Some e
lines_first [] rest e is = absurd (cc)
lines_first (tx ∷ txs) rest e is = at (start_profile tx.edit) is
  where
    at : (o : Option Profile) → after_start o (tx.txid + 1) (map Ok txs) ≡ Some e → after_start o (tx.txid + 1) (map Ok txs ++ rest) ≡ Some e
    at None is = is
    at (Some profile) is = later_first profile 2 (tx.txid + 1) txs rest e is

later_bad : (profile : Profile) (n expected : ℕ) (txs : List Tx) (fault : LineFault) (rest : Reads) → later_fault profile n expected (map Ok txs) ≡ None
    → later_fault profile n expected (map Ok txs ++ Err fault ∷ rest) ≡ Some (BadLine (n + length txs) fault)
later_bad profile n expected [] fault rest none = ap (λ k. Some (BadLine k fault)) (let same : n ≡ n + 0 = omega arith in same)
later_bad profile n expected (tx ∷ txs) fault rest none = at (eqb tx.txid expected) (allows profile tx.edit) (later_bad profile (n + 1) (tx.txid + 1) txs fault rest) none
  where
    at : (t a : Bool) → (later_fault profile (n + 1) (tx.txid + 1) (map Ok txs) ≡ None → later_fault profile (n + 1) (tx.txid + 1) (map Ok txs ++ Err fault ∷ rest) ≡ Some (BadLine (n + 1 + length txs) fault))
        → cond t (cond a (later_fault profile (n + 1) (tx.txid + 1) (map Ok txs)) (Some (WrongProfile n))) (Some (Gap expected)) ≡ None
        → cond t (cond a (later_fault profile (n + 1) (tx.txid + 1) (map Ok txs ++ Err fault ∷ rest)) (Some (WrongProfile n))) (Some (Gap expected)) ≡ Some (BadLine (n + suc (length txs)) fault)
    at true true more none = more none ∙ ap (λ k. Some (BadLine k fault)) (let same : n + 1 + length txs ≡ n + suc (length txs) = omega arith in same)
    at true false more none = absurd (cc)
    at false a more none = absurd (cc)

lines_bad : (txs : List Tx) (fault : LineFault) (rest : Reads) → lines_fault (map Ok txs) ≡ None
    → lines_fault (map Ok txs ++ Err fault ∷ rest) ≡ Some (BadLine (length txs + 1) fault)
lines_bad [] fault rest none = refl
lines_bad (tx ∷ txs) fault rest none = at (start_profile tx.edit) none
  where
    at : (o : Option Profile) → after_start o (tx.txid + 1) (map Ok txs) ≡ None → after_start o (tx.txid + 1) (map Ok txs ++ Err fault ∷ rest) ≡ Some (BadLine (suc (length txs) + 1) fault)
    at None none = absurd (cc)
    at (Some profile) none = later_bad profile 2 (tx.txid + 1) txs fault rest none ∙ ap (λ k. Some (BadLine k fault)) (let same : 2 + length txs ≡ suc (length txs) + 1 = omega arith in same)

-- ---- what a call finds of lines that were read up to a bad one

-- a fault of order among the transactions is the segment's
pub order_refuses : (txids : ℕ × ℕ) (reads : Reads) (txs : List Tx) (bad : Option LineFault) (e : SegmentFault) → StopsAt reads txs bad → lines_fault (map Ok txs) ≡ Some e
    → first_fault (lines_checks (Some txids) reads) ≡ Some e
order_refuses txids reads txs None e stops is = rw (stops, is) refl
order_refuses txids reads txs (Some fault) e stops is = rw (stops.2, lines_first txs (stops.0 ∷ stops.1) e is) refl

-- and then the bad line's
pub bad_refuses : (txids : ℕ × ℕ) (reads : Reads) (txs : List Tx) (fault : LineFault) → StopsAt reads txs (Some fault) → lines_fault (map Ok txs) ≡ None
    → (first_fault (lines_checks (Some txids) reads) ≡ Some (fault_of_line (length txs + 1) fault)) ⊎ (fault ≡ line.OutOfMemory)
bad_refuses txids reads txs fault stops none = at fault stops.3 (bad_line fault)
  where
    bad_line : (f : LineFault) → stops.0 ≡ Err f → first_fault (lines_checks (Some txids) reads) ≡ Some (BadLine (length txs + 1) f)
    bad_line f is =
        let same : reads ≡ map Ok txs ++ Err f ∷ stops.1 = stops.2 ∙ ap (λ r. map Ok txs ++ r ∷ stops.1) is in
        rw (same, lines_bad txs f stops.1 none) refl

    at : (f : LineFault) → LineFails f stops.0 → (stops.0 ≡ Err f → first_fault (lines_checks (Some txids) reads) ≡ Some (BadLine (length txs + 1) f))
        → (first_fault (lines_checks (Some txids) reads) ≡ Some (fault_of_line (length txs + 1) f)) ⊎ (f ≡ line.OutOfMemory)
    at line.OutOfMemory fails is = inr refl
    at line.NotJson fails is = inl (is fails)
    at line.MissingField fails is = inl (is fails)
    at line.BadNumber fails is = inl (is fails)
    at line.UnknownOp fails is = inl (is fails)
    at line.BadPath fails is = inl (is fails)
    at line.LineTooLong fails is = inl (is fails)
    at line.UnknownKind fails is = inl (is fails)

judge : Option SegmentFault → Bool → Bool → Option SegmentFault
judge o ends named = first_fault (o ∷ fault_if (not ends) NoEnd ∷ fault_if (not named) NameMismatch ∷ [])

judged : (txids : ℕ × ℕ) (reads : Reads) (txs : List Tx) → reads ≡ map Ok txs
    → first_fault (lines_checks (Some txids) reads) ≡ judge (lines_fault (map Ok txs)) (ends_once (drop 1 txs)) (names_txids (Some txids) txs)
unfolding judge
judged txids reads txs is =
    ap (λ rs. first_fault (lines_checks (Some txids) rs)) is
    ∙ ap (λ ts. first_fault (lines_fault (map Ok txs) ∷ fault_if (not (ends_once (drop 1 ts))) NoEnd ∷ fault_if (not (names_txids (Some txids) ts)) NameMismatch ∷ [])) (all_txs txs)

-- no end mark at the end alone
pub end_refuses : (txids : ℕ × ℕ) (reads : Reads) (txs : List Tx) → reads ≡ map Ok txs → lines_fault (map Ok txs) ≡ None → ends_once (drop 1 txs) ≡ false
    → first_fault (lines_checks (Some txids) reads) ≡ Some NoEnd
unfolding judge
end_refuses txids reads txs is none ends =
    judged txids reads txs is ∙ ap (λ o. judge o (ends_once (drop 1 txs)) (names_txids (Some txids) txs)) none ∙ ap (λ b. judge None b (names_txids (Some txids) txs)) ends

-- other txids than the name's
pub name_refuses : (txids : ℕ × ℕ) (reads : Reads) (txs : List Tx) → reads ≡ map Ok txs → lines_fault (map Ok txs) ≡ None → ends_once (drop 1 txs) ≡ true → names_txids (Some txids) txs ≡ false
    → first_fault (lines_checks (Some txids) reads) ≡ Some NameMismatch
unfolding judge
name_refuses txids reads txs is none ends named =
    judged txids reads txs is
    ∙ ap (λ o. judge o (ends_once (drop 1 txs)) (names_txids (Some txids) txs)) none
    ∙ ap (λ b. judge None b (names_txids (Some txids) txs)) ends
    ∙ ap (judge None true) named

pub none_refuses : (txids : ℕ × ℕ) (reads : Reads) (txs : List Tx) → reads ≡ map Ok txs → lines_fault (map Ok txs) ≡ None → ends_once (drop 1 txs) ≡ true → names_txids (Some txids) txs ≡ true
    → first_fault (lines_checks (Some txids) reads) ≡ None
unfolding judge
none_refuses txids reads txs is none ends named =
    judged txids reads txs is
    ∙ ap (λ o. judge o (ends_once (drop 1 txs)) (names_txids (Some txids) txs)) none
    ∙ ap (λ b. judge None b (names_txids (Some txids) txs)) ends
    ∙ ap (judge None true) named

-- ---- the last transaction

pub last_of : (txs : List Tx) (tx : Tx) → Some tx ≡ slice_get txs (length txs - 1) → last_txid txs ≡ tx.txid
last_of [] tx is = absurd (cc)
last_of (x ∷ []) tx is = let same : tx ≡ x = cc in ap (λ (t : Tx). t.txid) (sym same)
last_of (x ∷ y ∷ txs) tx is =
    last_of (y ∷ txs) tx (is ∙ ap (slice_get (x ∷ y ∷ txs)) (let same : suc (suc (length txs)) - 1 ≡ suc (suc (length txs) - 1) = omega arith in same))
