-- What is passed over, taken in hand, and read on.
use Rattle.std.proofs.Common.{◌≡◌, ℕ, ◌+◌, ◌-◌, ◌^◌, ◌<◌, ◌≤◌, true, false, cond, List, [], ◌∷◌, ◌++◌, length, Ok, Err, refl, sym, ap, ◌∙◌, subst, arith}
use Rattle.std.specs.Prelude.{not, ◌==◌, drop, map, flat_map}
use Rattle.std.proofs.lemmas.List.{map-append}
use Rattle.std.proofs.lemmas.Bool.{eq-eqb, eqb-true, not-false}
use Rattle.nn_types.specs.declared.tx.Tx.{Tx}
use Rattle.nn_model.specs.Log.{counted, CountsUp}
use Rattle.nn_model.proofs.Logs.{counted_append, counts_up}
use Rattle.nn_segment.specs.Segment.{Segment, first_txid, IsSegment}
use Rattle.nn_segment.specs.Source.{Answer, Asked, given, end}
use Rattle.nn_segment.specs.LogEnd.{end_of_txs, and_then, end_of_log, given_in}
use Rattle.nn_segment.specs.LogLeft.{LogLeft, end_of_left, ComesNext, IsMissing, LeavesSame}
use Rattle.nn_segment.specs.Cursor.{is_passed, PassesOver, TakesUp, log_left, ReadsOn}
use Rattle.nn_segment.specs.declared.fault.SourceFault.{SourceFault}
use Rattle.nn_segment.specs.declared.cursor.TakenUp.TheVariants as taken_up
use Rattle.nn_segment.specs.declared.cursor.Next.TheVariants as next
use Rattle.nn_segment.proofs.Asks.{asked_again, one_given, end_gives_none, fault_gives_none}
use Rattle.nn_segment.proofs.Walks.{high_adds_nothing}
use Rattle.nn_segment.proofs.LogLemmas.{one_taken, one_missing, segment_taken, one_left, segment_left}

-- ---- passing over

not_next : (last : ℕ) (tx : Tx) (txs : List Tx) → is_passed last (tx ∷ txs) ≡ true → counted last (tx ∷ txs) ≡ counted last txs
not_next last tx txs is = elim (tx.txid == last + 1) as (λ b. not b ≡ true → cond b (tx ∷ counted tx.txid txs) (counted last txs) ≡ counted last txs) [
  | true ↦ λ e. absurd (cc)
  | false ↦ λ e. refl
] is

-- as many as were passed over so far
pub record Passing (last : ℕ) (old new : List Tx) : Type 0 where
  pub same : counted last old ≡ counted last new
  pub counts_up : (before : ℕ) → CountsUp before old → (from : ℕ) × CountsUp from new

pub one_more : (last : ℕ) (old mid : List Tx) → is_passed last mid ≡ true → Passing last old mid → Passing last old (drop 1 mid)
one_more last old [] is p = absurd (cc)
one_more last old (tx ∷ txs) is p = record {
  same = p.same ∙ not_next last tx txs is;
  counts_up = λ before up. let q = p.counts_up before up in (tx.txid, q.1.1);
}

pub passed : (last : ℕ) (old new : List Tx) → is_passed last new ≡ false → Passing last old new → PassesOver last old new
passed last old new is p = record { same = p.same; first = is; counts_up = p.counts_up }

-- it begins with the next transaction
is_next : (last : ℕ) (tx : Tx) → not (tx.txid == last + 1) ≡ false → tx.txid ≡ last + 1
is_next last tx is = eqb-true tx.txid (last + 1) (not-false (tx.txid == last + 1) is)

next_counts : (last : ℕ) (tx : Tx) (txs : List Tx) → tx.txid ≡ last + 1 → counted last (tx ∷ txs) ≡ tx ∷ counted tx.txid txs
next_counts last tx txs is = ap (λ b. cond b (tx ∷ counted tx.txid txs) (counted last txs)) (eq-eqb tx.txid (last + 1) is)

-- ---- what counts, counts

counts_all : (last : ℕ) (txs : List Tx) → CountsUp last txs → counted last txs ≡ txs
counts_all last [] up = refl
counts_all last (tx ∷ txs) up = next_counts last tx txs up.0 ∙ ap (λ rest. tx ∷ rest) (counts_all tx.txid txs up.1)

all_of_it : (last from : ℕ) (txs : List Tx) → is_passed last txs ≡ false → CountsUp from txs → counted last txs ≡ txs
all_of_it last from [] is up = refl
all_of_it last from (tx ∷ txs) is up = counts_all last (tx ∷ txs) (is_next last tx is, up.1)

-- of a segment just what counts is left
pub above_it : (last : ℕ) (s : Segment) (txs : List Tx) → IsSegment s → PassesOver last s.txs txs → txs ≡ counted last s.txs
above_it last s txs is p =
    let up = p.counts_up (first_txid s.txs - 1) is.counts_up in
    sym (all_of_it last up.0 txs p.first up.1) ∙ sym p.same

pub counted_twice : (last : ℕ) (txs : List Tx) → counted last (counted last txs) ≡ counted last txs
counted_twice last txs = counts_all last (counted last txs) (counts_up last txs)

-- ---- the source was asked once

pub high_counts_none : (last : ℕ) (s : Segment) → IsSegment s → last + 1 < first_txid s.txs → counted last s.txs ≡ []
high_counts_none last s is high = high_adds_nothing last s is high

-- so the next txid is one that a transaction may have
pub is_missing : (last : ℕ) (s : Segment) → IsSegment s → last + 1 < first_txid s.txs → last + 1 < 2 ^ 63
is_missing last s is high = let to = is.named.in_order in let small = is.named.in_range in omega (arith, high, to, small)

-- ---- what is left, when the same counts

abbrev txs_of : List Segment → List Tx
txs_of segments = flat_map (λ segment. segment) (map (λ (s : Segment). s.txs) segments)

same_counts : (last : ℕ) (old new : List Tx) (later : List Segment) → counted last old ≡ counted last new
    → LeavesSame last (record { txs = old; segments = later }) (record { txs = new; segments = later })
same_counts last old new later is = (
  λ n. ap (λ txs. and_then (end_of_txs last n txs) (λ end. end_of_log end.last end.namespace later)) is,
  counted_append last old (txs_of later)
      ∙ ap (λ own. own ++ counted (last + length own) (txs_of later)) is
      ∙ sym (counted_append last new (txs_of later)),
)

same_then : (last : ℕ) (a b c : LogLeft) → LeavesSame last a b → LeavesSame last b c → LeavesSame last a c
same_then last a b c f g = (λ n. f.0 n ∙ g.0 n, f.1 ∙ g.1)

-- where nothing in hand counts, a segment that begins no higher than the next txid comes in hand
segment_comes : (last : ℕ) (hand : List Tx) (s : Segment) (later : List Segment) → counted last hand ≡ [] → first_txid s.txs ≤ last + 1
    → LeavesSame last (record { txs = hand; segments = s ∷ later }) (record { txs = s.txs; segments = later })
segment_comes last hand s later none low = (
  λ n. segment_taken last n (record { txs = hand; segments = s ∷ later }) s later none refl low,
  segment_left last (record { txs = hand; segments = s ∷ later }) s later none refl,
)

-- ---- answer by answer

-- the log was read on so far, and nothing was passed over that counts
pub record Walking {S : Type 0} (gives : S → Answer → S → Type 0) (failures : S → ℕ) (last : ℕ) (s t : S) (old new : List Tx) : Type 0 where
  pub counted : failures s ≤ failures t
  pub answers : List Answer
  pub asked : Asked gives s answers t
  pub segments : List Segment
  pub all_given : answers ≡ map given segments
  pub same : (later : List Segment) → LeavesSame last (log_left old answers later) (log_left new [] later)

-- nothing was asked yet
pub walk_begins : {S : Type 0} (gives : S → Answer → S → Type 0) (failures : S → ℕ) (last : ℕ) (s : S) (old : List Tx) → Walking gives failures last s s old old
walk_begins gives failures last s old = record {
  counted = omega arith;
  answers = [];
  asked = refl;
  segments = [];
  all_given = refl;
  same = λ later. (λ n. refl, refl);
}

-- one more segment was given
more_given : (answers : List Answer) (segments : List Segment) (answer : Answer) (s : Segment) → answers ≡ map given segments → answer ≡ given s
    → answers ++ answer ∷ [] ≡ map given (segments ++ s ∷ [])
more_given answers segments answer s all is =
    ap (λ a. answers ++ a ∷ []) is ∙ ap (λ given_so_far. given_so_far ++ given s ∷ []) all ∙ sym (map-append given segments (s ∷ []))

-- and at last another answer
then_given : (answers : List Answer) (segments : List Segment) (answer to : Answer) → answers ≡ map given segments → answer ≡ to → answers ++ answer ∷ [] ≡ map given segments ++ to ∷ []
then_given answers segments answer to all is = ap (λ a. answers ++ a ∷ []) is ∙ ap (λ given_so_far. given_so_far ++ to ∷ []) all

module _ (last : ℕ) (old : List Tx) (answers : List Answer) (mid : List Tx) (same : (later : List Segment) → LeavesSame last (log_left old answers later) (log_left mid [] later)) where
  -- one more answer
  moved : (answer : Answer) (s : Segment) (later : List Segment) → answer ≡ given s → log_left old (answers ++ answer ∷ []) later ≡ log_left old answers (s ∷ later)
  moved answer s later is = ap (λ segments. record { txs = old; segments = segments })
      (ap (λ a. given_in (answers ++ a ∷ []) ++ later) is ∙ one_given answers s later)

  pub reads_transaction : (tx : Tx) (new : List Tx) (later : List Segment) → tx.txid ≡ last + 1 → counted last mid ≡ tx ∷ counted tx.txid new
      → ComesNext last (log_left old answers later) tx (log_left new [] later)
  reads_transaction tx new later next is = (
    next,
    λ n. (same later).0 n ∙ one_taken last n (log_left mid [] later) (log_left new [] later) tx is refl,
    (same later).1 ∙ one_left last (log_left mid [] later) (log_left new [] later) tx next is refl,
  )

  pub reads_gap : (hand : List Tx) (answer : Answer) (s : Segment) (later : List Segment) → counted last mid ≡ [] → answer ≡ given s → last + 1 < first_txid s.txs
      → IsMissing last (log_left old (answers ++ answer ∷ []) later)
  reads_gap hand answer s later none is high = λ n.
      ap (end_of_left last n) (moved answer s later is)
      ∙ (same (s ∷ later)).0 n
      ∙ one_missing last n (log_left mid [] (s ∷ later)) s later none refl high

  pub reads_segment : (new : List Tx) (answer : Answer) (s : Segment) (later : List Segment) → counted last mid ≡ [] → answer ≡ given s → first_txid s.txs ≤ last + 1
      → counted last s.txs ≡ counted last new → LeavesSame last (log_left old (answers ++ answer ∷ []) later) (log_left new [] later)
  reads_segment new answer s later none is low counts =
      subst (λ left. LeavesSame last left (log_left new [] later)) (sym (moved answer s later is))
      (same_then last (log_left old answers (s ∷ later)) (log_left mid [] (s ∷ later)) (log_left new [] later) (same (s ∷ later))
      (same_then last (log_left mid [] (s ∷ later)) (log_left s.txs [] later) (log_left new [] later) (segment_comes last mid s later none low) (same_counts last s.txs new later counts)))

  -- an answer with no segment
  pub reads_nothing : (answer : Answer) (later : List Segment) → given_in (answers ++ answer ∷ []) ≡ given_in answers
      → LeavesSame last (log_left old (answers ++ answer ∷ []) later) (log_left mid [] later)
  reads_nothing answer later is =
      subst (λ (segments : List Segment). LeavesSame last (record { txs = old; segments = segments ++ later }) (log_left mid [] later)) (sym is) (same later)

-- ---- the walk, one call further

-- what was in hand counts no more, and nothing is in hand
abbrev pub IsSpent : ℕ → List Tx → List Tx → Type 0
IsSpent last mid hand = (counted last mid ≡ []) × (hand ≡ [])

module _ {S : Type 0} (gives : S → Answer → S → Type 0) (failures : S → ℕ) (last : ℕ) (s t : S) (old mid : List Tx) (w : Walking gives failures last s t old mid) where
  pub walk_gives : (tx : Tx) (new : List Tx) → (tx.txid ≡ last + 1) × (counted last mid ≡ tx ∷ counted tx.txid new) → ReadsOn gives last s old t new (Ok (next.Transaction tx))
  walk_gives tx new h = (w.answers, w.asked, λ later. reads_transaction last old w.answers mid w.same tx new later h.0 h.1, (w.segments, w.all_given))

  module _ (u : S) (answer : Answer) (asked : gives t answer u) (hand new : List Tx) (spent : IsSpent last mid hand) where
    all_asked : Asked gives s (w.answers ++ answer ∷ []) u
    all_asked = asked_again gives s t u w.answers answer w.asked asked

    pub walk_takes : (p : Segment) → failures t ≤ failures u → answer ≡ given p → first_txid p.txs ≤ last + 1 → counted last p.txs ≡ counted last new → Walking gives failures last s u old new
    walk_takes p more is low counts = record {
      counted = (let first = w.counted in omega (arith, first, more));
      answers = w.answers ++ answer ∷ [];
      asked = all_asked;
      segments = w.segments ++ p ∷ [];
      all_given = more_given w.answers w.segments answer p w.all_given is;
      same = λ later. reads_segment last old w.answers mid w.same new answer p later spent.0 is low counts;
    }

    pub walk_on_new : failures t ≤ failures u → TakesUp last hand answer new (Ok taken_up.New) → Walking gives failures last s u old new
    walk_on_new more h = walk_takes h.0 more h.1 h.2 (sym (counted_twice last h.0.txs) ∙ ap (counted last) (sym h.4))

    pub walk_on_old : failures t ≤ failures u → TakesUp last hand answer new (Ok taken_up.Old) → Walking gives failures last s u old new
    walk_on_old more h = walk_takes h.0 more h.1 h.2 (h.3 ∙ sym (ap (counted last) (h.4 ∙ spent.1)))

    pub walk_stops : TakesUp last hand answer new (Ok taken_up.Disorder) → ReadsOn gives last s old u new (Ok next.Disorder)
    walk_stops h = (
      w.answers ++ answer ∷ [],
      all_asked,
      λ later. reads_gap last old w.answers mid w.same hand answer h.0 later spent.0 h.1 h.2,
      (w.segments ++ h.0 ∷ [], more_given w.answers w.segments answer h.0 w.all_given h.1),
    )

    -- an answer with no segment
    nothing_more : given_in (w.answers ++ answer ∷ []) ≡ given_in w.answers → new ≡ hand → (later : List Segment)
        → LeavesSame last (log_left old (w.answers ++ answer ∷ []) later) (log_left new [] later)
    nothing_more none same later =
        same_then last (log_left old (w.answers ++ answer ∷ []) later) (log_left mid [] later) (log_left new [] later)
        (reads_nothing last old w.answers mid w.same answer later none)
        (same_counts last mid new later (spent.0 ∙ sym (ap (counted last) (same ∙ spent.1))))

    pub walk_ends : TakesUp last hand answer new (Ok taken_up.End) → ReadsOn gives last s old u new (Ok next.Over)
    walk_ends h = (
      w.answers ++ answer ∷ [],
      all_asked,
      nothing_more (ap (λ a. given_in (w.answers ++ a ∷ [])) h.0 ∙ end_gives_none w.answers) h.1,
      (w.segments, then_given w.answers w.segments answer end w.all_given h.0),
    )

    pub walk_fails : (fault : SourceFault) → TakesUp last hand answer new (Err fault) → ReadsOn gives last s old u new (Err fault)
    walk_fails fault h = (
      w.answers ++ answer ∷ [],
      all_asked,
      nothing_more (ap (λ a. given_in (w.answers ++ a ∷ [])) h.0 ∙ fault_gives_none fault w.answers) h.1,
      (w.segments, then_given w.answers w.segments answer (Err fault) w.all_given h.0),
    )
