-- Standbys that stand: a new one, one with a segment in hand, one that was stopped, and one that was promoted.
use Rattle.std.specs.Prelude.{◌≡◌, ℕ, zero, suc, Bool, true, false, List, [], ◌∷◌, length, None, Some, ◌==◌, if◌then◌else◌, refl}
use Rattle.std.specs.Cmp.{unsigned_tied}
use Rattle.std.proofs.Common.{arith, sym, ap, ◌∙◌, subst, inl, inr, ⊎_elim, true≢false}
use Rattle.std.proofs.lemmas.Bool.Decides.{eqb_tells}
use Rattle.nn_types.specs.declared.report.Message.{Message}
use Rattle.nn_types.specs.declared.event.Event.TheVariants.{Applied}
use Rattle.nn_types.specs.declared.event.Cause.TheVariants.{Flush}
use Rattle.nn_types.specs.declared.tx.Tx.{Tx}
use Rattle.nn_types.specs.declared.profile.Profile.TheVariants.{One}
use Rattle.nn_types.specs.declared.edit.Edit.TheVariants.{StartSegment, EndSegment}
use Rattle.nn_model.specs.Namespace.{root_alone}
use Rattle.nn_model.specs.History.{processed}
use Rattle.nn_model.specs.WellFormed.{Includes}
use Rattle.nn_model.specs.Items.{nothing_known, items}
use Rattle.nn_model.specs.Lanes.{Lanes, no_messages, followed_by}
use Rattle.nn_model.specs.Lawful.{IsWhole}
use Rattle.nn_model.specs.Picture.{ShowsPicture}
use Rattle.nn_model.specs.Stands.{StandbyState, Stands, tables_of, fresh}
use Rattle.nn_model.specs.MessageRows.{tx, b}
use Rattle.nn_model.specs.MessageRowsLater.{unnamed_log, unnamed_report, unnamed_history}
use Rattle.nn_model.proofs.Equals.{root_alone_is_well_formed}
use Rattle.nn_lane.specs.Ends.{LaneId, LaneEnd}
use Rattle.nn_segment.specs.Segment.{Segment}
use Rattle.nn_segment.specs.Source.{given, end}
use Rattle.nn_segment.specs.LogEnd.{end_of_log, end_of_txs}
use Rattle.nn_shadow.specs.declared.fault.Stop.{Stop}
use Rattle.nn_shadow.specs.declared.fault.StopCause.TheVariants.{Disorder}
use Rattle.nn_shadow.specs.Calls.{applied_to, received, flushed}
use Rattle.nn_shadow.specs.Contents.{Shadow, standby_of}
use Rattle.nn_shadow.specs.Laws.{StandsBy}
use Rattle.nn_shadow.proofs.Standings.{begins_standing, receives, applies, flushes, flushes_whole, flush_shows_picture}
use Rattle.nn_lane_standby.specs.Tailing.{Standby, Keeps, StandsAt, StopsLog, lanes_of, by_node}
use Rattle.nn_lane_standby.specs.Promotion.{Promoted}
use Rattle.nn_lane_standby.specs.Public.{IsNewStandby}

-- ---- Words for the examples.

-- the end of the lane of DataNode 1, closed or open, which took these
abbrev pub taking : LaneId → List Message → Bool → LaneEnd
taking l got closed = record { lane = record l { node = 1 }; got = got; seen = length got; loads = 0; closed = closed }

-- a segment of two marks, from transaction 1 on
abbrev pub marks : Segment
marks = record { name = []; bytes = []; txs = unnamed_log }

-- the DataNode is the first one, or another
pub not_the_first : (k : ℕ) → (suc (suc k) == 1) ≡ false
not_the_first k = ⊎_elim (λ e. absurd (omega (arith, e.1))) (λ e. e.0) (eqb_tells (suc (suc k)) 1)

-- ---- A new standby, over one lane.

abbrev pub new_shadow : Shadow
new_shadow = record {
  namespace = root_alone;
  last = 0;
  history = [];
  table = record { min = 1; entries = [] };
  held = [];
  numbers = 0 ∷ [];
  had = nothing_known ∷ [];
  phase = record { stopped = None; active = false };
  permille = 999;
}

abbrev pub new : LaneId → Standby
new l = record { shadow = new_shadow; ends = taking l [] false ∷ []; undelivered = None ∷ []; rest = []; stop = None; active = false }

no_number : (dn : ℕ) → (standby_of new_shadow).last_number dn ≡ 0
no_number zero = refl
no_number (suc zero) = refl
no_number (suc (suc k)) = refl

nothing_in : (dn : ℕ) → (standby_of new_shadow).had dn ≡ nothing_known
nothing_in zero = refl
nothing_in (suc zero) = refl
nothing_in (suc (suc k)) = refl

pub new_is_fresh : standby_of new_shadow ≡ fresh root_alone 0
new_is_fresh i = record {
  namespace = root_alone;
  last = 0;
  history = [];
  replica = λ dn id. None;
  has_order = λ dn id. false;
  held = [];
  last_number = λ dn. no_number dn i;
  had = λ dn. nothing_in dn i;
}

nothing_taken : (l : LaneId) (dn : ℕ) → lanes_of (new l) dn ≡ []
nothing_taken l zero = refl
nothing_taken l (suc zero) = refl
nothing_taken l (suc (suc k)) = refl

pub fresh_stands : StandsBy root_alone 0 [] no_messages (fresh root_alone 0)
fresh_stands = begins_standing root_alone 0 root_alone_is_well_formed.blocks

keeps_new : (l : LaneId) → Keeps (new l)
keeps_new l = record {
  lanes = (refl, tt, tt);
  few = omega arith;
  count = refl;
  numbers = λ dn. no_number dn ∙ ap length (sym (nothing_taken l dn));
  next = tt;
  live = λ _. refl;
  stops = λ s e. absurd (cc);
  begun_live = λ _. refl;
  not_begun = λ _. refl;
  before_flush = λ _. refl;
}

new_stands : (l : LaneId) → StandsAt root_alone 0 [] (new l)
unfolding end_of_log end_of_txs
new_stands l = let none : lanes_of (new l) ≡ no_messages = λ i dn. nothing_taken l dn i in record {
  txs = [];
  shadow = subst (λ ls. Stands root_alone 0 [] ls (standby_of new_shadow)) (sym none) (subst (Stands root_alone 0 [] no_messages) (sym new_is_fresh) fresh_stands.stands);
  before_flush = λ _. refl;
  log = refl;
  goes_on = λ _ later. refl;
  stops = λ s e. absurd (cc);
  ended = λ e. absurd (cc);
}

is_new : (l : LaneId) → IsNewStandby (taking l [] false ∷ []) (new l)
is_new l = (refl, refl, refl, refl, new_stands l)

-- ---- One that applied the first mark, has the second in hand, and took a message that is undelivered.

abbrev begun_shadow : Shadow
begun_shadow = record new_shadow { last = 1; history = Applied 1 ∷ [] }

abbrev in_hand : LaneId → Standby
in_hand l = record {
  shadow = begun_shadow;
  ends = taking l (unnamed_report ∷ []) false ∷ [];
  undelivered = Some unnamed_report ∷ [];
  rest = tx 2 EndSegment ∷ [];
  stop = None;
  active = false;
}

nothing_handed : (l : LaneId) (dn : ℕ) → lanes_of (in_hand l) dn ≡ []
nothing_handed l zero = refl
nothing_handed l (suc zero) = refl
nothing_handed l (suc (suc k)) = refl

abbrev begun : StandbyState
begun = applied_to (fresh root_alone 0) (tx 1 (StartSegment One))

begun_stands : StandsBy root_alone 0 (tx 1 (StartSegment One) ∷ []) no_messages begun
begun_stands = applies root_alone 0 [] no_messages (fresh root_alone 0) (tx 1 (StartSegment One)) fresh_stands refl refl

is_begun : standby_of begun_shadow ≡ begun
is_begun i = record {
  namespace = root_alone;
  last = 1;
  history = Applied 1 ∷ [];
  replica = λ dn id. None;
  has_order = λ dn id. false;
  held = [];
  last_number = λ dn. no_number dn i;
  had = λ dn. nothing_in dn i;
}

keeps_in_hand : (l : LaneId) → Keeps (in_hand l)
keeps_in_hand l = record {
  lanes = (refl, ([], refl, refl, refl, omega arith), tt);
  few = omega arith;
  count = refl;
  numbers = λ dn. no_number dn ∙ ap length (sym (nothing_handed l dn));
  next = (refl, tt);
  live = λ _. refl;
  stops = λ s e. absurd (cc);
  begun_live = λ _. refl;
  not_begun = λ _. refl;
  before_flush = λ _. refl;
}

in_hand_stands : (l : LaneId) → StandsAt root_alone 0 (given marks ∷ []) (in_hand l)
unfolding end_of_log end_of_txs
in_hand_stands l = let none : lanes_of (in_hand l) ≡ no_messages = λ i dn. nothing_handed l dn i in let one : List Tx = tx 1 (StartSegment One) ∷ [] in record {
  txs = one;
  shadow = subst (λ ls. Stands root_alone 0 one ls (standby_of begun_shadow)) (sym none) (subst (Stands root_alone 0 one no_messages) (sym is_begun) begun_stands.stands);
  before_flush = λ _. refl;
  log = refl;
  goes_on = λ _ later. refl;
  stops = λ s e. absurd (cc);
  ended = λ e. absurd (cc);
}

-- ---- One that a gap stopped.

abbrev high : Segment
high = record { name = []; bytes = []; txs = tx 2 (StartSegment One) ∷ [] }

abbrev gap : Stop
gap = record { txid = 1; cause = Disorder }

abbrev stopped : LaneId → Standby
stopped l = record (new l) { stop = Some gap }

stopped_stands : (l : LaneId) → StandsAt root_alone 0 (given high ∷ []) (stopped l)
unfolding end_of_log end_of_txs new_stands
stopped_stands l = record {
  txs = [];
  shadow = (new_stands l).shadow;
  before_flush = λ _. refl;
  log = refl;
  goes_on = λ e. absurd (cc);
  stops = λ s e. let same : gap ≡ s = cc in subst (StopsLog root_alone 0 (given high ∷ [])) same (λ later. refl);
  ended = λ e. absurd (cc);
}

-- ---- One that read the log to its end and closed its lane, with one message: no file holds the block, so it waits.

-- what is known of the block: whether DataNode 1 is ordered to delete it
abbrev pub held_shadow : Shadow
held_shadow = record {
  namespace = root_alone;
  last = 2;
  history = Applied 1 ∷ Applied 2 ∷ [];
  table = record { min = 1; entries = (b, record { row = None; replication = 0; cells = (1, record { replica = None; ordered = false }) ∷ [] }) ∷ [] };
  held = unnamed_report ∷ [];
  numbers = 1 ∷ [];
  had = record { has = (b, 1) ∷ []; begun = None } ∷ [];
  phase = record { stopped = None; active = false };
  permille = 999;
}

abbrev pub closed : LaneId → Standby
closed l = record { shadow = held_shadow; ends = taking l (unnamed_report ∷ []) true ∷ []; undelivered = None ∷ []; rest = []; stop = None; active = false }

-- its lanes
abbrev sent : Lanes
sent = followed_by no_messages unnamed_report

sent_by_node : (dn : ℕ) → by_node ((unnamed_report ∷ []) ∷ []) dn ≡ sent dn
sent_by_node zero = refl
sent_by_node (suc zero) = refl
sent_by_node (suc (suc k)) = rw (not_the_first k) refl

one_number : (dn : ℕ) → (standby_of held_shadow).last_number dn ≡ (if dn == 1 then 1 else 0)
one_number zero = refl
one_number (suc zero) = refl
one_number (suc (suc k)) = rw (not_the_first k) refl

one_had : (dn : ℕ) → (standby_of held_shadow).had dn ≡ (if dn == 1 then record { has = (b, 1) ∷ []; begun = None } else nothing_known)
one_had zero = refl
one_had (suc zero) = refl
one_had (suc (suc k)) = rw (not_the_first k) refl

no_replica : (dn id : ℕ) → (standby_of held_shadow).replica dn id ≡ None
no_replica dn id =
    ⊎_elim (λ e. ⊎_elim (λ d. rw (unsigned_tied id b, e.0, unsigned_tied dn 1, d.0) refl) (λ d. rw (unsigned_tied id b, e.0, unsigned_tied dn 1, d.0) refl) (eqb_tells dn 1))
    (λ e. rw (unsigned_tied id b, e.0) refl) (eqb_tells id b)

no_order : (dn id : ℕ) → (standby_of held_shadow).has_order dn id ≡ false
no_order dn id =
    ⊎_elim (λ e. ⊎_elim (λ d. rw (unsigned_tied id b, e.0, unsigned_tied dn 1, d.0) refl) (λ d. rw (unsigned_tied id b, e.0, unsigned_tied dn 1, d.0) refl) (eqb_tells dn 1))
    (λ e. rw (unsigned_tied id b, e.0) refl) (eqb_tells id b)

-- the message came, and then the two marks
abbrev pub read : StandbyState
read = applied_to (applied_to (received (fresh root_alone 0) unnamed_report) (tx 1 (StartSegment One))) (tx 2 EndSegment)

pub is_read : standby_of held_shadow ≡ read
is_read i = record {
  namespace = root_alone;
  last = 2;
  history = Applied 1 ∷ Applied 2 ∷ [];
  replica = λ dn id. no_replica dn id i;
  has_order = λ dn id. no_order dn id i;
  held = unnamed_report ∷ [];
  last_number = λ dn. one_number dn i;
  had = λ dn. one_had dn i;
}

read_stands : StandsBy root_alone 0 unnamed_log sent read
read_stands =
    let first = tx 1 (StartSegment One) in let came = received (fresh root_alone 0) unnamed_report in
    applies root_alone 0 (first ∷ []) sent (applied_to came first) (tx 2 EndSegment)
    (applies root_alone 0 [] sent came first (receives root_alone 0 [] no_messages (fresh root_alone 0) unnamed_report fresh_stands refl) refl refl) refl refl

closed_stands : (l : LaneId) → StandsAt root_alone 0 (given marks ∷ end ∷ []) (closed l)
unfolding end_of_log end_of_txs
closed_stands l = let own : lanes_of (closed l) ≡ sent = λ i dn. sent_by_node dn i in record {
  txs = unnamed_log;
  shadow = subst (λ ls. Stands root_alone 0 unnamed_log ls (standby_of held_shadow)) (sym own) (subst (Stands root_alone 0 unnamed_log sent) (sym is_read) read_stands.stands);
  before_flush = λ _. refl;
  log = refl;
  goes_on = λ _ later. refl;
  stops = λ s e. absurd (cc);
  ended = λ e. absurd (cc);
}

-- ---- The same one promoted: it flushed the message, and its DataNode is ordered to delete the block.

abbrev pub promoted_shadow : Shadow
promoted_shadow = record held_shadow {
  history = unnamed_history;
  table = record { min = 1; entries = (b, record { row = None; replication = 0; cells = (1, record { replica = None; ordered = true }) ∷ [] }) ∷ [] };
  held = [];
  phase = record { stopped = None; active = true };
}

abbrev pub promoted : LaneId → Standby
promoted l = record (closed l) { shadow = promoted_shadow; active = true }

still_no_replica : (dn id : ℕ) → (standby_of promoted_shadow).replica dn id ≡ None
still_no_replica dn id =
    ⊎_elim (λ e. ⊎_elim (λ d. rw (unsigned_tied id b, e.0, unsigned_tied dn 1, d.0) refl) (λ d. rw (unsigned_tied id b, e.0, unsigned_tied dn 1, d.0) refl) (eqb_tells dn 1))
    (λ e. rw (unsigned_tied id b, e.0) refl) (eqb_tells id b)

one_order : (dn id : ℕ) → (standby_of promoted_shadow).has_order dn id ≡ (flushed read).has_order dn id
one_order dn id =
    ⊎_elim (λ e. ⊎_elim (λ d. rw (unsigned_tied id b, e.0, unsigned_tied dn 1, d.0) refl) (λ d. rw (unsigned_tied id b, e.0, unsigned_tied dn 1, d.0) refl) (eqb_tells dn 1))
    (λ e. ⊎_elim (λ d. rw (unsigned_tied id b, e.0, d.0) refl) (λ d. rw (unsigned_tied id b, e.0, d.0) refl) (eqb_tells dn 1)) (eqb_tells id b)

pub is_flushed : standby_of promoted_shadow ≡ flushed read
is_flushed i = record {
  namespace = root_alone;
  last = 2;
  history = unnamed_history;
  replica = λ dn id. still_no_replica dn id i;
  has_order = λ dn id. one_order dn id i;
  held = [];
  last_number = λ dn. one_number dn i;
  had = λ dn. one_had dn i;
}

pub is_promoted : (l : LaneId) → Promoted root_alone 0 (given marks ∷ end ∷ []) (promoted l)
unfolding end_of_log end_of_txs
is_promoted l = let own : lanes_of (promoted l) ≡ sent = λ i dn. sent_by_node dn i in record {
  stands = subst (λ ls. Stands root_alone 0 unnamed_log ls (standby_of promoted_shadow)) (sym own)
      (subst (Stands root_alone 0 unnamed_log sent) (sym is_flushed) (flushes root_alone 0 unnamed_log sent read read_stands));
  whole = subst (λ ls. IsWhole root_alone unnamed_log (items ls) unnamed_history) (sym own) (flushes_whole root_alone 0 unnamed_log sent read read_stands);
  picture = subst (λ ls. ShowsPicture root_alone (items ls) (tables_of (standby_of promoted_shadow))) (sym own)
      (subst (λ z. ShowsPicture root_alone (items sent) (tables_of z)) (sym is_flushed) (flush_shows_picture root_alone 0 unnamed_log sent read read_stands));
  none_held = refl;
  ended = (given marks ∷ [], refl);
  log_end = refl;
  taken = (refl, refl, refl, tt);
}

-- not without its flush in the history
not_unflushed : (l : LaneId) → Promoted root_alone 0 (given marks ∷ end ∷ []) (record (promoted l) { shadow = record promoted_shadow { history = Applied 1 ∷ Applied 2 ∷ [] } }) → ⊥
not_unflushed l h = none (h.whole unnamed_report refl refl)
  where
    none : Includes (Applied 1 ∷ Applied 2 ∷ []) (processed Flush unnamed_report) → ⊥
    none (inl e) = absurd (cc)
    none (inr (inl e)) = absurd (cc)
    none (inr (inr e)) = e

-- nor without its order
not_without_its_order : (l : LaneId) → Promoted root_alone 0 (given marks ∷ end ∷ []) (record (promoted l) { shadow = record promoted_shadow { table = record { min = 1; entries = [] } } }) → ⊥
not_without_its_order l h = let e : false ≡ true = h.picture.orders 1 b in true≢false (sym e)
