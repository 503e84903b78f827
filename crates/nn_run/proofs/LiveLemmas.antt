-- The check of a scenario and a standby that follows it, one line further, and at the end.
use Rattle.std.proofs.Common.{◌≡◌, ℕ, Bool, true, false, cond, ◌+◌, List, [], ◌∷◌, ◌++◌, length, map, Option, Some, None, Result, Ok, Err, refl, sym, ap, ◌∙◌, subst, arith, append-nil, append_assoc, length-append}
use Rattle.std.specs.Prelude.{◌==◌, nat_lt, flat_map}
use Rattle.std.proofs.lemmas.Bool.{eq-eqb, ne_eqb}
use Rattle.std.proofs.lemmas.Grind.{flat_map-append}
use Rattle.std.proofs.lemmas.List.{map-append}
use Rattle.std.proofs.lemmas.List.Folds.{flat_map-map}
use Rattle.nn_types.specs.declared.report.Message.{Message}
use Rattle.nn_types.specs.declared.report.Report.{Report}
use Rattle.nn_types.specs.declared.tx.Tx.{Tx}
use Rattle.nn_model.specs.History.{History}
use Rattle.nn_model.specs.Lanes.{Lanes, no_messages}
use Rattle.nn_model.specs.Log.{counted, log_of}
use Rattle.nn_model.specs.Namespace.{Namespace}
use Rattle.nn_model.specs.Stands.{fresh}
use Rattle.nn_shadow.specs.Calls.{with_past, received}
use Rattle.nn_shadow.specs.Contents.{Shadow, standby_of}
use Rattle.nn_shadow.specs.Laws.{StandsBy}
use Rattle.nn_shadow.proofs.Taken.{receives_after, takes_after}
use Rattle.nn_lane_standby.proofs.Shadowing.{settings_then}
use Rattle.nn_segment.specs.LogEnd.{LogEnd, LogStop, disorder, end_of_txs, end_of_log, and_then}
use Rattle.nn_segment.specs.Segment.{Segment, is_end, first_txid}
use Rattle.nn_scenario.specs.Checking.{SegmentCheck, IsCheckOf, AreSegments}
use Rattle.nn_scenario.specs.Cut.{EditLine, Part, no_lines, with_line, last_part, segments_from}
use Rattle.nn_scenario.specs.Reading.{Reading, nothing_read, with_edit_line, with_report_line}
use Rattle.nn_scenario.specs.Scenario.{scenario_with}
use Rattle.nn_scenario.specs.Steps.{message, message_in_turn, lanes_of_steps, edit_count}
use Rattle.nn_scenario.specs.declared.segments.PartFault.{PartFault}
use Rattle.nn_scenario.specs.declared.steps.Step.TheVariants as step
use Rattle.nn_scenario.proofs.StepLemmas.{lanes_after_edit, lanes_after_message}
use Rattle.nn_run.specs.Start.{Start}
use Rattle.nn_run.specs.Turns.{line_applied, in_turn}
use Rattle.nn_run.specs.Walk.{end_of_parts}
use Rattle.nn_run.specs.Following.{Follower, without_events, HasFollowed, FollowsEdit, FollowsReport, Lived, IsLive, log_so_far, txs_read, turned, start_at, parts_of, stop_of, txs_of, HasArrived, Stops}
use Rattle.nn_run.specs.declared.follower.LogFault.{LogFault}
use Rattle.nn_run.proofs.TurnLemmas.{one_more_edit, one_more_message, edits_and_one, edits_and_message, applied_after}
use Rattle.nn_run.proofs.Walks.{begins, ends_part, stays_behind, ended, stopped}

-- ---- No line has come.

pub begins_lived : (check : SegmentCheck) (f : Follower) (history : Bool) (s : Shadow) → IsCheckOf nothing_read check → f ≡ record { standby = s; messages = 0; stop = None } → standby_of s ≡ fresh s.namespace s.last
    → StandsBy s.namespace s.last [] no_messages (standby_of s) → (let l : Lived = record { check = check; follower = f; history = history } in IsLive l nothing_read l)
begins_lived check f history s checked is new stands =
    let whole = λ (g : Follower). (let l : Lived = record { check = check; follower = g; history = history } in IsLive l nothing_read l) in
    subst whole (sym is) (record {
      check = checked;
      past = [];
      kept = λ h. refl;
      same = refl;
      settings = record { datanodes = refl; min = refl; permille = refl };
      follower = (λ later. refl, stands);
      edits = refl;
      turns = λ h. new;
    })

-- ---- A part is over.

log_over : (base : ℕ) (parts : List (List Tx)) (txs : List Tx) → log_so_far base (parts ++ txs ∷ []) [] ≡ log_so_far base parts txs
log_over base parts txs = ap (counted base) (append-nil (flat_map (λ (ts : List Tx). ts) (parts ++ txs ∷ [])) ∙ flat_map-append (λ (ts : List Tx). ts) parts (txs ∷ []) ∙ ap (λ ts. flat_map (λ (ts : List Tx). ts) parts ++ ts) (append-nil txs))

part_over : (past : History) (start : Start) (parts : List (List Tx)) (t : Tx) (prefix : List Tx) (lanes : Lanes) (x : Shadow) (stop : Option LogStop)
    → HasFollowed past start parts (t ∷ prefix) lanes x stop → HasFollowed past start (parts ++ (t ∷ prefix) ∷ []) [] lanes x stop
part_over past start parts t prefix lanes x None h = (
  ends_part start.txid start.namespace parts t prefix x.last x.namespace h.0,
  subst (λ txs. StandsBy start.namespace start.txid txs lanes (with_past past (standby_of x))) (sym (log_over start.txid parts (t ∷ prefix))) h.1,
)
part_over past start parts t prefix lanes x (Some stop) h = stays_behind start.txid start.namespace parts t prefix stop h

whole_over : (past : History) (start : Start) (parts : List (List Tx)) (prefix : List Tx) (tx : Tx) (lanes : Lanes) (x : Shadow) (stop : Option LogStop)
    → HasFollowed past start parts (prefix ++ tx ∷ []) lanes x stop → HasFollowed past start (parts ++ (prefix ++ tx ∷ []) ∷ []) [] lanes x stop
whole_over past start parts [] tx lanes x stop h = part_over past start parts tx [] lanes x stop h
whole_over past start parts (t ∷ prefix) tx lanes x stop h = part_over past start parts t (prefix ++ tx ∷ []) lanes x stop h

abbrev lists_of : List Part → List (List Tx)
lists_of parts = map (λ (p : Part). p.txs) parts

-- ---- One line further.

module _ (first old new : Lived) (same : new.history ≡ old.history) where
  pub edit_lived : (x : Reading) (line : EditLine) (begun : Bool) → begun ≡ (old.check.lines == 0)
      → (IsCheckOf x old.check → IsCheckOf (with_edit_line x line) new.check) → FollowsEdit begun line.tx old.follower new.follower
      → IsLive first x old → IsLive first (with_edit_line x line) new
  edit_lived x line begun begins checks follows h = record {
    check = checks h.check;
    past = h.past;
    kept = λ asked. h.kept (sym same ∙ asked);
    same = same ∙ h.same;
    settings = settings_then first.follower.standby old.follower.standby new.follower.standby h.settings follows.settings;
    follower = at (is_end line.tx.edit);
    edits = read_as_many (is_end line.tx.edit);
    turns = λ still. turned_by (is_end line.tx.edit) (follows.turn still);
  }
    where
      start : Start
      start = start_at first

      part : Part
      part = with_line x.in_hand line

      whole : Reading
      whole = record { parts = x.parts ++ part ∷ []; in_hand = no_lines; steps = x.steps ++ step.Edit ∷ [] }

      begun_part : Reading
      begun_part = record { parts = x.parts; in_hand = part; steps = x.steps ++ step.Edit ∷ [] }

      followed : HasFollowed h.past start (lists_of x.parts) (x.in_hand.txs ++ line.tx ∷ []) (lanes_of_steps x.steps) new.follower.standby new.follower.stop
      followed = follows.walks h.past start (lists_of x.parts) x.in_hand.txs (lanes_of_steps x.steps) (begins ∙ ap (λ n. n == 0) h.check.lines) h.follower

      lanes : lanes_of_steps (x.steps ++ step.Edit ∷ []) ≡ lanes_of_steps x.steps
      lanes = lanes_after_edit no_messages x.steps

      kept_whole : txs_read whole ≡ txs_read x ++ line.tx ∷ []
      kept_whole = append-nil (flat_map (λ (p : Part). p.txs) (x.parts ++ part ∷ [])) ∙ flat_map-append (λ (p : Part). p.txs) x.parts (part ∷ []) ∙ ap (λ txs. flat_map (λ (p : Part). p.txs) x.parts ++ txs) (append-nil part.txs)
          ∙ sym (append_assoc (flat_map (λ (p : Part). p.txs) x.parts) x.in_hand.txs (line.tx ∷ []))

      kept_part : txs_read begun_part ≡ txs_read x ++ line.tx ∷ []
      kept_part = sym (append_assoc (flat_map (λ (p : Part). p.txs) x.parts) x.in_hand.txs (line.tx ∷ []))

      many : edit_count (x.steps ++ step.Edit ∷ []) ≡ length (txs_read x ++ line.tx ∷ [])
      many = omega (arith, edits_and_one x.steps, h.edits, length-append (txs_read x) (line.tx ∷ []))

      read_as_many : (b : Bool) → (let y : Reading = cond b whole begun_part in edit_count y.steps ≡ length (txs_read y))
      read_as_many true = many ∙ ap length (sym kept_whole)
      read_as_many false = many ∙ ap length (sym kept_part)

      turn_is : (old.follower.stop ≡ None) × (standby_of new.follower.standby ≡ line_applied (standby_of old.follower.standby) line.tx)
          → with_past h.past (standby_of new.follower.standby) ≡ in_turn (fresh start.namespace start.txid) (txs_read x ++ line.tx ∷ []) (x.steps ++ step.Edit ∷ [])
      turn_is t = ap (with_past h.past) t.1 ∙ sym (applied_after h.past (standby_of old.follower.standby) line.tx) ∙ ap (λ s. line_applied s line.tx) (h.turns t.0)
          ∙ sym (one_more_edit (fresh start.namespace start.txid) (txs_read x) x.steps line.tx h.edits)

      turned_by : (b : Bool) → (old.follower.stop ≡ None) × (standby_of new.follower.standby ≡ line_applied (standby_of old.follower.standby) line.tx)
          → with_past h.past (standby_of new.follower.standby) ≡ turned start (cond b whole begun_part)
      turned_by true t = turn_is t ∙ ap (λ txs. in_turn (fresh start.namespace start.txid) txs (x.steps ++ step.Edit ∷ [])) (sym kept_whole)
      turned_by false t = turn_is t ∙ ap (λ txs. in_turn (fresh start.namespace start.txid) txs (x.steps ++ step.Edit ∷ [])) (sym kept_part)

      at : (b : Bool) → (let y : Reading = cond b whole begun_part in HasFollowed h.past start (lists_of y.parts) y.in_hand.txs (lanes_of_steps y.steps) new.follower.standby new.follower.stop)
      at true =
          subst (λ ls. HasFollowed h.past start (lists_of (x.parts ++ part ∷ [])) [] ls new.follower.standby new.follower.stop) (sym lanes)
          (subst (λ ps. HasFollowed h.past start ps [] (lanes_of_steps x.steps) new.follower.standby new.follower.stop) (sym (map-append (λ (p : Part). p.txs) x.parts (part ∷ [])))
          (whole_over h.past start (lists_of x.parts) x.in_hand.txs line.tx (lanes_of_steps x.steps) new.follower.standby new.follower.stop followed))
      at false = subst (λ ls. HasFollowed h.past start (lists_of x.parts) part.txs ls new.follower.standby new.follower.stop) (sym lanes) followed

  pub report_lived : (x : Reading) (r : Report) → new.check ≡ old.check → FollowsReport r old.follower new.follower
      → IsLive first x old → IsLive first (with_report_line x r) new
  report_lived x r checked follows h = record {
    check = let c = h.check in subst (IsCheckOf (with_report_line x r)) (sym checked) (record { read = c.read; room = c.room; lines = c.lines; in_hand = c.in_hand; ended = c.ended; parts = c.parts });
    past = h.past;
    kept = λ asked. h.kept (sym same ∙ asked);
    same = same ∙ h.same;
    settings = settings_then first.follower.standby old.follower.standby new.follower.standby h.settings follows.settings;
    follower = subst (λ ls. HasFollowed h.past start (lists_of x.parts) x.in_hand.txs ls new.follower.standby new.follower.stop)
        (sym (lanes_after_message no_messages x.steps next))
        (follows.walks h.past start (lists_of x.parts) x.in_hand.txs (lanes_of_steps x.steps) h.follower);
    edits = edits_and_message x.steps next ∙ h.edits;
    turns = λ still. turn_is (follows.turn still);
  }
    where
      start : Start
      start = start_at first

      next : Message
      next = message_in_turn (lanes_of_steps x.steps) r

      turn_is : (old.follower.stop ≡ None) × (standby_of new.follower.standby ≡ received (standby_of old.follower.standby) (message r ((standby_of old.follower.standby).last_number r.dn + 1)))
          → with_past h.past (standby_of new.follower.standby) ≡ in_turn (fresh start.namespace start.txid) (txs_read x) (x.steps ++ step.Message next ∷ [])
      turn_is t =
          let k : HasFollowed h.past start (lists_of x.parts) x.in_hand.txs (lanes_of_steps x.steps) old.follower.standby None =
          subst (HasFollowed h.past start (lists_of x.parts) x.in_hand.txs (lanes_of_steps x.steps) old.follower.standby) t.0 h.follower in
          ap (with_past h.past) (t.1 ∙ ap (λ n. received (standby_of old.follower.standby) (message r (n + 1))) (k.1.stands.last_numbers r.dn))
          ∙ sym (receives_after h.past (standby_of old.follower.standby) next)
          ∙ ap (λ s. received s next) (h.turns t.0)
          ∙ sym (one_more_message (fresh start.namespace start.txid) (txs_read x) x.steps next)

-- its events are forgotten
forgotten : (past : History) (start : Start) (parts : List (List Tx)) (prefix : List Tx) (lanes : Lanes) (x : Shadow) (stop : Option LogStop)
    → HasFollowed past start parts prefix lanes x stop → HasFollowed (past ++ x.history) start parts prefix lanes (record x { history = [] }) stop
forgotten past start parts prefix lanes x None h =
    (h.0, subst (StandsBy start.namespace start.txid (log_so_far start.txid parts prefix) lanes) (sym (takes_after past (standby_of x))) h.1)
forgotten past start parts prefix lanes x (Some stop) h = h

pub forgets : (first l : Lived) (x : Reading) → l.history ≡ false → IsLive first x l → IsLive first x (record l { follower = without_events l.follower })
forgets first l x off h = record {
  check = h.check;
  past = h.past ++ l.follower.standby.history;
  kept = λ asked. (let z : true ≡ false = sym asked ∙ off in absurd (cc));
  same = h.same;
  settings = record { datanodes = h.settings.datanodes; min = h.settings.min; permille = h.settings.permille };
  follower = forgotten h.past (start_at first) (lists_of x.parts) x.in_hand.txs (lanes_of_steps x.steps) l.follower.standby l.follower.stop h.follower;
  edits = h.edits;
  turns = λ still. takes_after h.past (standby_of l.follower.standby) ∙ h.turns still;
}

-- no line has come
pub none_lived : (l : Lived) → IsCheckOf nothing_read l.check → l.follower.stop ≡ None
    → standby_of l.follower.standby ≡ fresh l.follower.standby.namespace l.follower.standby.last
    → StandsBy l.follower.standby.namespace l.follower.standby.last [] no_messages (standby_of l.follower.standby)
    → IsLive l nothing_read l
none_lived l check none new stands = record {
  check = check;
  past = [];
  kept = λ asked. refl;
  same = refl;
  settings = record { datanodes = refl; min = refl; permille = refl };
  follower = subst (HasFollowed [] (start_at l) [] [] no_messages l.follower.standby) (sym none)
      (begins l.follower.standby.last l.follower.standby.namespace, stands);
  edits = refl;
  turns = λ still. new;
}

-- ---- The end.

-- a log of segments ends as their transactions do
ends_alike : (last : ℕ) (n : Namespace) (segments : List Segment) → end_of_log last n segments ≡ end_of_parts last n (txs_of segments)
unfolding end_of_log end_of_parts
ends_alike last n [] = refl
ends_alike last n (s ∷ segments) = at (nat_lt (last + 1) (first_txid s.txs)) (end_of_txs last n (counted last s.txs)) (λ m k. ends_alike m k segments)
  where
    at : (b : Bool) (r : Result LogEnd LogStop) → ((m : ℕ) (k : Namespace) → end_of_log m k segments ≡ end_of_parts m k (txs_of segments))
        → cond b (Err (record { cause = disorder; txid = last + 1 })) (and_then r (λ end. end_of_log end.last end.namespace segments))
        ≡ cond b (Err (record { cause = disorder; txid = last + 1 })) (and_then r (λ end. end_of_parts end.last end.namespace (txs_of segments)))
    at true r more = refl
    at false (Ok end) more = more end.last end.namespace
    at false (Err stop) more = refl

-- all parts are over
all_over : (past : History) (start : Start) (parts : List Part) (part : Part) (lanes : Lanes) (x : Shadow) (stop : Option LogStop)
    → HasFollowed past start (lists_of parts) part.txs lanes x stop → HasFollowed past start (lists_of (parts ++ last_part part)) [] lanes x stop
all_over past start parts part lanes x stop h = at part.txs refl h
  where
    at : (txs : List Tx) → part.txs ≡ txs → HasFollowed past start (lists_of parts) txs lanes x stop → HasFollowed past start (lists_of (parts ++ last_part part)) [] lanes x stop
    at [] was h =
        subst (λ ps. HasFollowed past start (lists_of ps) [] lanes x stop)
        (sym (ap (λ b. parts ++ cond b [] (part ∷ [])) (eq-eqb (length part.txs) 0 (ap length was)) ∙ append-nil parts)) h
    at (t ∷ prefix) was h =
        subst (λ ps. HasFollowed past start (lists_of ps) [] lanes x stop)
        (sym (ap (λ b. parts ++ cond b [] (part ∷ [])) (ne_eqb (length part.txs) 0 (λ none. absurd (omega (arith, none, ap length was))))))
        (subst (λ ps. HasFollowed past start ps [] lanes x stop) (sym (map-append (λ (p : Part). p.txs) parts (part ∷ []) ∙ ap (λ txs. lists_of parts ++ txs ∷ []) was))
        (part_over past start (lists_of parts) t prefix lanes x stop h))

-- of parts that are segments
parts_end : (start : Start) (x : Reading) (segments : List Segment) (r : Result LogEnd LogStop)
    → txs_of segments ≡ lists_of (parts_of x) → end_of_parts start.txid start.namespace (lists_of (parts_of x)) ≡ r → end_of_log start.txid start.namespace segments ≡ r
parts_end start x segments r same is = ends_alike start.txid start.namespace segments ∙ ap (end_of_parts start.txid start.namespace) same ∙ is

-- the transactions of all edit lines are those of all parts
last_flat : (part : Part) → flat_map (λ (p : Part). p.txs) (last_part part) ≡ part.txs
last_flat part = at part.txs refl
  where
    at : (txs : List Tx) → part.txs ≡ txs → flat_map (λ (p : Part). p.txs) (last_part part) ≡ part.txs
    at [] was = ap (λ b. flat_map (λ (p : Part). p.txs) (cond b [] (part ∷ []))) (eq-eqb (length part.txs) 0 (ap length was)) ∙ sym was
    at (t ∷ prefix) was = ap (λ b. flat_map (λ (p : Part). p.txs) (cond b [] (part ∷ []))) (ne_eqb (length part.txs) 0 (λ none. absurd (omega (arith, none, ap length was)))) ∙ append-nil part.txs

all_txs : (x : Reading) (segments : List Segment) → txs_of segments ≡ lists_of (parts_of x) → txs_read x ≡ flat_map (λ (txs : List Tx). txs) (txs_of segments)
all_txs x segments same =
    ap (λ txs. flat_map (λ (p : Part). p.txs) x.parts ++ txs) (sym (last_flat x.in_hand)) ∙ sym (flat_map-append (λ (p : Part). p.txs) x.parts (last_part x.in_hand)) ∙ sym (flat_map-map (λ (txs : List Tx). txs) (λ (p : Part). p.txs) (parts_of x))
    ∙ ap (flat_map (λ (txs : List Tx). txs)) (sym same)

module _ (first l : Lived) (x : Reading) (h : IsLive first x l) (segments : AreSegments (parts_of x) None) where
  over : HasFollowed h.past (start_at first) (lists_of (parts_of x)) [] (lanes_of_steps x.steps) l.follower.standby l.follower.stop
  over = all_over h.past (start_at first) x.parts x.in_hand (lanes_of_steps x.steps) l.follower.standby l.follower.stop h.follower

  pub has_arrived : l.follower.stop ≡ None → HasArrived (start_at first) first.history (scenario_with (parts_of x) x.steps) l.follower.standby
  has_arrived none =
      let start = start_at first in
      let k : HasFollowed h.past start (lists_of (parts_of x)) [] (lanes_of_steps x.steps) l.follower.standby None =
      subst (HasFollowed h.past start (lists_of (parts_of x)) [] (lanes_of_steps x.steps) l.follower.standby) none over in
      let same : log_of start.txid (txs_of segments.0) ≡ log_so_far start.txid (lists_of (parts_of x)) [] =
      ap (log_of start.txid) segments.2 ∙ sym (ap (counted start.txid) (append-nil (flat_map (λ (ts : List Tx). ts) (lists_of (parts_of x))))) in
      record {
        segments = segments.0;
        are = segments.1;
        ends = parts_end start x segments.0 _ segments.2 (ended start.txid start.namespace (lists_of (parts_of x)) l.follower.standby.last l.follower.standby.namespace k.0);
        past = h.past;
        kept = λ asked. h.kept (h.same ∙ asked);
        stands = subst (λ txs. StandsBy start.namespace start.txid txs (lanes_of_steps x.steps) (with_past h.past (standby_of l.follower.standby))) (sym same) k.1;
        turns = h.turns none ∙ ap (λ txs. in_turn (fresh start.namespace start.txid) txs x.steps) (all_txs x segments.0 segments.2);
      }

  pub has_stopped : (fault : LogFault) → l.follower.stop ≡ Some (stop_of fault) → Stops (start_at first) (scenario_with (parts_of x) x.steps) fault
  has_stopped fault is =
      let start = start_at first in record {
        segments = segments.0;
        are = segments.1;
        ends = parts_end start x segments.0 _ segments.2 (stopped start.txid start.namespace (lists_of (parts_of x)) (stop_of fault)
            (subst (HasFollowed h.past start (lists_of (parts_of x)) [] (lanes_of_steps x.steps) l.follower.standby) is over));
      }

-- a segment has a fault
pub bad_is_told : (x : Reading) (bad : PartFault) → AreSegments (parts_of x) (Some bad) → segments_from 1 (parts_of x) ≡ Err bad
bad_is_told x bad h = ap (segments_from 1) (sym (append-nil (parts_of x))) ∙ h []
