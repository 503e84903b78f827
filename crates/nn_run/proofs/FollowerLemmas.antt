-- A standby that follows lines, one line further.
use Rattle.std.proofs.Common.{◌≡◌, ◌≢◌, ℕ, suc, Bool, true, false, cond, ◌+◌, ◌≤◌, List, [], ◌∷◌, ◌++◌, length, Option, Some, None, Ok, sym, ap, ◌∙◌, subst, arith, append-nil, append_assoc}
use Rattle.std.specs.Prelude.{◌&&◌, ◌==◌, nat_lt, is_some, flat_map}
use Rattle.std.proofs.lemmas.Bool.{eqb-true, eq-eqb, ne_eqb, ltb-true, ltb-false, and_parts}
use Rattle.nn_types.specs.declared.report.Message.{Message}
use Rattle.nn_types.specs.declared.report.Report.{Report}
use Rattle.nn_types.specs.declared.tx.Tx.{Tx}
use Rattle.nn_types.specs.declared.edit_fault.EditFault.{EditFault}
use Rattle.nn_model.specs.Apply.{applied, refusal, outcome, effect}
use Rattle.nn_model.specs.History.{History}
use Rattle.nn_model.specs.Lanes.{Lanes, followed_by}
use Rattle.nn_model.specs.Log.{counted}
use Rattle.nn_model.specs.Namespace.{Namespace}
use Rattle.nn_model.specs.Stands.{StandbyState}
use Rattle.nn_model.proofs.Logs.{counted_append}
use Rattle.nn_shadow.specs.Calls.{with_past, applied_to, received}
use Rattle.nn_shadow.specs.Contents.{Shadow, KeepsSettings, last_number_in, standby_of}
use Rattle.nn_shadow.specs.Laws.{StandsBy}
use Rattle.nn_lane_standby.proofs.Shadowing.{settings_same}
use Rattle.nn_segment.specs.LogEnd.{LogStop, refused, disorder}
use Rattle.nn_scenario.specs.Steps.{message, message_in_turn}
use Rattle.nn_run.specs.Start.{Start}
use Rattle.nn_run.specs.Walk.{HasWalked, Fits}
use Rattle.nn_run.specs.Following.{Follower, HasFollowed, FollowsEdit, FollowsReport, log_so_far}
use Rattle.nn_run.proofs.Walks.{passes, applies, refuses, stops, stays}

-- ---- The log so far.

log_and_one : (base : ℕ) (parts : List (List Tx)) (prefix : List Tx) (tx : Tx)
    → log_so_far base parts (prefix ++ tx ∷ []) ≡ log_so_far base parts prefix ++ counted (base + length (log_so_far base parts prefix)) (tx ∷ [])
log_and_one base parts prefix tx =
    ap (counted base) (sym (append_assoc (flat_map (λ (ts : List Tx). ts) parts) prefix (tx ∷ []))) ∙ counted_append base (flat_map (λ (ts : List Tx). ts) parts ++ prefix) (tx ∷ [])

log_passed : (base : ℕ) (parts : List (List Tx)) (prefix : List Tx) (tx : Tx) (last : ℕ) → last ≡ base + length (log_so_far base parts prefix) → tx.txid ≢ last + 1
    → log_so_far base parts (prefix ++ tx ∷ []) ≡ log_so_far base parts prefix
log_passed base parts prefix tx last is other =
    let log = log_so_far base parts prefix in
    log_and_one base parts prefix tx
    ∙ ap (λ b. log ++ cond b (tx ∷ []) []) (ne_eqb tx.txid (base + length log + 1) (λ e. other (e ∙ ap (λ n. n + 1) (sym is))))
    ∙ append-nil log

log_taken : (base : ℕ) (parts : List (List Tx)) (prefix : List Tx) (tx : Tx) (last : ℕ) → last ≡ base + length (log_so_far base parts prefix) → tx.txid ≡ last + 1
    → log_so_far base parts (prefix ++ tx ∷ []) ≡ log_so_far base parts prefix ++ tx ∷ []
log_taken base parts prefix tx last is next =
    let log = log_so_far base parts prefix in
    log_and_one base parts prefix tx ∙ ap (λ b. log ++ cond b (tx ∷ []) []) (eq-eqb tx.txid (base + length log + 1) (next ∙ ap (λ n. n + 1) is))

-- ---- What a line does.

-- where the log has not stopped
followed_so_far : (past : History) (start : Start) (parts : List (List Tx)) (prefix : List Tx) (lanes : Lanes) (f : Follower) → f.stop ≡ None
    → HasFollowed past start parts prefix lanes f.standby f.stop → HasFollowed past start parts prefix lanes f.standby None
followed_so_far past start parts prefix lanes f none h = subst (HasFollowed past start parts prefix lanes f.standby) none h

-- and where it has
has_stopped : {A : Type 0} (f : Follower) → is_some f.stop ≡ true → f.stop ≡ None → A
has_stopped f some none = absurd (let z : false ≡ true = sym (ap is_some none) ∙ some in cc)

pub edit_ignored : (begun : Bool) (tx : Tx) (f : Follower) → is_some f.stop ≡ true → FollowsEdit begun tx f f
edit_ignored begun tx f some = record {
  walks = λ past start parts prefix lanes first h. at past start parts prefix lanes f.stop some h;
  turn = λ none. has_stopped f some none;
  settings = settings_same f.standby;
}
  where
    at : (past : History) (start : Start) (parts : List (List Tx)) (prefix : List Tx) (lanes : Lanes) (stop : Option LogStop) → is_some stop ≡ true
        → HasFollowed past start parts prefix lanes f.standby stop → HasFollowed past start parts (prefix ++ tx ∷ []) lanes f.standby stop
    at past start parts prefix lanes None some h = absurd (let z : false ≡ true = some in cc)
    at past start parts prefix lanes (Some stop) some h = stays start.txid start.namespace parts prefix stop tx h

pub report_ignored : (r : Report) (f : Follower) → is_some f.stop ≡ true → FollowsReport r f f
report_ignored r f some = record {
  walks = λ past start parts prefix lanes h. at past start parts prefix lanes f.stop some h;
  turn = λ none. has_stopped f some none;
  settings = settings_same f.standby;
}
  where
    at : (past : History) (start : Start) (parts : List (List Tx)) (prefix : List Tx) (lanes : Lanes) (stop : Option LogStop) → is_some stop ≡ true
        → HasFollowed past start parts prefix lanes f.standby stop → HasFollowed past start parts prefix (followed_by lanes (message_in_turn lanes r)) f.standby stop
    at past start parts prefix lanes None some h = absurd (let z : false ≡ true = some in cc)
    at past start parts prefix lanes (Some stop) some h = h

fits : (begun : Bool) (prefix : List Tx) (last : ℕ) (tx : Tx) → begun ≡ (length prefix == 0) → (begun && nat_lt (last + 1) tx.txid) ≡ false → Fits prefix last tx
fits begun [] last tx first no_gap = ltb-false (last + 1) tx.txid (ap (λ b. b && nat_lt (last + 1) tx.txid) (sym first) ∙ no_gap)
fits begun (t ∷ prefix) last tx first no_gap = tt

-- a part begins above the next transaction
pub gap_found : (begun : Bool) (tx : Tx) (f g : Follower) → f.stop ≡ None → (begun && nat_lt (f.standby.last + 1) tx.txid) ≡ true
    → g.standby ≡ f.standby → g.stop ≡ Some (record { cause = disorder; txid = f.standby.last + 1 }) → FollowsEdit begun tx f g
gap_found begun tx f g none gap same stop = record {
  walks = λ past start parts prefix lanes first h.
      subst (HasFollowed past start parts (prefix ++ tx ∷ []) lanes g.standby) (sym stop) (at past start parts prefix lanes first (followed_so_far past start parts prefix lanes f none h));
  turn = λ still. (let z : None ≡ Some (record { cause = disorder; txid = f.standby.last + 1 }) = sym still ∙ stop in absurd (cc));
  settings = subst (KeepsSettings f.standby) (sym same) (settings_same f.standby);
}
  where
    both : (begun ≡ true) × (nat_lt (f.standby.last + 1) tx.txid ≡ true)
    both = and_parts begun (nat_lt (f.standby.last + 1) tx.txid) gap

    at : (past : History) (start : Start) (parts : List (List Tx)) (prefix : List Tx) (lanes : Lanes) → begun ≡ (length prefix == 0)
        → HasFollowed past start parts prefix lanes f.standby None
        → HasFollowed past start parts (prefix ++ tx ∷ []) lanes g.standby (Some (record { cause = disorder; txid = f.standby.last + 1 }))
    at past start parts [] lanes first h = stops start.txid start.namespace parts f.standby.last f.standby.namespace tx h.0 (ltb-true (f.standby.last + 1) tx.txid both.1)
    at past start parts (t ∷ prefix) lanes first h =
        let none : suc (length prefix) ≡ 0 = eqb-true (suc (length prefix)) 0 (sym first ∙ both.0) in absurd (omega (arith, none))

-- it is not the next one
pub passed_over : (begun : Bool) (tx : Tx) (f : Follower) → f.stop ≡ None → (begun && nat_lt (f.standby.last + 1) tx.txid) ≡ false → tx.txid ≢ f.standby.last + 1
    → FollowsEdit begun tx f f
passed_over begun tx f none no_gap other = record {
  walks = λ past start parts prefix lanes first h.
      let k = followed_so_far past start parts prefix lanes f none h in
      subst (HasFollowed past start parts (prefix ++ tx ∷ []) lanes f.standby) (sym none) (
        passes start.txid start.namespace parts prefix f.standby.last f.standby.namespace tx k.0 (fits begun prefix f.standby.last tx first no_gap) other,
        subst (λ txs. StandsBy start.namespace start.txid txs lanes (with_past past (standby_of f.standby))) (sym (log_passed start.txid parts prefix tx f.standby.last k.1.stands.last other)) k.1,
      );
  turn = λ still. (none, sym (ap (λ b. cond b (applied_to (standby_of f.standby) tx) (standby_of f.standby)) (ne_eqb tx.txid (f.standby.last + 1) other)));
  settings = settings_same f.standby;
}

-- what a standby does with a transaction, whatever events were forgotten before
abbrev pub TakesEdit : Tx → Shadow → Shadow → Type 0
TakesEdit tx x y = (past : History) (start : Namespace) (base : ℕ) (txs : List Tx) (lanes : Lanes) → StandsBy start base txs lanes (with_past past (standby_of x))
    → StandsBy start base (txs ++ tx ∷ []) lanes (with_past past (standby_of y))

-- its namespace is the one after the edit
edit_makes : (tx : Tx) (x y : Shadow) → refusal x.namespace tx.edit ≡ None → standby_of y ≡ applied_to (standby_of x) tx → applied x.namespace tx.edit ≡ Ok y.namespace
edit_makes tx x y fits turn =
    ap (λ refused. outcome refused (effect x.namespace tx.edit)) fits ∙ ap (λ (s : StandbyState). Ok s.namespace) (sym turn)

-- it is, and its edit applies
pub edit_applied : (begun : Bool) (tx : Tx) (f g : Follower) → f.stop ≡ None → g.stop ≡ None → (begun && nat_lt (f.standby.last + 1) tx.txid) ≡ false → tx.txid ≡ f.standby.last + 1
    → refusal f.standby.namespace tx.edit ≡ None → standby_of g.standby ≡ applied_to (standby_of f.standby) tx → TakesEdit tx f.standby g.standby
    → KeepsSettings f.standby g.standby → FollowsEdit begun tx f g
edit_applied begun tx f g none still no_gap next edit_fits turn takes settings = record {
  walks = λ past start parts prefix lanes first h.
      let k = followed_so_far past start parts prefix lanes f none h in
      subst (HasFollowed past start parts (prefix ++ tx ∷ []) lanes g.standby) (sym still) (
        subst (λ n. HasWalked start.txid start.namespace parts (prefix ++ tx ∷ []) n g.standby.namespace) (sym (ap (λ s. s.last) turn))
            (applies start.txid start.namespace parts prefix f.standby.last f.standby.namespace g.standby.namespace tx k.0 (fits begun prefix f.standby.last tx first no_gap) next (edit_makes tx f.standby g.standby edit_fits turn)),
        subst (λ txs. StandsBy start.namespace start.txid txs lanes (with_past past (standby_of g.standby))) (sym (log_taken start.txid parts prefix tx f.standby.last k.1.stands.last next))
            (takes past start.namespace start.txid (log_so_far start.txid parts prefix) lanes k.1),
      );
  turn = λ on. (none, turn ∙ sym (ap (λ b. cond b (applied_to (standby_of f.standby) tx) (standby_of f.standby)) (eq-eqb tx.txid (f.standby.last + 1) next)));
  settings = settings;
}

-- or does not
pub edit_refused : (begun : Bool) (tx : Tx) (f g : Follower) (fault : EditFault) → f.stop ≡ None → g.stop ≡ Some (record { cause = refused fault; txid = tx.txid })
    → (begun && nat_lt (f.standby.last + 1) tx.txid) ≡ false → tx.txid ≡ f.standby.last + 1 → refusal f.standby.namespace tx.edit ≡ Some fault
    → KeepsSettings f.standby g.standby → FollowsEdit begun tx f g
edit_refused begun tx f g fault none stop no_gap next why settings = record {
  walks = λ past start parts prefix lanes first h.
      let k = followed_so_far past start parts prefix lanes f none h in
      subst (HasFollowed past start parts (prefix ++ tx ∷ []) lanes g.standby) (sym stop)
      (refuses start.txid start.namespace parts prefix f.standby.last f.standby.namespace tx fault k.0 (fits begun prefix f.standby.last tx first no_gap) next (ap (λ o. outcome o (effect f.standby.namespace tx.edit)) why));
  turn = λ still. (let z : None ≡ Some (record { cause = refused fault; txid = tx.txid }) = sym still ∙ stop in absurd (cc));
  settings = settings;
}

-- ---- A message.

-- no number is above how many messages there were
pub numbers_grow : (x y : Shadow) (m : Message) (count : ℕ) → standby_of y ≡ received (standby_of x) m → ((dn : ℕ) → last_number_in x.numbers dn ≤ count) → m.number ≤ count + 1
    → (dn : ℕ) → last_number_in y.numbers dn ≤ count + 1
numbers_grow x y m count turn few next dn = subst (λ n. n ≤ count + 1) (sym (ap (λ (s : StandbyState). s.last_number dn) turn)) (by (dn == m.dn))
  where
    by : (b : Bool) → cond b m.number (last_number_in x.numbers dn) ≤ count + 1
    by true = next
    by false = let few = few dn in omega (arith, few)

-- what a standby does with a message, whatever events were forgotten before
abbrev pub TakesIn : Message → Shadow → Shadow → Type 0
TakesIn m x y = (past : History) (start : Namespace) (base : ℕ) (txs : List Tx) (lanes : Lanes) → StandsBy start base txs lanes (with_past past (standby_of x))
    → StandsBy start base txs (followed_by lanes m) (with_past past (standby_of y))

pub report_followed : (r : Report) (number : ℕ) (f g : Follower) → f.stop ≡ None → g.stop ≡ None → number ≡ (standby_of f.standby).last_number r.dn + 1
    → (g.standby.namespace ≡ f.standby.namespace) × (g.standby.last ≡ f.standby.last) → TakesIn (message r number) f.standby g.standby
    → standby_of g.standby ≡ received (standby_of f.standby) (message r number) → KeepsSettings f.standby g.standby → FollowsReport r f g
report_followed r number f g none still next same stands turn settings = record {
  walks = λ past start parts prefix lanes h.
      let k = followed_so_far past start parts prefix lanes f none h in
      let is : number ≡ length (lanes r.dn) + 1 = next ∙ ap (λ n. n + 1) (k.1.stands.last_numbers r.dn) in
      subst (HasFollowed past start parts prefix (followed_by lanes (message_in_turn lanes r)) g.standby) (sym still) (
        subst (λ n. HasWalked start.txid start.namespace parts prefix n g.standby.namespace) (sym same.1) (subst (HasWalked start.txid start.namespace parts prefix f.standby.last) (sym same.0) k.0),
        subst (λ n. StandsBy start.namespace start.txid (log_so_far start.txid parts prefix) (followed_by lanes (message r n)) (with_past past (standby_of g.standby))) is
            (stands past start.namespace start.txid (log_so_far start.txid parts prefix) lanes k.1),
      );
  turn = λ on. (none, turn ∙ ap (λ n. received (standby_of f.standby) (message r n)) next);
  settings = settings;
}
