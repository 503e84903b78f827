-- Where the code could not go on with edits, it told less than what the definition's service tells.
use Rattle.std.proofs.Common.{◌≡◌, ℕ, ◌+◌, ◌-◌, ◌≤◌, ◌==◌, List, [], ◌∷◌, ◌++◌, Bool, true, false, cond, not, ◌&&◌, codes, max, length, ltb, Ok, Err, Result, None, Some, Option, refl, sym, subst, ap, ap₂, ◌∙◌, append_assoc}
use Rattle.std.proofs.lemmas.Bool.{le-ltb}
use Rattle.nn_types.specs.declared.event.Event.TheVariants.{Applied, Processed}
use Rattle.nn_types.specs.declared.tx.Tx.{Tx}
use Rattle.nn_listing.specs.Trail.{history_text}
use Rattle.nn_model.specs.History.{History}
use Rattle.nn_model.specs.Log.{counted}
use Rattle.nn_model.specs.Stands.{StandbyState}
use Rattle.nn_segment.specs.Fault.{number_of}
use Rattle.nn_segment.specs.Segment.{Segment, first_txid, is_end, is_start}
use Rattle.nn_segment.specs.declared.fault.SegmentFault.{SegmentFault}
use Rattle.nn_segment.proofs.SegmentLemmas.{read_is_segment}
use Rattle.nn_scenario.specs.Cut.{EditLine, Part, no_lines, part_name, with_line, segment_of}
use Rattle.nn_scenario.specs.Reading.{Reading, with_edit_line}
use Rattle.nn_shadow.specs.declared.fault.ApplyFault.{ApplyFault}
use Rattle.nn_shadow.specs.Calls.{applied_to}
use Rattle.nn_shadow.specs.Numbers.{number_of_apply}
use Rattle.nn_shadow.specs.Refusals.{apply_refusal}
use Rattle.nn_live.specs.Live.{LiveSetup, ServiceState, applies, behind_edit, comes_to, ends, ends_segment, follows, follows_new, follows_segment, follows_txs, is_between, takes_edit, tells_gap}
use Rattle.nn_live.specs.Serving.{Breaks, HasRead, IsAllOf, IsAtService, IsCutShort, HasPart, SegmentInHand, SaysMore, Service, fault_text, part_alone, keeps_edit, one_more_segment, puts_edit, takes_segment}
use Rattle.nn_live.proofs.Breaking.{same_breaks}
use Rattle.nn_live.proofs.Came.{same_txs}
use Rattle.nn_live.proofs.Following.{Came}
use Rattle.nn_live.proofs.Growing.{follows_grow}
use Rattle.nn_live.proofs.SegmentInHand.{has_no_mark, now_ended}

-- the same service, with these edits in hand and these counts
with_counts : (asked : LiveSetup) (x : Service) (s : ServiceState) (h : SegmentInHand) (part : Part) (known known' passed passed' segments segments' : ℕ) → IsAtService asked x s → HasPart part h
    → known ≡ known' → passed ≡ passed' → segments ≡ segments'
    → IsAtService asked (record x { in_hand = h; known = known; passed = passed; segments = segments }) (record s { in_hand = part; known = known'; passed = passed'; segments = segments' })
with_counts asked x s h part known known' passed passed' segments segments' i keeps k p n = record {
  asks = i.asks;
  standby = i.standby;
  phase = i.phase;
  sent = i.sent;
  in_hand = keeps;
  known = k;
  epoch = i.epoch;
  promoted = i.promoted;
  full = i.full;
  passed = p;
  segments = n;
  lines = i.lines;
  log = i.log;
}

-- ---- Transactions.

-- where its history is told, an event or a fault is told of each
some_event : (history : Bool) (w : List ℕ) (x : StandbyState) (tx : Tx) → history ≡ true → (more : List ℕ) × (w ++ cond history (history_text (applied_to x tx).history) [] ≡ w ++ more) × (more ≡ [] → ⊥)
some_event false w x tx e = absurd (cc)
some_event true w x tx e = (history_text (applied_to x tx).history, refl, some_text x.history _)
  where
    some_text : (before after : History) → history_text ((before ++ Applied tx.txid ∷ []) ++ after) ≡ [] → ⊥
    some_text [] after none = absurd (cc)
    some_text (Applied txid ∷ before) after none = absurd (cc)
    some_text (Processed dn number block cause ∷ before) after none = absurd (cc)

says_of : (asked : LiveSetup) (tx : Tx) (rest : List Tx) (s : ServiceState) (o : Option ApplyFault) → asked.history ≡ true
    → (more : List ℕ) × ((applies asked tx o (λ t. follows asked rest t) s).written ≡ s.written ++ more) × (more ≡ [] → ⊥)
says_of asked tx rest s (Some fault) told = (fault_text (number_of_apply fault) (codes " txid ") tx.txid, refl, λ none. absurd (cc))
says_of asked tx rest s None told =
    let first = some_event asked.history s.written s.standby tx told in
    let t : ServiceState = comes_to asked (applied_to s.standby tx) (record s { log = s.log ++ tx ∷ [] }) in
    let later = follows_grow asked rest t in (
      first.0 ++ later.0,
      later.1 ∙ ap (λ w. w ++ later.0) first.1 ∙ append_assoc s.written first.0 later.0,
      some_first first.0 later.0 first.2,
    )
  where
    some_first : (a b : List ℕ) → (a ≡ [] → ⊥) → a ++ b ≡ [] → ⊥
    some_first [] b some e = some refl
    some_first (x ∷ a) b some e = absurd (cc)

-- so many were followed, and the others were not
pub some_followed : (first now : Service) (txs rest : List Tx) (tx : Tx) (text : List ℕ) → Came first now txs (tx ∷ rest) text → Breaks (λ asked s. follows asked txs s) first text
some_followed first now txs rest tx text came asked s i = at asked.history refl
  where
    c : (t : ServiceState) × IsAtService asked now t × (follows asked txs s ≡ follows asked (tx ∷ rest) t) × (t.written ≡ s.written ++ text) × (asked.history ≡ false → text ≡ [])
    c = came asked s i

    at : (history : Bool) → asked.history ≡ history → IsCutShort s.written text (follows asked txs s).written
    at true told =
        let more = says_of asked tx rest c.0 (apply_refusal c.0.phase c.0.standby tx) told in
        record { rest = more.0; is = ap (λ (t : ServiceState). t.written) c.2 ∙ more.1 ∙ ap (λ w. w ++ more.0) c.3; short = λ none. absurd (more.2 none) }
    at false silent =
        let more = follows_grow asked (tx ∷ rest) c.0 in
        record { rest = more.0; is = ap (λ (t : ServiceState). t.written) c.2 ∙ more.1 ∙ ap (λ w. w ++ more.0) c.3; short = λ none. c.4 silent }

-- the old ones were passed over, and of the new ones some were followed
pub some_new : (x : Service) (txs new : List Tx) (told : List ℕ) → first_txid txs ≤ x.shadow.last + 1 → counted x.shadow.last txs ≡ new
    → Breaks (λ asked s. follows asked new s) (record x { passed = x.passed + (length txs - length new) }) told → Breaks (λ asked s. follows_txs asked txs s) x told
some_new x txs new told low is breaks asked s i =
    let old = length txs - length new in
    let last : x.shadow.last ≡ s.standby.last = ap (λ (y : StandbyState). y.last) i.standby in
    let below : ltb (s.standby.last + 1) (first_txid txs) ≡ false = le-ltb _ _ (subst (λ l. first_txid txs ≤ l + 1) last low) in
    let new_is : counted s.standby.last txs ≡ new = ap (λ l. counted l txs) (sym last) ∙ is in
    let does : follows_txs asked txs s ≡ follows asked new (record s { passed = s.passed + old }) = ap₂ (λ b ts. cond b (tells_gap s) (follows_new asked txs ts s)) below new_is in
    let there = with_counts asked x s x.in_hand s.in_hand x.known s.known (x.passed + old) (s.passed + old) x.segments s.segments i i.in_hand i.known (ap (λ p. p + old) i.passed) i.segments in
    subst (λ (t : ServiceState). IsCutShort s.written told t.written) (sym does) (breaks asked (record s { passed = s.passed + old }) there)

-- ---- A segment.

pub segment_breaks : (x : Service) (part : Part) → HasPart no_lines x.in_hand → (g : Segment) (txs : List Tx) (told : List ℕ) → segment_of part ≡ Ok g → g.txs ≡ txs
    → Breaks (λ asked s. follows_txs asked txs s) (record x { segments = x.segments + 1 }) told → Breaks (takes_segment part) x told
segment_breaks x part none g txs told is same breaks asked s i =
    let does : takes_segment part asked s ≡ follows_txs asked txs (one_more_segment s) =
    ap (λ (r : Result Segment SegmentFault). follows_segment asked r (one_more_segment s)) is ∙ ap (λ (ts : List Tx). follows_txs asked ts (one_more_segment s)) same in
    let there = with_counts asked x s x.in_hand no_lines x.known s.known x.passed s.passed (x.segments + 1) (s.segments + 1) i none i.known i.passed (ap (λ k. k + 1) i.segments) in
    subst (λ (t : ServiceState). IsCutShort s.written told t.written) (sym does) (breaks asked (one_more_segment s) there)

-- ---- An edit.

-- it ended those in hand
pub ended_breaks : (x : Service) (line : EditLine) (h : SegmentInHand) (pushed : (part : Part) → HasPart part x.in_hand → HasRead (with_edit_line (part_alone part) line) (with_line part line) h)
    (none : SegmentInHand) (told : List ℕ) → HasPart no_lines none → is_end line.tx.edit ≡ true
    → ((read : Reading) (part : Part) → HasRead read part h → IsAllOf part read → Breaks (takes_segment part) (record x { in_hand = none; known = max x.known line.tx.txid }) told)
    → Breaks (keeps_edit line) x told
ended_breaks x line h pushed none told empty ends breaks asked s i =
    let ready : ServiceState = record s { in_hand = no_lines; known = max s.known line.tx.txid } in
    let part = with_line s.in_hand line in
    let does : keeps_edit line asked s ≡ takes_segment part asked ready = ap (λ b. cond b (ends_segment asked (puts_edit line s)) (puts_edit line s)) ends in
    let there = with_counts asked x s none no_lines (max x.known line.tx.txid) (max s.known line.tx.txid) x.passed s.passed x.segments s.segments i empty (ap (λ k. max k line.tx.txid) i.known) i.passed i.segments in
    let told_prefix = breaks (with_edit_line (part_alone s.in_hand) line) part (pushed s.in_hand i.in_hand) (now_ended s.in_hand line ends) asked ready there in
    subst (λ (t : ServiceState). IsCutShort s.written told t.written) (sym does) told_prefix

module _ (line : EditLine) where
  -- what is done with it, where this says whether it is a start mark
  abbrev by_start : LiveSetup → Bool → ServiceState → ServiceState
  by_start asked b s =
      let t = cond (b && not (is_between s)) (ends_segment asked s) s in
      behind_edit asked line.tx (record t { in_hand = with_line (cond b no_lines t.in_hand) line; known = max t.known line.tx.txid })

  pub going_on_breaks : (x : Service) (told : List ℕ) → is_start line.tx.edit ≡ false → Breaks (keeps_edit line) x told → Breaks (λ asked s. takes_edit asked line s) x told
  going_on_breaks x told isnt breaks = same_breaks (λ asked s. takes_edit asked line s) (keeps_edit line) x told (λ asked s i. ap (λ b. by_start asked b s) isnt) breaks

-- ---- Edits in hand when the input ends.

-- they are no segment
no_segment : (part : Part) (x : SegmentInHand) → HasPart part x → (r : Result Segment SegmentFault) → segment_of part ≡ r → (fault : SegmentFault) × (segment_of part ≡ Err fault)
no_segment part x has (Ok g) e = absurd (has_no_mark part x has g (read_is_segment (part_name part.txs) part.bytes g e).0 (same_txs part g has.check.read e))
no_segment part x has (Err fault) e = (fault, e)

pub ends_say : (x : Service) → (x.in_hand.edits == 0) ≡ false → SaysMore (λ asked s. ends asked s) x
ends_say x some asked s i =
    let bad = no_segment s.in_hand x.in_hand i.in_hand (segment_of s.in_hand) refl in
    let does : ends asked s ≡ follows_segment asked (Err bad.0) (one_more_segment s) = ap (λ k. cond (k == 0) s (ends_segment asked s)) (sym i.in_hand.edits) ∙ ap (λ b. cond b s (ends_segment asked s)) some
    ∙ ap (λ (r : Result Segment SegmentFault). follows_segment asked r (one_more_segment s)) bad.1 in
    (fault_text (number_of bad.0) (codes " segment ") (s.segments + 1), ap (λ (t : ServiceState). t.written) does, λ none. absurd (cc))
