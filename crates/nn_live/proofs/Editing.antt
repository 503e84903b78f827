-- An edit that the code put to those in hand, and a segment that it ended, are those of the definition's service.
use Rattle.std.proofs.Common.{◌≡◌, ℕ, ◌+◌, ◌==◌, Bool, true, false, not, ◌&&◌, cond, max, List, [], ◌++◌, Ok, Err, Result, codes, sym, subst, ap, ◌∙◌, refl, append-nil}
use Rattle.nn_types.specs.declared.tx.Tx.{Tx}
use Rattle.nn_segment.specs.Fault.{number_of}
use Rattle.nn_segment.specs.Segment.{Segment, is_start, is_end}
use Rattle.nn_segment.specs.declared.fault.SegmentFault.{SegmentFault}
use Rattle.nn_scenario.specs.Cut.{EditLine, Part, no_lines, with_line, segment_of}
use Rattle.nn_scenario.specs.Reading.{Reading, with_edit_line}
use Rattle.nn_live.specs.Live.{LiveSetup, ServiceState, says, ends, ends_segment, follows_segment, follows_txs, is_between, behind_edit, takes_edit}
use Rattle.nn_live.specs.Serving.{Service, SegmentInHand, HasRead, IsAllOf, IsAtService, HasPart, FollowsStep, part_alone, fault_text, keeps_edit, one_more_segment, puts_edit, takes_segment}
use Rattle.nn_live.proofs.SegmentInHand.{no_edits, now_ended, still_open}
use Rattle.nn_live.proofs.Places.{told_there, same_makes, then_makes}
use Rattle.nn_live.proofs.Twice.{not_both}

-- the same service, with these edits in hand and these counts
with_hand : (asked : LiveSetup) (x : Service) (s : ServiceState) (h : SegmentInHand) (part : Part) (known known' segments segments' : ℕ) → IsAtService asked x s → HasPart part h → known ≡ known' → segments ≡ segments'
    → IsAtService asked (record x { in_hand = h; known = known; segments = segments }) (record s { in_hand = part; known = known'; segments = segments' })
with_hand asked x s h part known known' segments segments' i keeps k n = record {
  asks = i.asks;
  standby = i.standby;
  phase = i.phase;
  sent = i.sent;
  in_hand = keeps;
  known = k;
  epoch = i.epoch;
  promoted = i.promoted;
  full = i.full;
  passed = i.passed;
  segments = n;
  lines = i.lines;
  log = i.log;
}

-- ---- A segment ends.

module _ (x : Service) (part : Part) (none : HasPart no_lines x.in_hand) where
  -- one more is counted
  counted_there : (asked : LiveSetup) (s : ServiceState) → IsAtService asked x s → IsAtService asked (record x { segments = x.segments + 1 }) (one_more_segment s)
  counted_there asked s i = with_hand asked x s x.in_hand no_lines x.known s.known (x.segments + 1) (s.segments + 1) i none i.known (ap (λ k. k + 1) i.segments)

  pub segment_followed : (g : Segment) (txs : List Tx) (z : Service) (told : List ℕ) → segment_of part ≡ Ok g → g.txs ≡ txs
      → FollowsStep (λ asked s. follows_txs asked txs s) (record x { segments = x.segments + 1 }) z told → FollowsStep (takes_segment part) x z told
  segment_followed g txs z told is same made = record {
    at = λ asked s i. subst (IsAtService asked z) (sym (does asked s)) (made.at asked (one_more_segment s) (counted_there asked s i));
    written = λ asked s i. ap (λ (t : ServiceState). t.written) (does asked s) ∙ made.written asked (one_more_segment s) (counted_there asked s i);
  }
    where
      does : (asked : LiveSetup) (s : ServiceState) → takes_segment part asked s ≡ follows_txs asked txs (one_more_segment s)
      does asked s = ap (λ (r : Result Segment SegmentFault). follows_segment asked r (one_more_segment s)) is ∙ ap (λ (ts : List Tx). follows_txs asked ts (one_more_segment s)) same

  pub segment_refused : (fault : SegmentFault) → segment_of part ≡ Err fault
      → FollowsStep (takes_segment part) x (record x { segments = x.segments + 1 }) (fault_text (number_of fault) (codes " segment ") (x.segments + 1))
  segment_refused fault is = record {
    at = λ asked s i. subst (IsAtService asked (record x { segments = x.segments + 1 })) (sym (does asked s i)) (told_there asked (record x { segments = x.segments + 1 }) (one_more_segment s) _ (counted_there asked s i));
    written = λ asked s i. ap (λ (t : ServiceState). t.written) (does asked s i);
  }
    where
      does : (asked : LiveSetup) (s : ServiceState) → IsAtService asked x s → takes_segment part asked s ≡ says (fault_text (number_of fault) (codes " segment ") (x.segments + 1)) (one_more_segment s)
      does asked s i = ap (λ (r : Result Segment SegmentFault). follows_segment asked r (one_more_segment s)) is
          ∙ ap (λ k. says (fault_text (number_of fault) (codes " segment ") (k + 1)) (one_more_segment s)) (sym i.segments)

-- edits in hand that no end mark ended
module _ (x : Service) where
  pub none_in_hand : (x.in_hand.edits == 0) ≡ true → (asked : LiveSetup) (s : ServiceState) → IsAtService asked x s → ends asked s ≡ s
  none_in_hand is asked s i = ap (λ k. cond (k == 0) s (ends_segment asked s)) (sym i.in_hand.edits) ∙ ap (λ b. cond b s (ends_segment asked s)) is

  pub unfinished : (h : SegmentInHand) (fault : SegmentFault) → HasPart no_lines h → (x.in_hand.edits == 0) ≡ false → ((part : Part) → HasPart part x.in_hand → segment_of part ≡ Err fault)
      → FollowsStep (λ asked s. ends asked s) x (record x { in_hand = h; segments = x.segments + 1 }) (fault_text (number_of fault) (codes " segment ") (x.segments + 1))
  unfinished h fault none some why = record {
    at = λ asked s i. subst (IsAtService asked y) (sym (does asked s i)) (made.at asked s i);
    written = λ asked s i. ap (λ (t : ServiceState). t.written) (does asked s i);
  }
    where
      y : Service
      y = record x { in_hand = h; segments = x.segments + 1 }

      tells_it : LiveSetup → ServiceState → ServiceState
      tells_it asked s = says (fault_text (number_of fault) (codes " segment ") (x.segments + 1)) (record s { in_hand = no_lines; segments = x.segments + 1 })

      does : (asked : LiveSetup) (s : ServiceState) → IsAtService asked x s → ends asked s ≡ tells_it asked s
      does asked s i = ap (λ k. cond (k == 0) s (ends_segment asked s)) (sym i.in_hand.edits) ∙ ap (λ b. cond b s (ends_segment asked s)) some
          ∙ ap (λ (r : Result Segment SegmentFault). follows_segment asked r (one_more_segment s)) (why s.in_hand i.in_hand)
          ∙ ap (λ k. says (fault_text (number_of fault) (codes " segment ") (k + 1)) (record s { in_hand = no_lines; segments = k + 1 })) (sym i.segments)

      made : FollowsStep tells_it x y (fault_text (number_of fault) (codes " segment ") (x.segments + 1))
      made = record {
        at = λ asked s i. told_there asked y (record s { in_hand = no_lines; segments = x.segments + 1 }) _ (with_hand asked x s h no_lines x.known s.known (x.segments + 1) (x.segments + 1) i none i.known refl);
        written = λ asked s i. refl;
      }

-- ---- An edit is put to those in hand.

module _ (x : Service) (line : EditLine) (h : SegmentInHand) (pushed : (part : Part) → HasPart part x.in_hand → HasRead (with_edit_line (part_alone part) line) (with_line part line) h) where
  abbrev txid : ℕ
  txid = line.tx.txid

  pub kept_open : is_end line.tx.edit ≡ false → FollowsStep (keeps_edit line) x (record x { in_hand = h; known = max x.known txid }) []
  kept_open isnt = record {
    at = λ asked s i. subst (IsAtService asked (record x { in_hand = h; known = max x.known txid })) (sym (does asked s))
        (with_hand asked x s h (with_line s.in_hand line) (max x.known txid) (max s.known txid) x.segments s.segments i (still_open s.in_hand line h isnt (pushed s.in_hand i.in_hand)) (ap (λ k. max k txid) i.known) i.segments);
    written = λ asked s i. ap (λ (t : ServiceState). t.written) (does asked s) ∙ sym (append-nil s.written);
  }
    where
      does : (asked : LiveSetup) (s : ServiceState) → keeps_edit line asked s ≡ puts_edit line s
      does asked s = ap (λ b. cond b (ends_segment asked (puts_edit line s)) (puts_edit line s)) isnt

  pub kept_ended : (none : SegmentInHand) (z : Service) (told : List ℕ) → HasPart no_lines none → is_end line.tx.edit ≡ true
      → ((read : Reading) (part : Part) → HasRead read part h → IsAllOf part read → FollowsStep (takes_segment part) (record x { in_hand = none; known = max x.known txid }) z told)
      → FollowsStep (keeps_edit line) x z told
  kept_ended none z told empty ends made = record {
    at = λ asked s i. subst (IsAtService asked z) (sym (does asked s)) ((now asked s i).at asked (ready s) (there asked s i));
    written = λ asked s i. ap (λ (t : ServiceState). t.written) (does asked s) ∙ (now asked s i).written asked (ready s) (there asked s i);
  }
    where
      -- none is in hand, and those that were are a segment
      ready : ServiceState → ServiceState
      ready s = record s { in_hand = no_lines; known = max s.known txid }

      does : (asked : LiveSetup) (s : ServiceState) → keeps_edit line asked s ≡ takes_segment (with_line s.in_hand line) asked (ready s)
      does asked s = ap (λ b. cond b (ends_segment asked (puts_edit line s)) (puts_edit line s)) ends

      there : (asked : LiveSetup) (s : ServiceState) → IsAtService asked x s → IsAtService asked (record x { in_hand = none; known = max x.known txid }) (ready s)
      there asked s i = with_hand asked x s none no_lines (max x.known txid) (max s.known txid) x.segments s.segments i empty (ap (λ k. max k txid) i.known) i.segments

      now : (asked : LiveSetup) (s : ServiceState) → IsAtService asked x s → FollowsStep (takes_segment (with_line s.in_hand line)) (record x { in_hand = none; known = max x.known txid }) z told
      now asked s i = made (with_edit_line (part_alone s.in_hand) line) (with_line s.in_hand line) (pushed s.in_hand i.in_hand) (now_ended s.in_hand line ends)

-- ---- An edit.

module _ (line : EditLine) where
  -- what is done with it, where this says whether it is a start mark
  abbrev by_start : LiveSetup → Bool → ServiceState → ServiceState
  by_start asked b s =
      let t = cond (b && not (is_between s)) (ends_segment asked s) s in
      behind_edit asked line.tx (record t { in_hand = with_line (cond b no_lines t.in_hand) line; known = max t.known line.tx.txid })

  pub goes_on : (x z : Service) (told : List ℕ) → is_start line.tx.edit ≡ false → FollowsStep (keeps_edit line) x z told → FollowsStep (λ asked s. takes_edit asked line s) x z told
  goes_on x z told isnt made = same_makes (λ asked s. takes_edit asked line s) (keeps_edit line) x z told (λ asked s i. ap (λ b. by_start asked b s) isnt) made

  -- a start mark is no end mark
  pub starts_only : is_start line.tx.edit ≡ true → is_end line.tx.edit ≡ false
  starts_only starts = at (is_end line.tx.edit) refl
    where
      at : (b : Bool) → is_end line.tx.edit ≡ b → b ≡ false
      at true e = absurd (not_both line.tx.edit starts e)
      at false e = refl

  -- it is in hand alone
  pub taken_up : (none h : SegmentInHand) → is_start line.tx.edit ≡ true → HasPart no_lines none
      → ((part : Part) → HasPart part none → HasRead (with_edit_line (part_alone part) line) (with_line part line) h) → HasPart (with_line no_lines line) h
  taken_up none h starts empty pushed = still_open no_lines line h (starts_only starts) (pushed no_lines empty)

  -- those in hand ended, and it is in hand
  pub begins : (x y : Service) (none h : SegmentInHand) (told : List ℕ) → is_start line.tx.edit ≡ true → FollowsStep (λ asked s. ends asked s) x y told → y.in_hand.edits ≡ 0 → HasPart no_lines none
      → ((part : Part) → HasPart part none → HasRead (with_edit_line (part_alone part) line) (with_line part line) h)
      → FollowsStep (λ asked s. takes_edit asked line s) x (record y { in_hand = h; known = max y.known line.tx.txid }) told
  begins x y none h told starts first over empty pushed =
      let z : Service = record y { in_hand = h; known = max y.known line.tx.txid } in
      let later : FollowsStep (keeps_edit line) y z [] = kept_open y line h (λ part has.
      (subst (λ p. HasRead (with_edit_line (part_alone p) line) (with_line p line) h) (sym (no_edits part y.in_hand has over)) (pushed no_lines empty))) (starts_only starts) in
      subst (λ t. FollowsStep (λ asked s. takes_edit asked line s) x z t) (append-nil told)
      (same_makes (λ asked s. takes_edit asked line s) (λ asked s. keeps_edit line asked (ends asked s)) x z (told ++ []) (λ asked s i.
      (ap (λ b. by_start asked b s) starts
      ∙ ap (λ (t : ServiceState). behind_edit asked line.tx (record t { in_hand = with_line no_lines line; known = max t.known line.tx.txid })) (ended asked s (is_between s))
      ∙ ap (λ (p : Part). behind_edit asked line.tx (record (ends asked s) { in_hand = with_line p line; known = max (ends asked s).known line.tx.txid }))
      (sym (no_edits (ends asked s).in_hand y.in_hand (first.at asked s i).in_hand over))))
      (then_makes (λ asked s. ends asked s) (keeps_edit line) x y z told [] first later))
    where
      ended : (asked : LiveSetup) (s : ServiceState) (b : Bool) → cond (not b) (ends_segment asked s) s ≡ cond b s (ends_segment asked s)
      ended asked s true = refl
      ended asked s false = refl
