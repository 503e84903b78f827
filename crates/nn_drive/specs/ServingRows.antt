-- When an operator has requested a promotion, and which lanes are dry, computed.
use Rattle.std.specs.Prelude.{◌≡◌, ℕ, ◌+◌, zero, suc, ◌<◌, ◌≤◌, true, false, Option, Some, None, Err, List, [], ◌∷◌, ◌++◌, length, drop, slice_index_or, refl}
use Rattle.std.proofs.Common.{arith, true≢false, sym, ap, ◌∙◌, subst, inl, inr}
use Rattle.nn_lane.specs.Ends.{LaneId, Reporter, LaneEnd}
use Rattle.nn_types.specs.declared.event.Event.TheVariants.{Applied}
use Rattle.nn_types.specs.declared.event.Cause.TheVariants.{Flush}
use Rattle.nn_model.specs.Namespace.{Namespace, root_alone}
use Rattle.nn_model.specs.History.{processed}
use Rattle.nn_model.specs.WellFormed.{Includes}
use Rattle.nn_model.specs.MessageRowsLater.{unnamed_report}
use Rattle.nn_segment.specs.Source.{Answer, given, end}
use Rattle.nn_shadow.specs.Contents.{Shadow}
use Rattle.nn_lane_standby.specs.Tailing.{Standby}
use Rattle.nn_lane_standby.specs.PromotedRows.{promoted_shadow, is_promoted, marks, taking as lane_with}
use Rattle.nn_drive.specs.LaneRows.{reporting, taking}
use Rattle.nn_lane_standby.proofs.Carried.{carries_same}
use Rattle.nn_lane_standby.proofs.LaneSteps.{ends_same}
use Rattle.nn_lane_standby.proofs.Shadowing.{settings_same}
use Rattle.nn_drive.specs.Driven.{Goes}
use Rattle.nn_drive.specs.Serving.{Shown, forgotten, AreShownInTurn, AskedInTurn, IsNextShown, RequestsAt, IsDry, IsPromotedAt}
use Rattle.nn_drive.specs.Served.{AreStarted, IsUntouched, IsRefusedAtStart}
use Rattle.nn_drive.specs.declared.operator.Request.{Request}
use Rattle.nn_drive.specs.declared.operator.Request.TheVariants.{GoOn, Forget, Hold, ForgetAndHold, Promote}
use Rattle.nn_drive.specs.declared.serving.Unserved.{Unserved}

-- an operator that counts its rotations down, requests the history to be forgotten at the last one, and a promotion at none
abbrev counts : ℕ → Standby → ℕ → Request → ℕ → Type 0
counts zero x n w p = (w ≡ Promote) × (p ≡ 0)
counts (suc zero) x n w p = (w ≡ Forget) × (p ≡ 0)
counts (suc (suc k)) x n w p = (w ≡ GoOn) × (p ≡ suc k)

abbrev show : Standby → ℕ → Request → Shown
show x n request = record { answers = []; standby = x; running = n; request = request }

-- the first history stays, and the second one is forgotten
two_rotations : (x y : Standby) → AskedInTurn counts 2 (show y 7 Forget ∷ show x 8 GoOn ∷ []) 0
two_rotations x y = (1, (2, refl, (λ e. cc), (refl, refl)), (λ e. cc), (refl, refl))

the_second_is_forgotten : (x y : Standby) → forgotten (show y 7 Forget ∷ show x 8 GoOn ∷ []) ≡ y.shadow.history
the_second_is_forgotten x y = refl

forgotten_in_order : (x y : Standby) → forgotten (show y 7 Forget ∷ show x 8 Forget ∷ []) ≡ x.shadow.history ++ y.shadow.history
forgotten_in_order x y = refl

nothing_is_forgotten_while_the_log_is_held : (x : Standby) → forgotten (show x 8 Hold ∷ []) ≡ []
nothing_is_forgotten_while_the_log_is_held x = refl

-- unless both were requested
forgotten_while_the_log_is_held : (x : Standby) → forgotten (show x 8 ForgetAndHold ∷ []) ≡ x.shadow.history
forgotten_while_the_log_is_held x = refl

-- it does not request it before
not_at_once : (x : Standby) (p : ℕ) → counts 1 x 8 Promote p → ⊥
not_at_once x p h = let e : Promote ≡ Forget = h.0 in cc

-- nor is it asked on behind its request
not_after_its_request : (x : Standby) (p : ℕ) → AskedInTurn counts 0 (show x 8 GoOn ∷ []) p → ⊥
not_after_its_request x p h = let a = subst (λ q. counts q x 8 GoOn p) h.1 h.3 in let e : GoOn ≡ Promote = a.0 in cc

-- ---- What is shown goes on from what was shown before.

nothing_came : (x : Standby) → Goes x [] x
nothing_came x = record { carries = carries_same x; same_ends = ends_same x.ends; begun = refl; active = refl; settings = settings_same x.shadow }

abbrev with_other_settings : Standby → Standby
with_other_settings x = record x { shadow = record x.shadow { permille = x.shadow.permille + 1 } }

-- it is shown the standby that was handed in, and requests a promotion at once
requested_at_once : (x : Standby) → RequestsAt counts 8 x 0 [] [] x 0
requested_at_once x = (0, 8, omega arith, refl, record { goes_on = refl; in_turn = tt; since = []; are = refl; goes = nothing_came x }, (refl, refl))

not_requested_at_another : (x : Standby) (p : ℕ) (answers : List Answer) → RequestsAt counts 8 x 0 [] answers (with_other_settings x) p → ⊥
not_requested_at_another x p answers h = let e : x.shadow.permille + 1 ≡ x.shadow.permille = ap (λ (z : Standby). z.shadow.permille) h.3 in omega (arith, e)

not_with_more_running : (x y : Standby) → AreShownInTurn 1 x (show y 2 GoOn ∷ []) → ⊥
not_with_more_running x y h = omega (arith, h.3)

not_another_standby : (x : Standby) → AreShownInTurn 8 x (show (with_other_settings x) 8 GoOn ∷ []) → ⊥
not_another_standby x h = let e : x.shadow.permille + 1 ≡ x.shadow.permille = h.2.settings.permille in omega (arith, e)

-- where the log is held, the next one has the same namespace and the same last transaction
not_with_another_namespace : (x : Standby) (n : Namespace) → IsNextShown x (show x 8 Hold ∷ []) (record x { shadow = record x.shadow { namespace = n } }) → n ≡ x.shadow.namespace
not_with_another_namespace x n h = (h.1 refl).namespace

not_with_a_transaction_more : (x : Standby) → IsNextShown x (show x 8 Hold ∷ []) (record x { shadow = record x.shadow { last = x.shadow.last + 1 } }) → ⊥
not_with_a_transaction_more x h = omega (arith, (h.1 refl).last)

not_with_a_transaction_more_where_it_forgets : (x : Standby) → IsNextShown x (show x 8 ForgetAndHold ∷ []) (record x { shadow = record x.shadow { last = x.shadow.last + 1 } }) → ⊥
not_with_a_transaction_more_where_it_forgets x h = omega (arith, (h.1 refl).last)

-- ---- What comes back of a service that is refused.

abbrev worker : LaneId → ℕ → ℕ × Reporter
worker l dn = (dn, reporting l dn)

-- no thread was started: memory was refused, or the first worker's thread, which is dropped
none_started : (l : LaneId) → AreStarted (worker l 1 ∷ worker l 2 ∷ []) [] (worker l 1 ∷ worker l 2 ∷ [])
none_started l = ((omega arith, λ i w h low. absurd (omega (arith, low))), (0, omega arith, refl))

first_refused : (l : LaneId) → AreStarted (worker l 1 ∷ worker l 2 ∷ []) [] (worker l 2 ∷ [])
first_refused l = ((omega arith, λ i w h low. absurd (omega (arith, low))), (1, omega arith, refl))

not_two_dropped : (l : LaneId) → AreStarted (worker l 1 ∷ worker l 2 ∷ []) [] [] → ⊥
not_two_dropped l h = let none : 0 + h.1.0 ≡ h.1.0 = omega arith in by h.1.0 h.1.1 (h.1.2 ∙ ap (λ k. drop k (worker l 1 ∷ worker l 2 ∷ [])) none)
  where
    by : (refused : ℕ) → refused ≤ 1 → [] ≡ drop refused (worker l 1 ∷ worker l 2 ∷ []) → ⊥
    by zero few e = let n : 0 ≡ 2 = ap length e in omega (arith, n)
    by (suc zero) few e = let n : 0 ≡ 1 = ap length e in omega (arith, n)
    by (suc (suc k)) few e = omega (arith, few)

not_untouched_with_one_dropped : {T R : Type 0} (l : LaneId) (old : Standby) (u : Unserved T ℕ R) → u.unstarted.items ≡ worker l 1 ∷ [] → IsUntouched old (worker l 1 ∷ worker l 2 ∷ []) u → ⊥
not_untouched_with_one_dropped l old u one h = let n : 1 ≡ 2 = ap length (sym one ∙ h.2) in omega (arith, n)

not_refused_with_the_source_dropped : (A : Type 0) {R : Type 0} (old : Standby) (u : Unserved ℕ ℕ R) → u.source ≡ None → IsRefusedAtStart {A = A} old 7 [] u.fault (Err u) → ⊥
not_refused_with_the_source_dropped A old u none h = no_seven (sym none ∙ h.2)
  where
    no_seven : ◌≡◌ {A = Option ℕ} None (Some 7) → ⊥
    no_seven e = cc

-- ---- Lanes that are dry.

abbrev closed_lane : LaneId → ℕ → LaneEnd
closed_lane l accepted = record (taking l 1) { closed = true; seen = accepted }

dry : (l : LaneId) → IsDry (closed_lane l 0)
dry l = (refl, refl)

not_dry_with_one_left : (l : LaneId) → IsDry (closed_lane l 1) → ⊥
not_dry_with_one_left l h = let e : 0 ≡ 1 = h.1 in omega (arith, e)

not_dry_while_open : (l : LaneId) → IsDry (taking l 1) → ⊥
not_dry_while_open l h = true≢false (sym h.0)

-- ---- A promoted standby over one lane, which took one message.

abbrev dry_lane : LaneId → LaneEnd
dry_lane l = lane_with l (unnamed_report ∷ []) true

promoted_over_a_dry_lane : (l : LaneId) → IsPromotedAt root_alone 0 (given marks ∷ end ∷ []) (dry_lane l ∷ []) promoted_shadow
promoted_over_a_dry_lane l = let p = is_promoted l in record {
  stands = p.stands;
  whole = p.whole;
  picture = p.picture;
  none_held = p.none_held;
  ended = p.ended;
  log_end = p.log_end;
  dry = each;
}
  where
    each : (k : ℕ) (e : LaneEnd) → k < 1 → IsDry (slice_index_or (dry_lane l ∷ []) k e)
    each zero e few = (refl, refl)
    each (suc k) e few = absurd (omega (arith, few))

not_promoted_over_an_open_lane : (x : Shadow) (l : LaneId) (answers : List Answer) → IsPromotedAt root_alone 0 answers (taking l 1 ∷ []) x → ⊥
not_promoted_over_an_open_lane x l answers h = not_dry_while_open l (h.dry 0 (taking l 1) (omega arith))

not_promoted_with_one_left : (x : Shadow) (l : LaneId) (answers : List Answer) → IsPromotedAt root_alone 0 answers (closed_lane l 1 ∷ []) x → ⊥
not_promoted_with_one_left x l answers h = not_dry_with_one_left l (h.dry 0 (taking l 1) (omega arith))

not_promoted_with_one_held : (x : Shadow) (answers : List Answer) → IsPromotedAt root_alone 0 answers [] (record x { held = unnamed_report ∷ [] }) → ⊥
not_promoted_with_one_held x answers h = let e : unnamed_report ∷ [] ≡ [] = h.none_held in cc

not_promoted_unflushed : (l : LaneId) → IsPromotedAt root_alone 0 (given marks ∷ end ∷ []) (dry_lane l ∷ []) (record promoted_shadow { history = Applied 1 ∷ Applied 2 ∷ [] }) → ⊥
not_promoted_unflushed l h = none (h.whole unnamed_report refl refl)
  where
    none : Includes (Applied 1 ∷ Applied 2 ∷ []) (processed Flush unnamed_report) → ⊥
    none (inl e) = absurd (cc)
    none (inr (inl e)) = absurd (cc)
    none (inr (inr e)) = e

not_promoted_without_its_order : (l : LaneId) → IsPromotedAt root_alone 0 (given marks ∷ end ∷ []) (dry_lane l ∷ []) (record promoted_shadow { table = record { min = 1; entries = [] } }) → ⊥
not_promoted_without_its_order l h = let e : false ≡ true = h.picture.orders 1 1073741825 in true≢false (sym e)

not_promoted_elsewhere : (l : LaneId) → IsPromotedAt root_alone 0 (given marks ∷ end ∷ []) (dry_lane l ∷ []) (record promoted_shadow { last = 3 }) → ⊥
not_promoted_elsewhere l h = let e : 3 ≡ 2 = h.stands.last in omega (arith, e)

not_promoted_before_the_end : (x : Shadow) → IsPromotedAt root_alone 0 (given marks ∷ []) [] x → ⊥
not_promoted_before_the_end x h = one h.ended.0 h.ended.1
  where
    one : (before : List Answer) → given marks ∷ [] ≡ before ++ end ∷ [] → ⊥
    one [] e = cc
    one (a ∷ []) e = cc
    one (a ∷ b ∷ later) e = cc
