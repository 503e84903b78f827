-- Reading the log.
use Rattle.std.proofs.Common.{append_assoc, append-nil, ◌≡◌, ℕ, ◌+◌, ◌<◌, ◌≤◌, List, [], ◌∷◌, ◌++◌, length, None, Ok, Err, refl, sym, ap, ◌∙◌, subst, arith}
use Rattle.nn_segment.specs.Source.{Answer, Asked}
use Rattle.nn_segment.specs.declared.source.Item.TheVariants.{End}
use Rattle.nn_segment.specs.Source.{end}
use Rattle.nn_segment.specs.declared.cursor.TakenUp.{TakenUp}
use Rattle.nn_segment.specs.declared.cursor.TakenUp.TheVariants as taken_up
use Rattle.nn_lane_standby.specs.declared.fault.StepFault.{StepFault}
use Rattle.nn_lane_standby.specs.declared.fault.StepFault.TheVariants as fault
use Rattle.nn_lane_standby.specs.Tailing.{Standby, Carries, EndsInEnd}
use Rattle.nn_lane_standby.specs.Parts.{IsLive, AppliesNext, NotApplied}
use Rattle.nn_lane_standby.specs.Steps.{OnceAsked, SameLanes, OnLogFault}
use Rattle.nn_lane_standby.specs.Reads.{WhyEnded, EditsOn}
use Rattle.nn_lane_standby.proofs.Carried.{carries_same, carries_then, carries_answer, carries_segment, carries_gap, carries_applied, carries_stop, carries_unchanged, end_adds_none, fault_adds_none, AddsNone, TakesIn}
use Rattle.nn_lane_standby.proofs.Shadowing.{settings_same, settings_then, same_last}

-- edits were applied, and nothing stopped the standby
pub record Going (old : Standby) (answers : List Answer) (new : Standby) : Type 0 where
  pub carries : Carries old answers new
  pub lanes : SameLanes old new
  pub stop : new.stop ≡ None

pub lanes_same : (x : Standby) → SameLanes x x
lanes_same x = record { ends = refl; undelivered = refl; begun = refl; active = refl; settings = settings_same x.shadow }

pub lanes_then : (x y z : Standby) → SameLanes x y → SameLanes y z → SameLanes x z
lanes_then x y z a b = record { ends = b.ends ∙ a.ends; undelivered = b.undelivered ∙ a.undelivered; begun = b.begun ∙ a.begun; active = b.active ∙ a.active; settings = settings_then x.shadow y.shadow z.shadow a.settings b.settings }

pub going_start : (x : Standby) → IsLive x → Going x [] x
going_start x l = record { carries = carries_same x; lanes = lanes_same x; stop = l.1 }

pub going_live : (x y : Standby) (rs : List Answer) → IsLive x → Going x rs y → IsLive y
going_live x y rs l g = (g.lanes.begun ∙ l.0, g.stop, g.lanes.active ∙ l.2)

pub going_then : (x y z : Standby) (rs qs : List Answer) → Going x rs y → Going y qs z → Going x (rs ++ qs) z
going_then x y z rs qs f g = record { carries = carries_then x y z rs qs f.carries g.carries; lanes = lanes_then x y z f.lanes g.lanes; stop = g.stop }

pub going_on : (x y z : Standby) (rs : List Answer) → Going x rs y → Going y [] z → Going x rs z
going_on x y z rs f g = subst (λ q. Going x q z) (append-nil rs) (going_then x y z rs [] f g)

pub going_applied : (x y : Standby) (txid : ℕ) → IsLive x → AppliesNext x txid y → Going x [] y
going_applied x y txid l a = record {
  carries = carries_applied x y txid l a;
  lanes = subst (SameLanes x) (sym a.now) (record { ends = refl; undelivered = refl; begun = ap (λ z. z.active) a.applied.phase; active = refl; settings = a.applied.settings });
  stop = ap (λ z. z.stop) a.now ∙ l.1;
}

pub fewer : (x y : Standby) (txid : ℕ) → AppliesNext x txid y → length y.rest < length x.rest
fewer x y txid a = omega (arith, ap length (ap (λ z. z.rest) a.now), ap length a.was)

-- what is over, with why
abbrev pub Over : Standby → List Answer → Standby → StepFault → Type 0
Over x rs y e = Carries x rs y × SameLanes x y × WhyEnded rs y e

why_later : (rs qs : List Answer) (z : Standby) (e : StepFault) → WhyEnded qs z e → WhyEnded (rs ++ qs) z e
why_later rs qs z fault.AlreadyActive h = absurd h
why_later rs qs z (fault.Stopped m) h = h
why_later rs qs z fault.BadLane h = absurd h
why_later rs qs z (fault.LogNotEnded f) h = (h.0, (rs ++ h.1.0, ap (λ l. rs ++ l) h.1.1 ∙ sym (append_assoc rs h.1.0 (Err f ∷ []))))
why_later rs qs z fault.OutOfMemory h = h

pub over_then : (x y z : Standby) (rs qs : List Answer) (e : StepFault) → Going x rs y → Over y qs z e → Over x (rs ++ qs) z e
over_then x y z rs qs e f g = (carries_then x y z rs qs f.carries g.0, lanes_then x y z f.lanes g.1, why_later rs qs z e g.2)

pub over_on : (x y z : Standby) (rs : List Answer) (e : StepFault) → Going x rs y → Over y [] z e → Over x rs z e
over_on x y z rs e f g = subst (λ q. Over x q z e) (append-nil rs) (over_then x y z rs [] e f g)

pub over_refused : (x y : Standby) (e : StepFault) → IsLive x → NotApplied x y e → Over x [] y e
over_refused x y fault.AlreadyActive l h = absurd h
over_refused x y fault.BadLane l h = absurd h
over_refused x y (fault.LogNotEnded f) l h = absurd h
over_refused x y (fault.Stopped m) l h = (
  carries_stop x y m l h,
  subst (SameLanes x) (sym h.now) (record { ends = refl; undelivered = refl; begun = h.active; active = refl; settings = h.same.settings }),
  (ap (λ z. z.stop) h.now, h.next ∙ ap (λ n. n + 1) (sym (ap (λ z. z.shadow.last) h.now ∙ same_last x.shadow h.shown h.same))),
)
over_refused x y fault.OutOfMemory l h =
    (carries_unchanged x y l h, subst (SameLanes x) (sym h.now) (record { ends = refl; undelivered = refl; begun = ap (λ z. z.active) h.phase; active = refl; settings = h.same.settings }), ap (λ z. z.stop) h.now ∙ l.1)

-- the answer of a source that has no segment
carries_bare : (x y : Standby) (r q : Answer) → IsLive x → r ≡ q → AddsNone q → y ≡ x → Carries x (r ∷ []) y
carries_bare x y r q l e h s = subst (Carries x (r ∷ [])) (sym s) (carries_answer x r l (subst AddsNone (sym e) h))

pub over_asked : (x y : Standby) (r : Answer) (e : StepFault) → IsLive x → x.rest ≡ [] → OnceAsked x r y (Err e) → Over x (r ∷ []) y e
over_asked x y r fault.AlreadyActive l n h = absurd h
over_asked x y r fault.BadLane l n h = absurd h
over_asked x y r fault.OutOfMemory l n h = absurd h
over_asked x y r (fault.LogNotEnded f) l n h = (carries_bare x y r (Err f) l h.0 (fault_adds_none f) h.1, subst (SameLanes x) (sym h.1) (lanes_same x), (ap (λ z. z.stop) h.1 ∙ l.1, ([], ap (λ q. q ∷ []) h.0)))
over_asked x y r (fault.Stopped m) l n h = (
  subst (λ rs. Carries x rs y) (ap (λ q. q ∷ []) (sym h.1)) (carries_gap x y h.0 m (record { live = l; was = n; high = h.2; none = h.3; txid = h.4; cause = h.5; now = h.6 })),
  subst (SameLanes x) (sym h.6) (record { ends = refl; undelivered = refl; begun = refl; active = refl; settings = settings_same x.shadow }),
  (ap (λ z. z.stop) h.6, h.4 ∙ ap (λ n. n + 1) (sym (ap (λ z. z.shadow.last) h.6))),
)

pub going_asked : (x y : Standby) (r : Answer) (a : TakenUp) → IsLive x → x.rest ≡ [] → OnceAsked x r y (Ok a) → Going x (r ∷ []) y
going_asked x y r taken_up.End l n h = record { carries = carries_bare x y r end l h.0 end_adds_none h.1; lanes = subst (SameLanes x) (sym h.1) (lanes_same x); stop = ap (λ z. z.stop) h.1 ∙ l.1 }
going_asked x y r taken_up.Disorder l n h = absurd h
going_asked x y r taken_up.Old l n h =
    record {
      carries = subst (λ rs. Carries x rs y) (ap (λ q. q ∷ []) (sym h.1)) (carries_segment x y h.0 (subst (TakesIn x h.0) (sym h.4) (record { live = l; was = n; shadow = refl; ends = refl; undelivered = refl; begun = refl; stop = l.1; low = h.2; now = n ∙ sym h.3 })));
      lanes = subst (SameLanes x) (sym h.4) (lanes_same x);
      stop = ap (λ z. z.stop) h.4 ∙ l.1;
    }
going_asked x y r taken_up.New l n h =
    record {
      carries = subst (λ rs. Carries x rs y) (ap (λ q. q ∷ []) (sym h.1)) (carries_segment x y h.0 (subst (TakesIn x h.0) (sym h.4) (record { live = l; was = n; shadow = refl; ends = refl; undelivered = refl; begun = refl; stop = l.1; low = h.2; now = refl })));
      lanes = subst (SameLanes x) (sym h.4) (record { ends = refl; undelivered = refl; begun = refl; active = refl; settings = settings_same x.shadow });
      stop = ap (λ z. z.stop) h.4 ∙ l.1;
    }

-- what EditsOn says, the way round
pub going_done : (x y : Standby) (rs : List Answer) (P : Type 0) → EditsOn x rs y P (Ok tt) → Going x rs y × P
going_done x y rs P e = (record { carries = e.0; lanes = e.1; stop = e.2.1 }, e.2.0)

pub done_going : (x y : Standby) (rs : List Answer) (P : Type 0) → Going x rs y → P → EditsOn x rs y P (Ok tt)
done_going x y rs P g p = (g.carries, g.lanes, (p, g.stop))

-- the log so far, with its source
pub record Reading {S : Type 0} (gives : S → Answer → S → Type 0) (failures : S → ℕ) (s t : S) (old new : Standby) : Type 0 where
  pub counted : failures s ≤ failures t
  pub answers : List Answer
  pub asked : Asked gives s answers t
  pub going : Going old answers new

-- a fault that is not the source's
pub own_fault : (x y : Standby) (e : StepFault) → NotApplied x y e → OnLogFault {A = Unit {0}} (Err e) ⊥
own_fault x y fault.AlreadyActive h = tt
own_fault x y fault.BadLane h = tt
own_fault x y (fault.LogNotEnded f) h = h
own_fault x y (fault.Stopped m) h = tt
own_fault x y fault.OutOfMemory h = tt

pub no_fault : (e : StepFault) (P : Type 0) → OnLogFault {A = Unit {0}} (Err e) ⊥ → OnLogFault {A = Unit {0}} (Err e) P
no_fault fault.AlreadyActive P h = tt
no_fault fault.BadLane P h = tt
no_fault (fault.LogNotEnded f) P h = absurd h
no_fault (fault.Stopped m) P h = tt
no_fault fault.OutOfMemory P h = tt

pub later : (e : StepFault) (a b c : ℕ) → a ≤ b → OnLogFault {A = TakenUp} (Err e) (b < c) → OnLogFault {A = Unit {0}} (Err e) (a < c)
later fault.AlreadyActive a b c l h = tt
later fault.BadLane a b c l h = tt
later (fault.LogNotEnded f) a b c l h = omega (arith, l, h)
later (fault.Stopped m) a b c l h = tt
later fault.OutOfMemory a b c l h = tt

-- the log was read to its end
pub ended_there : (answers : List Answer) (r : Answer) → r ≡ Ok End → EndsInEnd (answers ++ r ∷ [])
ended_there answers r e = (answers, ap (λ z. answers ++ z ∷ []) e)

pub ends_behind : (before answers : List Answer) → EndsInEnd answers → EndsInEnd (before ++ answers)
ends_behind before answers e = (before ++ e.0, ap (λ z. before ++ z) e.1 ∙ sym (append_assoc before e.0 (end ∷ [])))
