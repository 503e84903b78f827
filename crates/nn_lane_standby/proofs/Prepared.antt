-- From a live standby to a promoted one.
use Rattle.std.proofs.Common.{◌≡◌, true, false, true≢false, List, [], ◌++◌, Result, Ok, Err, refl, sym, ◌∙◌, subst}
use Rattle.std.proofs.lemmas.List.{append-nil}
use Rattle.nn_segment.specs.Source.{Answer, Asked}
use Rattle.nn_lane_standby.specs.declared.fault.StepFault.{StepFault}
use Rattle.nn_lane_standby.specs.declared.fault.StepFault.TheVariants as fault
use Rattle.nn_lane_standby.specs.declared.fault.PromoteFault.{PromoteFault}
use Rattle.nn_lane_standby.specs.declared.fault.PromoteFault.TheVariants as promote_fault
use Rattle.nn_lane_standby.specs.declared.standby.Active.{Active}
use Rattle.nn_lane_standby.specs.Tailing.{has_begun, Standby, standby_with_past, Keeps, Carries, StandsAt, EndsInEnd}
use Rattle.nn_lane_standby.specs.Steps.{SameLanes}
use Rattle.nn_lane_standby.specs.LaneSteps.{SameEnds, AllClosed, LanesFrame, AreDrained}
use Rattle.nn_lane_standby.specs.Reads.{WhyEnded, StopsFor, EditsOn}
use Rattle.nn_lane_standby.specs.Promotion.{Promoted, Finishes, NotPromoted, Prepares, Promotes}
use Rattle.nn_lane_standby.proofs.Carried.{carries_same, carries_then}
use Rattle.nn_lane_standby.proofs.Lanes.{same_many}
use Rattle.nn_lane_standby.proofs.LaneSteps.{ends_same, ends_then}
use Rattle.nn_lane_standby.proofs.Logs.{Going, ends_behind}
use Rattle.nn_lane_standby.proofs.Shadowing.{settings_same, settings_then}
use Rattle.nn_lane_standby.proofs.Drained.{still_closed, all_taken}

pub ends_by : (x y : Standby) → SameLanes x y → SameEnds x.ends y.ends
ends_by x y l = subst (λ es. SameEnds x.ends es) (sym l.ends) (ends_same x.ends)

carries_on : (x y z : Standby) (rs : List Answer) → Carries x rs y → Carries y [] z → Carries x rs z
carries_on x y z rs f g = subst (λ q. Carries x q z) (append-nil rs) (carries_then x y z rs [] f g)

-- the log was not read to its end
pub prepare_unread : (x y : Standby) (rs : List Answer) (P : Type 0) (e : StepFault) → EditsOn x rs y P (Err e) → Prepares x rs y (Err e)
prepare_unread x y rs P e h = (h.0, ends_by x y h.1, h.1.begun, h.1.active, h.2, h.1.settings)

-- the lanes were not drained
pub prepare_undrained : (x y z : Standby) (rs : List Answer) (e : StepFault) → Going x rs y → LanesFrame y z → e ≡ fault.OutOfMemory → Prepares x rs z (Err e)
prepare_undrained x y z rs e g f q = (
  carries_on x y z rs g.carries f.carries,
  ends_then x.ends y.ends z.ends (ends_by x y g.lanes) f.same_ends,
  f.begun ∙ g.lanes.begun,
  f.active ∙ g.lanes.active,
  subst (WhyEnded rs z) (sym q) (f.stop ∙ g.stop),
  settings_then x.shadow y.shadow z.shadow g.lanes.settings f.settings,
)

pub prepare_done : (x y z : Standby) (rs : List Answer) → AllClosed x.ends → Keeps z → Going x rs y → EndsInEnd rs × (y.rest ≡ []) → LanesFrame y z → AreDrained z → Prepares x rs z (Ok tt)
prepare_done x y z rs c k g d f drained =
    let same = ends_then x.ends y.ends z.ends (ends_by x y g.lanes) f.same_ends in (
      carries_on x y z rs g.carries f.carries,
      same,
      f.begun ∙ g.lanes.begun,
      f.active ∙ g.lanes.active,
      (f.stop ∙ g.stop, f.rest ∙ d.1, d.0, all_taken z.ends z.undelivered (same_many 1 z.ends z.undelivered k.lanes) (still_closed x.ends z.ends same c).0 drained),
      settings_then x.shadow y.shadow z.shadow g.lanes.settings f.settings,
    )

pub still_all_closed : (x y : Standby) → SameLanes x y → AllClosed x.ends → AllClosed y.ends
still_all_closed x y l c = subst AllClosed (sym l.ends) c

-- a standby that is stopped stands where the log stops
pub stops_for : (x y : Standby) (rs : List Answer) (e : StepFault) → Carries x rs y → WhyEnded rs y e → StopsFor x rs e
stops_for x y rs fault.AlreadyActive c w = tt
stops_for x y rs (fault.Stopped m) c w = λ past start base given h. (c past start base given h).stops m w.0
stops_for x y rs fault.BadLane c w = tt
stops_for x y rs (fault.LogNotEnded f) c w = w.1
stops_for x y rs fault.OutOfMemory c w = tt

module _ {S : Type 0} (gives : S → Answer → S → Type 0) where
  -- nothing was done
  pub promote_refused : (s : S) (x : Standby) (f : PromoteFault) → NotPromoted x [] x f → Promotes gives s x s x (Err f)
  promote_refused s x f h = ([], refl, carries_same x, ends_same x.ends, h, settings_same x.shadow)

  -- the log or the lanes ended it
  pub promote_unready : (s t : S) (x y : Standby) (rs : List Answer) (e : StepFault) → Asked gives s rs t → Prepares x rs y (Err e) → Promotes gives s x t y (Err (promote_fault.Step e))
  promote_unready s t x y rs e a p = (rs, a, p.0, p.1, (p.3, p.4, stops_for x y rs e p.0 p.4), p.5)

  -- the flush came to its end, or not
  pub promote_finished : (s t : S) (x y z : Standby) (rs : List Answer) (r : Result Active PromoteFault) → has_begun x ≡ false → x.active ≡ false → Asked gives s rs t → Prepares x rs y (Ok tt) → Finishes y z r → Promotes gives s x t z r
  promote_finished s t x y z rs (Ok a) b v q p f = (
    rs,
    q,
    (λ past start base given h. (f.4 past start base (given ++ rs) (p.0 past start base given h) p.4.1 (ends_behind given rs p.4.2) p.4.3).1),
    ends_then x.ends y.ends z.ends p.1 (subst (λ es. SameEnds y.ends es) (sym f.3) (ends_same y.ends)),
    (f.0, f.1, f.2, (λ past start base given h. (f.4 past start base (given ++ rs) (p.0 past start base given h) p.4.1 (ends_behind given rs p.4.2) p.4.3).0), λ _. p.4.2),
    settings_then x.shadow y.shadow z.shadow p.5 f.5,
  )
  promote_finished s t x y z rs (Err (promote_fault.Step fault.OutOfMemory)) b v q p f = (
    rs,
    q,
    (λ past start base given h. f.3 past start base (given ++ rs) (p.0 past start base given h) p.4.1 (ends_behind given rs p.4.2) p.4.3),
    ends_then x.ends y.ends z.ends p.1 (subst (λ es. SameEnds y.ends es) (sym f.2) (ends_same y.ends)),
    (f.0 ∙ p.3, f.1, tt),
    settings_then x.shadow y.shadow z.shadow p.5 f.4,
  )
  promote_finished s t x y z rs (Err (promote_fault.Step fault.AlreadyActive)) b v q p f = absurd f
  promote_finished s t x y z rs (Err (promote_fault.Step (fault.Stopped m))) b v q p f = absurd f
  promote_finished s t x y z rs (Err (promote_fault.Step fault.BadLane)) b v q p f = absurd f
  promote_finished s t x y z rs (Err (promote_fault.Step (fault.LogNotEnded e))) b v q p f = absurd f
  promote_finished s t x y z rs (Err promote_fault.AlreadyActive) b v q p f = absurd f
  promote_finished s t x y z rs (Err promote_fault.IntakeOpen) b v q p f = absurd f

  -- an earlier call had begun the flush
  pub promote_resumed : (s : S) (x z : Standby) (r : Result Active PromoteFault) → has_begun x ≡ true → Finishes x z r → Promotes gives s x s z r
  promote_resumed s x z (Ok a) b f = (
    [],
    refl,
    (λ past start base given h. let e = h.ended b in subst (λ g. StandsAt start base g (standby_with_past past z)) (sym (append-nil given)) (f.4 past start base given h e.0 e.1 e.2).1),
    subst (λ es. SameEnds x.ends es) (sym f.3) (ends_same x.ends),
    (f.0, f.1, f.2, (λ past start base given h. let e = h.ended b in subst (λ g. Promoted start base g (standby_with_past past z)) (sym (append-nil given)) (f.4 past start base given h e.0 e.1 e.2).0), λ fresh. absurd (true≢false (sym b ∙ fresh))),
    f.5,
  )
  promote_resumed s x z (Err (promote_fault.Step fault.OutOfMemory)) b f = (
    [],
    refl,
    (λ past start base given h. let e = h.ended b in subst (λ g. StandsAt start base g (standby_with_past past z)) (sym (append-nil given)) (f.3 past start base given h e.0 e.1 e.2)),
    subst (λ es. SameEnds x.ends es) (sym f.2) (ends_same x.ends),
    (f.0, f.1, tt),
    f.4,
  )
  promote_resumed s x z (Err (promote_fault.Step fault.AlreadyActive)) b f = absurd f
  promote_resumed s x z (Err (promote_fault.Step (fault.Stopped m))) b f = absurd f
  promote_resumed s x z (Err (promote_fault.Step fault.BadLane)) b f = absurd f
  promote_resumed s x z (Err (promote_fault.Step (fault.LogNotEnded e))) b f = absurd f
  promote_resumed s x z (Err promote_fault.AlreadyActive) b f = absurd f
  promote_resumed s x z (Err promote_fault.IntakeOpen) b f = absurd f
