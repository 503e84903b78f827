-- What a step of a lane comes to.
use Rattle.std.proofs.Common.{◌≡◌, ◌≢◌, ℕ, zero, suc, ◌+◌, ◌<◌, ◌≤◌, List, [], ◌∷◌, ◌++◌, length, map, get_or, set, Option, Some, None, Ok, Err, refl, sym, ap, ◌∙◌, subst, arith, length-append}
use Rattle.std.proofs.lemmas.List.{map-set, set-get_or, get_or-set_same, get_or-set_other, length-set}
use Rattle.nn_types.specs.declared.report.Message.{Message}
use Rattle.nn_lane.specs.Ends.{LaneEnd, known_count}
use Rattle.nn_lane_standby.specs.declared.standby.Stepped.TheVariants as stepped
use Rattle.nn_lane_standby.specs.declared.fault.StepFault.{StepFault}
use Rattle.nn_lane_standby.specs.declared.fault.StepFault.TheVariants as fault
use Rattle.nn_lane_standby.specs.Tailing.{has_begun, Standby, standby_with_past, Keeps, Carries, lanes_of, handed, handed_all, undelivered_at, with_lane}
use Rattle.nn_shadow.specs.Contents.{Shadow, standby_of, KeepsSettings}
use Rattle.nn_shadow.specs.Refusals.{handed_as}
use Rattle.nn_shadow.specs.declared.fault.Handed.{Handed}
use Rattle.nn_lane_standby.specs.Shadows.{ShowsSame, IsHanded}
use Rattle.nn_lane_standby.specs.Parts.{IsLive, Fetches, FindsNone, HandsUndelivered, IsAsBefore, NotHanded}
use Rattle.nn_lane_standby.proofs.Shadowing.{settings_same, settings_then, same_last, handed_last}
use Rattle.nn_lane_standby.specs.LaneSteps.{SameEnd, SameEnds, handed_in, handed_count, all_count, IsDrained, LaneFrame, HandsNext, LaneMoves}
use Rattle.nn_lane_standby.proofs.Lanes.{same_many, handed_at}
use Rattle.nn_lane_standby.proofs.Moves.{is_next, some_end}
use Rattle.nn_lane_standby.proofs.Carried.{carries_then, carries_fetch, carries_handed, carries_unchanged, stands_live}

pub ends_same : (es : List LaneEnd) → SameEnds es es
ends_same [] = tt
ends_same (e ∷ es) = ((refl, refl, λ _. refl), ends_same es)

pub ends_then : (es bs cs : List LaneEnd) → SameEnds es bs → SameEnds bs cs → SameEnds es cs
ends_then [] [] [] f g = tt
ends_then [] [] (c ∷ cs) f g = absurd g
ends_then [] (b ∷ bs) cs f g = absurd f
ends_then (a ∷ es) [] cs f g = absurd f
ends_then (a ∷ es) (b ∷ bs) [] f g = absurd g
ends_then (a ∷ es) (b ∷ bs) (c ∷ cs) f g = ((g.0.0 ∙ f.0.0, g.0.1 ∙ f.0.1, λ h. g.0.2 (f.0.1 ∙ h) ∙ f.0.2 h), ends_then es bs cs f.1 g.1)

pub ends_set : (es : List LaneEnd) (i : ℕ) (e d : LaneEnd) → i < length es → SameEnd (get_or es i d) e → SameEnds es (set es i e)
ends_set [] i e d l h = absurd (omega arith)
ends_set (x ∷ xs) zero e d l h = (h, ends_same xs)
ends_set (x ∷ xs) (suc i) e d l h = ((refl, refl, λ _. refl), ends_set xs i e d (omega arith) h)

pub count_at : (es : List LaneEnd) (i : ℕ) (d : LaneEnd) → i < length es → get_or (map known_count es) i 0 ≡ known_count (get_or es i d)
count_at [] i d l = absurd (omega arith)
count_at (e ∷ es) zero d l = refl
count_at (e ∷ es) (suc i) d l = count_at es i d (omega arith)

-- a message is fetched: nothing is handed on yet
-- one lane changes, and another stays drained
other_drained : (x : Standby) (i k : ℕ) (e : LaneEnd) (o : Option Message) (H : List (List Message)) (v : List Message) → k ≢ i → H ≡ set (handed_in x) i v → IsDrained x k → (get_or (set x.undelivered i o) k None ≡ None) × (length (get_or H k []) ≡ get_or (map known_count (set x.ends i e)) k 0)
other_drained x i k e o H v n q h = (
  get_or-set_other x.undelivered i k o None n ∙ h.0,
  ap (λ z. length (get_or z k [])) q ∙ ap length (get_or-set_other (handed_in x) i k v [] n) ∙ h.1
      ∙ sym (ap (λ z. get_or z k 0) (map-set known_count x.ends i e) ∙ get_or-set_other (map known_count x.ends) i k (known_count e) 0 n),
)

module _ (old new : Standby) (i : ℕ) (live : IsLive old) (k : Keeps old) (l : i < length old.ends) where
  abbrev d : LaneEnd
  d = some_end old.ends i l

  -- once fetched, all is as before except the lane
  pub frame_fetched : (e : LaneEnd) (o : Option Message) → new ≡ with_lane old i e o → SameEnd (get_or old.ends i d) e → handed_in new ≡ handed_in old → LaneFrame old i new
  frame_fetched e o q s h = record {
    carries = subst (Carries old []) (sym q) (carries_fetch old i e o live (subst (λ (z : Standby). handed_in z ≡ handed_in old) q h));
    same_ends = subst (λ (z : Standby). SameEnds old.ends z.ends) (sym q) (ends_set old.ends i e d l s);
    end = e;
    message = o;
    ends = ap (λ z. z.ends) q;
    undelivered = ap (λ z. z.undelivered) q;
    others = (λ j n g. let P : Standby → Type 0 = λ z. IsDrained z j in subst P (sym q) (other_drained old i j e o (handed_in (with_lane old i e o)) (get_or (handed_in old) i []) n (subst (λ (z : Standby). handed_in z ≡ handed_in old) q h ∙ sym (set-get_or (handed_in old) i [])) g));
    last = ap (λ z. z.shadow.last) q;
    rest = ap (λ z. z.rest) q;
    stop = ap (λ z. z.stop) q;
    begun = ap (λ z. has_begun z) q;
    active = ap (λ z. z.active) q;
    settings = subst (λ z. KeepsSettings old.shadow z.shadow) (sym q) (settings_same old.shadow);
  }

  pub frame_new : (m : Message) → Fetches old i m new → LaneFrame old i new
  frame_new m f = frame_fetched f.end (Some m) f.now (f.lane d, f.closed d, λ h. f.all_same d (f.closed d ∙ h)) f.same

  pub frame_none : (n : ℕ) → FindsNone old i n new → LaneFrame old i new
  frame_none n f = frame_fetched f.end None f.now (f.lane d, f.closed d, λ h. f.all_same d (f.closed d ∙ h)) f.same

set_twice : {A : Type 0} (xs : List A) (i : ℕ) (x y : A) → set (set xs i x) i y ≡ set xs i y
set_twice [] i x y = refl
set_twice (z ∷ zs) zero x y = refl
set_twice (z ∷ zs) (suc i) x y = ap (λ l. z ∷ l) (set_twice zs i x y)

pub frame_then : (x y z : Standby) (i : ℕ) → LaneFrame x i y → LaneFrame y i z → LaneFrame x i z
frame_then x y z i f g = record {
  carries = carries_then x y z [] [] f.carries g.carries;
  same_ends = ends_then x.ends y.ends z.ends f.same_ends g.same_ends;
  end = g.end;
  message = g.message;
  ends = g.ends ∙ ap (λ es. set es i g.end) f.ends ∙ set_twice x.ends i f.end g.end;
  undelivered = g.undelivered ∙ ap (λ ks. set ks i g.message) f.undelivered ∙ set_twice x.undelivered i f.message g.message;
  others = (λ j n h. g.others j n (f.others j n h));
  last = g.last ∙ f.last;
  rest = g.rest ∙ f.rest;
  stop = g.stop ∙ f.stop;
  begun = g.begun ∙ f.begun;
  active = g.active ∙ f.active;
  settings = settings_then x.shadow y.shadow z.shadow f.settings g.settings;
}

pub frame_handed : (x y : Standby) (i : ℕ) (m : Message) → IsLive x → Keeps x → (l : i < length x.ends) → undelivered_at x i ≡ Some m → HandsUndelivered x i m y → LaneFrame x i y
frame_handed x y i m live k l e h =
    let d = some_end x.ends i l in let q = h.now in
    record {
      carries = carries_handed x y i m d live k l e h;
      same_ends = subst (λ (z : Standby). SameEnds x.ends z.ends) (sym q) (ends_same x.ends);
      end = get_or x.ends i d;
      message = None;
      ends = ap (λ z. z.ends) q ∙ sym (set-get_or x.ends i d);
      undelivered = ap (λ z. z.undelivered) q;
      others = (λ j n g. let P : Standby → Type 0 = λ z. IsDrained z j in
          let w : IsDrained (with_lane x i (get_or x.ends i d) None) j = other_drained x i j (get_or x.ends i d) None (handed_all (set x.ends i (get_or x.ends i d)) (set x.undelivered i None)) (get_or (handed_in x) i [] ++ m ∷ []) n (ap (λ es. handed_all es (set x.undelivered i None)) (set-get_or x.ends i d) ∙ (is_next x i m d k l e).after) g in
          let D : List LaneEnd → Type 0 = λ es. (get_or (set x.undelivered i None) j None ≡ None) × (length (get_or (handed_all es (set x.undelivered i None)) j []) ≡ get_or (map known_count es) j 0) in
          subst P (sym q) (subst D (set-get_or x.ends i d) w));
      last = ap (λ z. z.shadow.last) q ∙ handed_last x.shadow h.shown m h.handed;
      rest = ap (λ z. z.rest) q;
      stop = ap (λ z. z.stop) q;
      begun = ap (λ z. has_begun z) q ∙ ap (λ z. z.active) h.handed.phase;
      active = ap (λ z. z.active) q;
      settings = subst (λ z. KeepsSettings x.shadow z.shadow) (sym q) h.handed.settings;
    }

-- its lane has one message more that was handed on
abbrev MovesOn : Standby → ℕ → Message → Standby → Type 0
MovesOn old i m new = (m.dn ≡ i + 1) × (handed_in new ≡ set (handed_in old) i (get_or (handed_in old) i [] ++ m ∷ [])) × (handed_count old i + 1 ≤ all_count new i)

moves_on : (x y : Standby) (i : ℕ) (m : Message) → Keeps x → (l : i < length x.ends) → undelivered_at x i ≡ Some m → HandsUndelivered x i m y → MovesOn x i m y
moves_on x y i m k l e h =
    let d = some_end x.ends i l in let n = is_next x i m d k l e in (
      n.dn,
      subst (λ (z : Standby). handed_in z ≡ set (handed_in x) i (get_or (handed_in x) i [] ++ m ∷ [])) (sym h.now) n.after,
      subst (λ (z : Standby). handed_count x i + 1 ≤ all_count z i) (sym h.now)
          (let c = count_at x.ends i d l in let f = n.few in let s = ap length n.so_far in let t = ap length n.split ∙ length-append n.before (m ∷ []) in
          let r : length (get_or (handed_all x.ends x.undelivered) i []) + 1 ≤ get_or (map known_count x.ends) i 0 = omega (arith, c, f, s, t) in r),
    )

-- the same from where the message was fetched
moves_then : (old mid new : Standby) (i : ℕ) (m : Message) → handed_in mid ≡ handed_in old → MovesOn mid i m new → MovesOn old i m new
moves_then old mid new i m q h = subst (λ H. (m.dn ≡ i + 1) × (handed_in new ≡ set H i (get_or H i [] ++ m ∷ [])) × (length (get_or H i []) + 1 ≤ all_count new i)) q h

pub drained : (old new : Standby) (i n : ℕ) (d : LaneEnd) → Keeps old → i < length old.ends → FindsNone old i n new → IsDrained new i × (n ≡ handed_count new i)
drained old new i n d k l f =
    let P : Standby → Type 0 = λ z. IsDrained z i × (n ≡ handed_count z i) in
    let x = with_lane old i f.end None in
    let in_undelivered : i < length old.undelivered = omega (arith, same_many 1 old.ends old.undelivered k.lanes, l) in
    let in_ends : i < length x.ends = omega (arith, length-set old.ends i f.end, l) in
    let many : length x.undelivered ≡ length x.ends = omega (arith, length-set old.ends i f.end, length-set old.undelivered i None, same_many 1 old.ends old.undelivered k.lanes) in
    let none : undelivered_at x i ≡ None = get_or-set_same old.undelivered i None None in_undelivered in
    let here : get_or x.ends i d ≡ f.end = get_or-set_same old.ends i f.end d l in
    let at : handed_count x i ≡ length f.end.got = ap length (handed_at x.ends x.undelivered i d in_ends many ∙ ap (λ o. handed (get_or x.ends i d).got o) none ∙ ap (λ z. z.got) here) in
    let count : all_count x i ≡ known_count f.end = count_at x.ends i d in_ends ∙ ap known_count here in
    subst P (sym f.now) ((none, at ∙ sym f.all ∙ sym count), f.accepted_is ∙ sym at)

-- once fetched, the message is undelivered
pub fetched_is : (old mid : Standby) (i : ℕ) (m : Message) → IsLive old → Keeps old → i < length old.ends → Fetches old i m mid → (undelivered_at mid i ≡ Some m) × (i < length mid.ends) × IsLive mid
fetched_is old mid i m v k l f =
    let P : Standby → Type 0 = λ z. (undelivered_at z i ≡ Some m) × (i < length z.ends) × IsLive z in
    subst P (sym f.now) (get_or-set_same old.undelivered i (Some m) None (omega (arith, same_many 1 old.ends old.undelivered k.lanes, l)), omega (arith, length-set old.ends i f.end, l), v)

-- the whole step, where the message is handed on
pub step_frame : (old mid new : Standby) (i : ℕ) (m : Message) → IsLive old → Keeps old → Keeps mid → (l : i < length old.ends) → Fetches old i m mid → HandsUndelivered mid i m new → LaneFrame old i new
step_frame old mid new i m v k k' l f h =
    let r = fetched_is old mid i m v k l f in
    frame_then old mid new i (frame_new old mid i v k l m f) (frame_handed mid new i m r.2 k' r.1 r.0 h)

pub step_hands : (old mid new : Standby) (i : ℕ) (m : Message) (counts : Handed) → IsLive old → Keeps old → Keeps mid → (l : i < length old.ends) → Fetches old i m mid → HandsUndelivered mid i m new → handed_as (standby_of mid.shadow) m ≡ counts → HandsNext old i counts new
step_hands old mid new i m counts v k k' l f h w =
    let r = fetched_is old mid i m v k l f in
    let on = moves_then old mid new i m f.same (moves_on mid new i m k' r.1 r.0 h) in
    let same : mid.shadow ≡ old.shadow = ap (λ z. z.shadow) f.now in
    let by : IsHanded old.shadow m h.shown = subst (λ z. IsHanded z m h.shown) same h.handed in
    record {
      message = m;
      node = on.0;
      lanes = on.1;
      few = on.2;
      none_undelivered = let in_mid : i < length mid.undelivered = omega (arith, same_many 1 mid.ends mid.undelivered k'.lanes, r.1) in
          let P : Standby → Type 0 = λ z. undelivered_at z i ≡ None in subst P (sym h.now) (get_or-set_same mid.undelivered i None None in_mid);
      standby = ap (λ z. standby_of z.shadow) h.now ∙ by.standby;
      answer = subst (λ (z : Shadow). handed_as (standby_of z) m ≡ counts) same w;
      held = λ past start base given s. by.held past start base s.txs (lanes_of old) (stands_live start base given (standby_with_past past old) v s);
    }

frame_unchanged : (x y : Standby) (i : ℕ) → IsLive x → i < length x.ends → IsAsBefore x y → LaneFrame x i y
frame_unchanged x y i live l h =
    let d = some_end x.ends i l in let q = h.now in
    record {
      carries = carries_unchanged x y live h;
      same_ends = subst (λ (z : Standby). SameEnds x.ends z.ends) (sym q) (ends_same x.ends);
      end = get_or x.ends i d;
      message = get_or x.undelivered i None;
      ends = ap (λ z. z.ends) q ∙ sym (set-get_or x.ends i d);
      undelivered = ap (λ z. z.undelivered) q ∙ sym (set-get_or x.undelivered i None);
      others = (λ j n g. let P : Standby → Type 0 = λ z. IsDrained z j in subst P (sym q) g);
      last = ap (λ z. z.shadow.last) q ∙ same_last x.shadow h.shown h.same;
      rest = ap (λ z. z.rest) q;
      stop = ap (λ z. z.stop) q;
      begun = ap (λ z. has_begun z) q ∙ ap (λ z. z.active) h.phase;
      active = ap (λ z. z.active) q;
      settings = subst (λ z. KeepsSettings x.shadow z.shadow) (sym q) h.same.settings;
    }

pub step_fault : (old mid new : Standby) (i : ℕ) (m : Message) (e : StepFault) → IsLive old → Keeps old → (l : i < length old.ends) → Fetches old i m mid → NotHanded mid new e → LaneFrame old i new × LaneMoves old i new (Err e)
step_fault old mid new i m fault.AlreadyActive v k l f h = absurd h
step_fault old mid new i m (fault.Stopped s) v k l f h = absurd h
step_fault old mid new i m fault.BadLane v k l f h = absurd h
step_fault old mid new i m (fault.LogNotEnded e) v k l f h = absurd h
step_fault old mid new i m fault.OutOfMemory v k l f h =
    let r = fetched_is old mid i m v k l f in (
      frame_then old mid new i (frame_new old mid i v k l m f) (frame_unchanged mid new i r.2 r.1 h),
      (subst (λ z. ShowsSame z new.shadow) (ap (λ z. z.shadow) f.now) (subst (λ z. ShowsSame mid.shadow z) (sym (ap (λ z. z.shadow) h.now)) h.same), ap handed_in h.now ∙ f.same),
    )

pub step_empty : (old new : Standby) (i n : ℕ) → Keeps old → (l : i < length old.ends) → FindsNone old i n new → LaneMoves old i new (Ok (stepped.Empty n))
step_empty old new i n k l f = let r = drained old new i n (some_end old.ends i l) k l f in (
  ap (λ z. z.shadow) f.now,
  f.same,
  r.0,
  r.1,
  (λ d. ap (λ z. (get_or z.ends i d).loads) f.now ∙ ap (λ z. z.loads) (get_or-set_same old.ends i f.end d l) ∙ f.looked d),
)
