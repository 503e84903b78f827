-- Draining the lanes.
use Rattle.std.proofs.Common.{◌≡◌, ℕ, suc, ◌+◌, ◌-◌, ◌<◌, Bool, true, false, ◌&&◌, List, [], ◌∷◌, ◌++◌, length, map, get_or, Option, None, Ok, Err, refl, sym, ap, ◌∙◌, subst, inl, inr, arith, length-append}
use Rattle.std.specs.List.{list_all}
use Rattle.std.proofs.lemmas.List.{set-get_or, get_or-set_same}
use Rattle.std.proofs.Math.Nat.{eq-or-lt_of_le}
use Rattle.nn_types.specs.declared.report.Message.{Message}
use Rattle.nn_lane.specs.Ends.{LaneEnd, known_count, got_of}
use Rattle.nn_shadow.specs.declared.fault.Handed.{Handed}
use Rattle.nn_lane_standby.specs.declared.standby.Stepped.{Stepped}
use Rattle.nn_lane_standby.specs.declared.standby.Stepped.TheVariants as stepped
use Rattle.nn_lane_standby.specs.declared.fault.StepFault.{StepFault}
use Rattle.nn_lane_standby.specs.declared.fault.StepFault.TheVariants as fault
use Rattle.nn_lane_standby.specs.Tailing.{Standby, AllTaken, handed, handed_all}
use Rattle.nn_lane_standby.specs.Parts.{IsLive}
use Rattle.nn_lane_standby.specs.LaneSteps.{SameEnds, is_closed_lane, AllClosed, handed_in, handed_count, all_count, IsDrained, LaneFrame, LanesFrame, HandsNext, LaneMoves}
use Rattle.nn_lane_standby.proofs.Lanes.{length_handed}
use Rattle.nn_lane_standby.proofs.Moves.{some_end}
use Rattle.nn_lane_standby.proofs.LaneSteps.{ends_same, ends_then}
use Rattle.nn_lane_standby.proofs.Carried.{carries_same, carries_then}
use Rattle.nn_lane_standby.proofs.Shadowing.{settings_same, settings_then}

both_true : (a b : Bool) → (a && b) ≡ true → (a ≡ true) × (b ≡ true)
both_true true b h = (refl, h)
both_true false b h = absurd (let e : false ≡ true = h in cc)

pub still_closed : (es es' : List LaneEnd) → SameEnds es es' → AllClosed es → (AllClosed es') × (map known_count es' ≡ map known_count es)
still_closed [] [] s h = (refl, refl)
still_closed [] (e ∷ es) s h = absurd s
still_closed (e ∷ es) [] s h = absurd s
still_closed (e ∷ es) (e' ∷ es') s h =
    let b = both_true (is_closed_lane e) (list_all is_closed_lane es) h in
    let r = still_closed es es' s.1 b.1 in
    (ap (λ z. z && list_all is_closed_lane es') (s.0.1 ∙ b.0) ∙ r.0, ap (λ n. n ∷ map known_count es') (s.0.2 b.0) ∙ ap (λ l. known_count e ∷ l) r.1)

pub same_length : (es es' : List LaneEnd) → SameEnds es es' → length es' ≡ length es
same_length [] [] s = refl
same_length [] (e ∷ es) s = absurd s
same_length (e ∷ es) [] s = absurd s
same_length (e ∷ es) (e' ∷ es') s = ap suc (same_length es es' s.1)

pub lane_same : (x : Standby) (i : ℕ) → i < length x.ends → LaneFrame x i x
lane_same x i l = let d = some_end x.ends i l in record {
  carries = carries_same x;
  same_ends = ends_same x.ends;
  end = get_or x.ends i d;
  message = get_or x.undelivered i None;
  ends = sym (set-get_or x.ends i d);
  undelivered = sym (set-get_or x.undelivered i None);
  others = λ k n h. h;
  last = refl;
  rest = refl;
  stop = refl;
  begun = refl;
  active = refl;
  settings = settings_same x.shadow;
}

pub lane_live : (x y : Standby) (i : ℕ) → IsLive x → LaneFrame x i y → IsLive y
lane_live x y i l f = (f.begun ∙ l.0, f.stop ∙ l.1, f.active ∙ l.2)

-- an answer other than Empty handed a message on
hands : (x y : Standby) (i : ℕ) (a : Stepped) → ((n : ℕ) → a ≡ stepped.Empty n → ⊥) → LaneMoves x i y (Ok a) → (counts : Handed) × HandsNext x i counts y
hands x y i (stepped.Handed processed held) n h = (record { processed = processed; held = held }, h)
hands x y i (stepped.Empty k) n h = absurd (n k refl)
hands x y i (stepped.Applied txid) n h = absurd h
hands x y i stepped.Passed n h = absurd h
hands x y i stepped.LogEnded n h = absurd h

-- so fewer are left
pub fewer_left : (x y : Standby) (i : ℕ) (a : Stepped) → i < length x.ends → AllClosed x.ends → ((n : ℕ) → a ≡ stepped.Empty n → ⊥) → LaneFrame x i y → LaneMoves x i y (Ok a) → all_count y i - handed_count y i < all_count x i - handed_count x i
fewer_left x y i a l c n f m =
    let h = (hands x y i a n m).1 in
    let same : all_count y i ≡ all_count x i = ap (λ z. get_or z i 0) (still_closed x.ends y.ends f.same_ends c).1 in
    let grown : handed_count y i ≡ handed_count x i + 1 =
    ap (λ z. length (get_or z i [])) h.lanes ∙ ap length (get_or-set_same (handed_in x) i (get_or (handed_in x) i [] ++ h.message ∷ []) [] (omega (arith, l, length_handed x.ends x.undelivered)))
    ∙ length-append (get_or (handed_in x) i []) (h.message ∷ []) in
    omega (arith, same, grown, h.few)

pub is_empty : (x y : Standby) (i n : ℕ) (a : Stepped) → a ≡ stepped.Empty n → LaneMoves x i y (Ok a) → IsDrained y i
is_empty x y i n a e m = (subst (λ (z : Stepped). LaneMoves x i y (Ok z)) e m).2

pub only_memory : (x y : Standby) (i : ℕ) (e : StepFault) → LaneMoves x i y (Err e) → e ≡ fault.OutOfMemory
only_memory x y i fault.OutOfMemory h = refl
only_memory x y i fault.AlreadyActive h = absurd h
only_memory x y i (fault.Stopped s) h = absurd h
only_memory x y i fault.BadLane h = absurd h
only_memory x y i (fault.LogNotEnded f) h = absurd h

-- ---- all lanes

pub lanes_same : (x : Standby) → LanesFrame x x
lanes_same x = record { carries = carries_same x; same_ends = ends_same x.ends; last = refl; rest = refl; stop = refl; begun = refl; active = refl; settings = settings_same x.shadow }

pub lanes_then : (x y z : Standby) (i : ℕ) → LanesFrame x y → LaneFrame y i z → LanesFrame x z
lanes_then x y z i f g = record {
  carries = carries_then x y z [] [] f.carries g.carries;
  same_ends = ends_then x.ends y.ends z.ends f.same_ends g.same_ends;
  last = g.last ∙ f.last;
  rest = g.rest ∙ f.rest;
  stop = g.stop ∙ f.stop;
  begun = g.begun ∙ f.begun;
  active = g.active ∙ f.active;
  settings = settings_then x.shadow y.shadow z.shadow f.settings g.settings;
}

pub lanes_live : (x y : Standby) → IsLive x → LanesFrame x y → IsLive y
lanes_live x y l f = (f.begun ∙ l.0, f.stop ∙ l.1, f.active ∙ l.2)

-- one more lane is drained
pub drained_more : (x y : Standby) (i : ℕ) → LaneFrame x i y → IsDrained y i → ((k : ℕ) → k < i → IsDrained x k) → (k : ℕ) → k < i + 1 → IsDrained y k
drained_more x y i f h all k l =
    elim (eq-or-lt_of_le {n = k} {m = i} (omega arith)) [ inl e ↦ let P : ℕ → Type 0 = λ j. IsDrained y j in subst P (sym e) h | inr b ↦ f.others k (λ e. omega (arith, e, b)) (all k b) ]

-- all that was counted was taken
pub all_taken : (es : List LaneEnd) (ks : List (Option Message)) → length ks ≡ length es → AllClosed es → ((k : ℕ) → k < length es → (get_or ks k None ≡ None) × (length (get_or (handed_all es ks) k []) ≡ get_or (map known_count es) k 0)) → AllTaken es ks
all_taken [] ks m c h = tt
all_taken (e ∷ es) [] m c h = absurd (omega (arith, m))
all_taken (e ∷ es) (k ∷ ks) m c h =
    let b = both_true (is_closed_lane e) (list_all is_closed_lane es) c in
    let z = h 0 (omega arith) in
    (b.0, z.0, ap (λ o. length (handed e.got o)) (sym z.0) ∙ z.1, all_taken es ks (omega (arith, m)) b.1 (λ j l. h (suc j) (omega (arith, l))))

pub handed_got : (es : List LaneEnd) (ks : List (Option Message)) → AllTaken es ks → handed_all es ks ≡ map got_of es
handed_got [] ks h = refl
handed_got (e ∷ es) [] h = absurd h
handed_got (e ∷ es) (k ∷ ks) h = ap (λ o. handed e.got o ∷ handed_all es ks) h.1 ∙ ap (λ l. e.got ∷ l) (handed_got es ks h.3)
