-- What each move keeps.
use Rattle.std.proofs.Common.{◌≡◌, ℕ, zero, suc, ◌+◌, ◌<◌, ◌≤◌, Bool, true, false, List, [], ◌∷◌, ◌++◌, length, map, get_or, set, Option, Some, None, refl, sym, ap, ◌∙◌, subst, arith, length-append}
use Rattle.std.proofs.lemmas.List.{set-get_or}
use Rattle.nn_types.specs.declared.report.Message.{Message}
use Rattle.nn_lane.specs.Ends.{LaneEnd, known_count}
use Rattle.std.proofs.lemmas.Bool.{eqb-true}
use Rattle.nn_model.specs.Lanes.{Lanes, followed_by}
use Rattle.std.specs.Prelude.{if◌then◌else◌, ◌==◌}
use Rattle.nn_model.specs.Log.{CountsUp}
use Rattle.nn_shadow.specs.Contents.{Shadow, standby_of, last_number_in}
use Rattle.nn_shadow.specs.Refusals.{hand_refusal}
use Rattle.nn_lane_standby.specs.Shadows.{IsHanded}
use Rattle.nn_lane_standby.specs.Parts.{IsLive}
use Rattle.nn_lane_standby.proofs.Unflushed.{handed_before}
use Rattle.nn_lane_standby.proofs.Shadowing.{serving, is_welcome, handed_last, handed_numbers}
use Rattle.nn_lane_standby.specs.Tailing.{Standby, Keeps, handed, handed_all, by_node, lanes_of, IsUndelivered, AreUndelivered, undelivered_at, with_undelivered, with_shadow}
use Rattle.nn_lane_standby.proofs.Lanes.{lane_known, same_many, handed_set, length_handed, handed_at, handed_undelivered, grows}

pub some_end : (es : List LaneEnd) (i : ℕ) → i < length es → LaneEnd
some_end [] i l = absurd (omega arith)
some_end (e ∷ es) i l = e

pub length_map : (ts : List (List Message)) → length (map length ts) ≡ length ts
length_map [] = refl
length_map (t ∷ ts) = ap suc (length_map ts)

pub map_at : (ts : List (List Message)) (i : ℕ) → get_or (map length ts) i 0 ≡ length (get_or ts i [])
map_at [] i = refl
map_at (t ∷ ts) zero = refl
map_at (t ∷ ts) (suc i) = map_at ts i

-- what a undelivered message is
pub record IsNext (x : Standby) (i : ℕ) (m : Message) (d : LaneEnd) : Type 0 where
  pub dn : m.dn ≡ i + 1
  pub before : List Message
  pub split : (get_or x.ends i d).got ≡ before ++ m ∷ []
  pub number : m.number ≡ length before + 1
  pub few : length (get_or x.ends i d).got ≤ known_count (get_or x.ends i d)
  pub so_far : get_or (handed_all x.ends x.undelivered) i [] ≡ before
  pub after : handed_all x.ends (set x.undelivered i None) ≡ set (handed_all x.ends x.undelivered) i (get_or (handed_all x.ends x.undelivered) i [] ++ m ∷ [])

pub is_next : (x : Standby) (i : ℕ) (m : Message) (d : LaneEnd) → Keeps x → i < length x.ends → undelivered_at x i ≡ Some m → IsNext x i m d
is_next x i m d k l e =
    let P : Option Message → Type 0 = λ o. IsUndelivered (1 + i) (get_or x.ends i d) o in
    let f : IsUndelivered (1 + i) (get_or x.ends i d) (Some m) = subst P e (lane_known 1 x.ends x.undelivered i d k.lanes l).1 in
    let many = same_many 1 x.ends x.undelivered k.lanes in
    let at = handed_at x.ends x.undelivered i d l many ∙ ap (λ o. handed (get_or x.ends i d).got o) e ∙ handed_undelivered (get_or x.ends i d).got f.0 m f.1 in
    record {
      dn = (let q : m.dn ≡ i + 1 = omega (arith, f.3) in q);
      before = f.0;
      split = f.1;
      number = (let q : m.number ≡ length f.0 + 1 = omega (arith, f.2, ap length f.1, length-append f.0 (m ∷ [])) in q);
      few = f.4;
      so_far = at;
      after = ap (λ z. handed_all z (set x.undelivered i None)) (sym (set-get_or x.ends i d)) ∙ handed_set x.ends x.undelivered i (get_or x.ends i d) None many ∙ ap (λ v. set (handed_all x.ends x.undelivered) i v) (f.1 ∙ ap (λ v. v ++ m ∷ []) (sym at));
    }

-- it comes after all that the Shadow was handed of its lane
pub next_number : (x : Standby) (i : ℕ) (m : Message) (d : LaneEnd) → Keeps x → i < length x.ends → undelivered_at x i ≡ Some m → m.number ≡ length (lanes_of x m.dn) + 1
next_number x i m d k l e =
    let n = is_next x i m d k l e in
    let q : lanes_of x m.dn ≡ n.before = ap (lanes_of x) (let z : m.dn ≡ suc i = omega (arith, n.dn) in z) ∙ n.so_far in
    omega (arith, n.number, ap length q)

pub is_serving : (x : Standby) → Keeps x → IsLive x → x.shadow.phase ≡ serving
is_serving x k l = (λ j. record { stopped = k.live l.1 j; active = l.0 j })

-- the Shadow has no cause to refuse it
pub welcome : (x : Standby) (i : ℕ) (m : Message) (d : LaneEnd) → Keeps x → IsLive x → i < length x.ends → undelivered_at x i ≡ Some m
    → hand_refusal (length x.shadow.numbers) x.shadow.phase (standby_of x.shadow) m ≡ None
welcome x i m d k v l e =
    let n = is_next x i m d k l e in
    is_welcome x.shadow m (is_serving x k v) (omega (arith, n.dn)) (omega (arith, n.dn, l, k.count)) (next_number x i m d k l e ∙ ap (λ z. z + 1) (sym (k.numbers m.dn)))

lanes_after : (dn : ℕ) (es : List LaneEnd) (ks : List (Option Message)) (i : ℕ) → AreUndelivered dn es ks → AreUndelivered dn es (set ks i None)
lanes_after dn [] [] i h = tt
lanes_after dn [] (k ∷ ks) i h = absurd h
lanes_after dn (e ∷ es) [] i h = absurd h
lanes_after dn (e ∷ es) (k ∷ ks) zero h = (h.0, tt, h.2)
lanes_after dn (e ∷ es) (k ∷ ks) (suc i) h = (h.0, h.1, lanes_after (dn + 1) es ks i h.2)

-- the lanes as the Shadow saw them grow
pub lanes_grow : (x : Standby) (i : ℕ) (m : Message) (d : LaneEnd) (s : Shadow) → Keeps x → i < length x.ends → undelivered_at x i ≡ Some m → lanes_of (with_shadow (with_undelivered x i None) s) ≡ followed_by (lanes_of x) m
lanes_grow x i m d s k l e =
    let n = is_next x i m d k l e in
    ap by_node n.after ∙ grows (handed_all x.ends x.undelivered) i m (omega (arith, l, length_handed x.ends x.undelivered)) n.dn

-- the numbers grow with them
grown_numbers : (last : ℕ → ℕ) (lanes : Lanes) (m : Message) (dn : ℕ) → last dn ≡ length (lanes dn) → m.number ≡ length (lanes m.dn) + 1 → (if dn == m.dn then m.number else last dn) ≡ length (followed_by lanes m dn)
grown_numbers last lanes m dn same next =
    let P : Bool → Type 0 = λ b. (dn == m.dn) ≡ b → (if b then m.number else last dn) ≡ length (if b then lanes dn ++ m ∷ [] else lanes dn) in
    let all : (b : Bool) → P b = λ b. elim b as P [
      | true ↦ (λ e. let q : dn ≡ m.dn = eqb-true _ _ e in next ∙ ap (λ j. length (lanes j) + 1) (sym q) ∙ sym (length-append (lanes dn) (m ∷ [])))
      | false ↦ (λ e. same)
    ] in
    all (dn == m.dn) refl

pub keeps_handed : (x : Standby) (i : ℕ) (m : Message) (d : LaneEnd) (s : Shadow) → Keeps x → i < length x.ends → undelivered_at x i ≡ Some m → IsHanded x.shadow m s → Keeps (with_shadow (with_undelivered x i None) s)
keeps_handed x i m d s k l e h =
    let last : s.last ≡ x.shadow.last = handed_last x.shadow s m h in
    record {
      lanes = lanes_after 1 x.ends x.undelivered i k.lanes;
      few = k.few;
      count = h.settings.datanodes ∙ k.count;
      numbers = λ dn. handed_numbers x.shadow s m h dn ∙ grown_numbers (last_number_in x.shadow.numbers) (lanes_of x) m dn (k.numbers dn) (next_number x i m d k l e) ∙ ap (λ ls. length (ls dn)) (sym (lanes_grow x i m d s k l e));
      next = (let P : ℕ → Type 0 = λ j. CountsUp j x.rest in subst P (sym last) k.next);
      live = λ q. ap (λ z. z.stopped) h.phase ∙ k.live q;
      stops = λ z q. k.stops z q ∙ ap (λ n. n + 1) (sym last);
      begun_live = λ q. k.begun_live (sym (ap (λ z. z.active) h.phase) ∙ q);
      not_begun = λ q. k.not_begun (sym (ap (λ z. z.active) h.phase) ∙ q);
      before_flush = λ q. handed_before x.shadow s m h (k.before_flush q);
    }
