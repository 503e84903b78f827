-- Many lanes at once.
use Rattle.std.proofs.Common.{◌≡◌, ◌≢◌, ℕ, zero, suc, ◌+◌, ◌-◌, ◌<◌, Bool, true, false, List, [], ◌∷◌, ◌++◌, length, take, get_or, set, Option, Some, None, ◌==◌, if◌then◌else◌, refl, sym, ap, ◌∙◌, subst, arith, length-append}
use Rattle.std.proofs.lemmas.List.{set-get_or, get_or-set_same, get_or-set_other}
use Rattle.std.proofs.Math.Seq.{take-append_seam}
use Rattle.std.proofs.lemmas.Bool.Decides.{nat_tests}
use Rattle.nn_types.specs.declared.report.Message.{Message}
use Rattle.nn_model.specs.Lanes.{followed_by}
use Rattle.nn_lane.specs.Ends.{LaneEnd, node_of}
use Rattle.nn_lane_standby.specs.Tailing.{handed, handed_all, by_node, IsUndelivered, AreUndelivered}

-- what is known of one lane
pub lane_known : (dn : ℕ) (es : List LaneEnd) (ks : List (Option Message)) (i : ℕ) (d : LaneEnd) → AreUndelivered dn es ks → i < length es → (node_of (get_or es i d) ≡ dn + i) × IsUndelivered (dn + i) (get_or es i d) (get_or ks i None)
lane_known dn [] ks i d h l = absurd (omega arith)
lane_known dn (e ∷ es) [] i d h l = absurd h
lane_known dn (e ∷ es) (k ∷ ks) zero d h l =
    let P : ℕ → Type 0 = λ n. (node_of e ≡ n) × IsUndelivered n e k in subst P (let q : dn ≡ dn + 0 = omega arith in q) (h.0, h.1)
lane_known dn (e ∷ es) (k ∷ ks) (suc i) d h l =
    let P : ℕ → Type 0 = λ n. (node_of (get_or es i d) ≡ n) × IsUndelivered n (get_or es i d) (get_or ks i None) in
    subst P (let q : dn + 1 + i ≡ dn + suc i = omega arith in q) (lane_known (dn + 1) es ks i d h.2 (omega arith))

pub same_many : (dn : ℕ) (es : List LaneEnd) (ks : List (Option Message)) → AreUndelivered dn es ks → length ks ≡ length es
same_many dn [] [] h = refl
same_many dn [] (k ∷ ks) h = absurd h
same_many dn (e ∷ es) [] h = absurd h
same_many dn (e ∷ es) (k ∷ ks) h = ap suc (same_many (dn + 1) es ks h.2)

-- one lane is changed
pub lane_set : (dn : ℕ) (es : List LaneEnd) (ks : List (Option Message)) (i : ℕ) (e : LaneEnd) (k : Option Message) → AreUndelivered dn es ks → i < length es → node_of e ≡ dn + i → IsUndelivered (dn + i) e k → AreUndelivered dn (set es i e) (set ks i k)
lane_set dn [] ks i e k h l n m = absurd (omega arith)
lane_set dn (e' ∷ es) [] i e k h l n m = absurd h
lane_set dn (e' ∷ es) (k' ∷ ks) zero e k h l n m = let q : dn + 0 ≡ dn = omega arith in let P : ℕ → Type 0 = λ j. IsUndelivered j e k in (n ∙ q, subst P q m, h.2)
lane_set dn (e' ∷ es) (k' ∷ ks) (suc i) e k h l n m =
    let q : dn + suc i ≡ dn + 1 + i = omega arith in let P : ℕ → Type 0 = λ j. IsUndelivered j e k in
    (h.0, h.1, lane_set (dn + 1) es ks i e k h.2 (omega arith) (n ∙ q) (subst P q m))

pub handed_set : (es : List LaneEnd) (ks : List (Option Message)) (i : ℕ) (e : LaneEnd) (k : Option Message) → length ks ≡ length es → handed_all (set es i e) (set ks i k) ≡ set (handed_all es ks) i (handed e.got k)
handed_set [] ks i e k h = refl
handed_set (e' ∷ es) [] i e k h = absurd (omega (arith, h))
handed_set (e' ∷ es) (k' ∷ ks) zero e k h = refl
handed_set (e' ∷ es) (k' ∷ ks) (suc i) e k h = ap (λ l. handed e'.got k' ∷ l) (handed_set es ks i e k (omega (arith, h)))

pub length_handed : (es : List LaneEnd) (ks : List (Option Message)) → length (handed_all es ks) ≡ length es
length_handed [] ks = refl
length_handed (e ∷ es) [] = ap suc (length_handed es [])
length_handed (e ∷ es) (k ∷ ks) = ap suc (length_handed es ks)

pub handed_at : (es : List LaneEnd) (ks : List (Option Message)) (i : ℕ) (d : LaneEnd) → i < length es → length ks ≡ length es → get_or (handed_all es ks) i [] ≡ handed (get_or es i d).got (get_or ks i None)
handed_at [] ks i d l h = absurd (omega arith)
handed_at (e ∷ es) [] i d l h = absurd (omega (arith, h))
handed_at (e ∷ es) (k ∷ ks) zero d l h = refl
handed_at (e ∷ es) (k ∷ ks) (suc i) d l h = handed_at es ks i d (omega arith) (omega (arith, h))

-- a lane that hands on what it had handed on
pub handed_same : (es : List LaneEnd) (ks : List (Option Message)) (i : ℕ) (e d : LaneEnd) (k : Option Message) → i < length es → length ks ≡ length es → handed e.got k ≡ handed (get_or es i d).got (get_or ks i None) → handed_all (set es i e) (set ks i k) ≡ handed_all es ks
handed_same es ks i e d k l h q = handed_set es ks i e k h ∙ ap (λ v. set (handed_all es ks) i v) (q ∙ sym (handed_at es ks i d l h)) ∙ set-get_or (handed_all es ks) i []

-- without the last
pub but_last : (before : List Message) (m : Message) → take (length (before ++ m ∷ []) - 1) (before ++ m ∷ []) ≡ before
but_last before m = ap (λ n. take n (before ++ m ∷ [])) (let q : length (before ++ m ∷ []) - 1 ≡ length before = omega (arith, length-append before (m ∷ [])) in q) ∙ take-append_seam before (m ∷ [])

pub handed_undelivered : (got before : List Message) (m : Message) → got ≡ before ++ m ∷ [] → handed got (Some m) ≡ before
handed_undelivered got before m q = ap (λ l. take (length l - 1) l) q ∙ but_last before m

-- ---- the lanes as a function of the DataNode

module _ (ts : List (List Message)) (i : ℕ) (m : Message) where
  abbrev next : List Message
  next = get_or ts i [] ++ m ∷ []

  at_same : (n : ℕ) → i < length ts → n ≡ i → get_or (set ts i next) n [] ≡ get_or ts n [] ++ m ∷ []
  at_same n l q = ap (λ j. get_or (set ts i next) j []) q ∙ get_or-set_same ts i next [] l ∙ ap (λ j. get_or ts j [] ++ m ∷ []) (sym q)

  grows_at : i < length ts → m.dn ≡ i + 1 → (dn : ℕ) → by_node (set ts i next) dn ≡ followed_by (by_node ts) m dn
  grows_at l q zero = ap (λ b. if b then [] ++ m ∷ [] else []) (let e : false ≡ zero == m.dn = grind (arith, nat_tests) in e)
  grows_at l q (suc j) =
      let P : Bool → Type 0 = λ b. (suc j == m.dn) ≡ b → get_or (set ts i next) j [] ≡ (if b then get_or ts j [] ++ m ∷ [] else get_or ts j []) in
      let all : (b : Bool) → P b = λ b. elim b as P [
        | true ↦ (λ e. at_same j l (let h : j ≡ i = grind (arith, nat_tests) in h))
        | false ↦ (λ e. get_or-set_other ts i j next [] (let h : j ≢ i = λ z. let c : suc j ≡ m.dn = omega (arith, z, q) in grind (arith, nat_tests) in h))
      ] in
      all (suc j == m.dn) refl

  pub grows : i < length ts → m.dn ≡ i + 1 → by_node (set ts i next) ≡ followed_by (by_node ts) m
  grows l q = λ k dn. grows_at l q dn k
