-- Which seat a view sits at, and that the seats stay.
use Rattle.std.proofs.Common.{◌≡◌, ◌≢◌, ℕ, zero, suc, List, [], ◌∷◌, ◌++◌, set, Bool, true, false, true≢false, refl, sym, ap, ◌∙◌, inl, inr, ⊎_elim}
use mathlib.Core.Option.{some, some-ne-none, some-injective}
use lib.ListN.{get_elem?}
use Rattle.nn_lane.specs.declared.view.Sender.{Sender}
use Rattle.nn_lane.specs.declared.view.Taker.{Taker}
use Rattle.nn_lane.specs.declared.view.View.{View}
use Rattle.nn_lane.specs.Lane.{IsBoth, HasTaker, IsReporter, IsSpent, Seated, taker_of, reporter_of, both_of, spent}

clash : {b : Bool} → b ≡ true → b ≡ false → ⊥
clash p q = true≢false (sym p ∙ q)

pub reporter_moves : (vs : List View) (id : ℕ) (v w : View) (r r' : Sender) (e : Taker) → Seated vs r e → get_elem? vs id ≡ some v → v.sends ≡ true → v.takes ≡ false → IsReporter w r'
    → (v.sender ≡ r) × Seated (set vs id w) r' e
reporter_moves [] id v w r r' e s at on off is = absurd s
reporter_moves (a ∷ []) zero v w r r' e s at on off is = absurd (clash s.1 (ap (λ u. u.takes) (some-injective a v at) ∙ off))
reporter_moves (a ∷ []) (suc id) v w r r' e s at on off is = absurd (some-ne-none v (sym at))
reporter_moves (a ∷ b ∷ []) zero v w r r' e s at on off is = let same = some-injective a v at in
    ⊎_elim (λ (t : HasTaker a e × IsReporter b r). absurd (clash (ap (λ u. u.sends) same ∙ on) t.0.0)) (λ (t : IsBoth true a r e × IsSpent b). absurd (clash t.0.1 (ap (λ u. u.takes) same ∙ off))) s
reporter_moves (a ∷ b ∷ []) (suc zero) v w r r' e s at on off is = let same = some-injective b v at in
    ⊎_elim (λ (t : HasTaker a e × IsReporter b r). (sym (ap (λ u. u.sender) same) ∙ t.1.2, inl (t.0, is))) (λ (t : IsBoth true a r e × IsSpent b). absurd (clash (ap (λ u. u.sends) same ∙ on) t.1.0)) s
reporter_moves (a ∷ b ∷ []) (suc (suc id)) v w r r' e s at on off is = absurd (some-ne-none v (sym at))
reporter_moves (a ∷ b ∷ c ∷ vs) id v w r r' e s at on off is = absurd s

pub taker_moves : (vs : List View) (id : ℕ) (v w : View) (r : Sender) (e e' : Taker) → Seated vs r e → get_elem? vs id ≡ some v → v.sends ≡ false → v.takes ≡ true → HasTaker w e'
    → (v.taker ≡ e) × Seated (set vs id w) r e'
taker_moves [] id v w r e e' s at off on is = absurd s
taker_moves (a ∷ []) zero v w r e e' s at off on is = absurd (clash s.0 (ap (λ u. u.sends) (some-injective a v at) ∙ off))
taker_moves (a ∷ []) (suc id) v w r e e' s at off on is = absurd (some-ne-none v (sym at))
taker_moves (a ∷ b ∷ []) zero v w r e e' s at off on is = let same = some-injective a v at in
    ⊎_elim (λ (t : HasTaker a e × IsReporter b r). (sym (ap (λ u. u.taker) same) ∙ t.0.2, inl (is, t.1))) (λ (t : IsBoth true a r e × IsSpent b). absurd (clash t.0.0 (ap (λ u. u.sends) same ∙ off))) s
taker_moves (a ∷ b ∷ []) (suc zero) v w r e e' s at off on is = let same = some-injective b v at in
    ⊎_elim (λ (t : HasTaker a e × IsReporter b r). absurd (clash t.1.0 (ap (λ u. u.sends) same ∙ off))) (λ (t : IsBoth true a r e × IsSpent b). absurd (clash (ap (λ u. u.takes) same ∙ on) t.1.1)) s
taker_moves (a ∷ b ∷ []) (suc (suc id)) v w r e e' s at off on is = absurd (some-ne-none v (sym at))
taker_moves (a ∷ b ∷ c ∷ vs) id v w r e e' s at off on is = absurd s

-- the one seat is cut in two, which happens once
pub cuts : (vs : List View) (id : ℕ) (v : View) (r : Sender) (e : Taker) → Seated vs r e → get_elem? vs id ≡ some v → v.sends ≡ true → v.takes ≡ true → v.met ≡ false
    → Seated (set vs id (taker_of v) ++ reporter_of v ∷ []) r e
cuts [] id v r e s at on both new = absurd s
cuts (a ∷ []) zero v r e s at on both new = let same = some-injective a v at in inl ((refl, refl, sym (ap (λ u. u.taker) same) ∙ s.4), (refl, refl, sym (ap (λ u. u.sender) same) ∙ s.3))
cuts (a ∷ []) (suc id) v r e s at on both new = absurd (some-ne-none v (sym at))
cuts (a ∷ b ∷ []) zero v r e s at on both new = let same = some-injective a v at in
    ⊎_elim (λ (t : HasTaker a e × IsReporter b r). absurd (clash (ap (λ u. u.sends) same ∙ on) t.0.0)) (λ (t : IsBoth true a r e × IsSpent b). absurd (clash t.0.2 (ap (λ u. u.met) same ∙ new))) s
cuts (a ∷ b ∷ []) (suc zero) v r e s at on both new = let same = some-injective b v at in
    ⊎_elim (λ (t : HasTaker a e × IsReporter b r). absurd (clash (ap (λ u. u.takes) same ∙ both) t.1.1)) (λ (t : IsBoth true a r e × IsSpent b). absurd (clash (ap (λ u. u.sends) same ∙ on) t.1.0)) s
cuts (a ∷ b ∷ []) (suc (suc id)) v r e s at on both new = absurd (some-ne-none v (sym at))
cuts (a ∷ b ∷ c ∷ vs) id v r e s at on both new = absurd s

pub joins : (vs : List View) (id : ℕ) (v : View) (other : ℕ) (w : View) (r : Sender) (e : Taker) → Seated vs r e → get_elem? vs id ≡ some v → v.sends ≡ false → v.takes ≡ true
    → other ≢ id → get_elem? (set vs id (both_of v w)) other ≡ some w → Seated (set (set vs id (both_of v w)) other spent) r e
joins [] id v other w r e s at off on ne there = absurd s
joins (a ∷ []) zero v other w r e s at off on ne there = absurd (clash s.0 (ap (λ u. u.sends) (some-injective a v at) ∙ off))
joins (a ∷ []) (suc id) v other w r e s at off on ne there = absurd (some-ne-none v (sym at))
joins (a ∷ b ∷ []) zero v zero w r e s at off on ne there = absurd (ne refl)
joins (a ∷ b ∷ []) zero v (suc zero) w r e s at off on ne there = let same = some-injective a v at in let mate = some-injective b w there in
    ⊎_elim (λ (t : HasTaker a e × IsReporter b r). inr ((refl, refl, refl, sym (ap (λ u. u.sender) mate) ∙ t.1.2, sym (ap (λ u. u.taker) same) ∙ t.0.2), (refl, refl)))
    (λ (t : IsBoth true a r e × IsSpent b). absurd (clash t.0.0 (ap (λ u. u.sends) same ∙ off))) s
joins (a ∷ b ∷ []) zero v (suc (suc other)) w r e s at off on ne there = absurd (some-ne-none w (sym there))
joins (a ∷ b ∷ []) (suc zero) v other w r e s at off on ne there = let same = some-injective b v at in
    ⊎_elim (λ (t : HasTaker a e × IsReporter b r). absurd (clash t.1.0 (ap (λ u. u.sends) same ∙ off))) (λ (t : IsBoth true a r e × IsSpent b). absurd (clash (ap (λ u. u.takes) same ∙ on) t.1.1)) s
joins (a ∷ b ∷ []) (suc (suc id)) v other w r e s at off on ne there = absurd (some-ne-none v (sym at))
joins (a ∷ b ∷ c ∷ vs) id v other w r e s at off on ne there = absurd s

-- the joined seat shows both sides
pub shows_both : (vs : List View) (id : ℕ) (v : View) (r : Sender) (e : Taker) → Seated vs r e → get_elem? vs id ≡ some v → v.sends ≡ true → v.takes ≡ true → (v.sender ≡ r) × (v.taker ≡ e)
shows_both [] id v r e s at on both = absurd s
shows_both (a ∷ []) zero v r e s at on both = let same = some-injective a v at in (sym (ap (λ u. u.sender) same) ∙ s.3, sym (ap (λ u. u.taker) same) ∙ s.4)
shows_both (a ∷ []) (suc id) v r e s at on both = absurd (some-ne-none v (sym at))
shows_both (a ∷ b ∷ []) zero v r e s at on both = let same = some-injective a v at in
    ⊎_elim (λ (t : HasTaker a e × IsReporter b r). absurd (clash (ap (λ u. u.sends) same ∙ on) t.0.0)) (λ (t : IsBoth true a r e × IsSpent b). (sym (ap (λ u. u.sender) same) ∙ t.0.3, sym (ap (λ u. u.taker) same) ∙ t.0.4)) s
shows_both (a ∷ b ∷ []) (suc zero) v r e s at on both = let same = some-injective b v at in
    ⊎_elim (λ (t : HasTaker a e × IsReporter b r). absurd (clash (ap (λ u. u.takes) same ∙ both) t.1.1)) (λ (t : IsBoth true a r e × IsSpent b). absurd (clash (ap (λ u. u.sends) same ∙ on) t.1.0)) s
shows_both (a ∷ b ∷ []) (suc (suc id)) v r e s at on both = absurd (some-ne-none v (sym at))
shows_both (a ∷ b ∷ c ∷ vs) id v r e s at on both = absurd s
