-- The seats determine what the two sides show.
use Rattle.std.proofs.Common.{◌≡◌, List, [], ◌∷◌, Bool, true, false, true≢false, sym, ◌∙◌, ⊎_elim}
use Rattle.nn_lane.specs.declared.view.Sender.{Sender}
use Rattle.nn_lane.specs.declared.view.Taker.{Taker}
use Rattle.nn_lane.specs.declared.view.View.{View}
use Rattle.nn_lane.specs.Lane.{IsBoth, HasTaker, IsReporter, IsSpent, Seated}

clash : {b : Bool} → b ≡ true → b ≡ false → ⊥
clash p q = true≢false (sym p ∙ q)

pub one_pair : (vs : List View) (r r' : Sender) (e e' : Taker) → Seated vs r e → Seated vs r' e' → (r ≡ r') × (e ≡ e')
one_pair [] r r' e e' s t = absurd s
one_pair (v ∷ []) r r' e e' s t = (sym s.3 ∙ t.3, sym s.4 ∙ t.4)
one_pair (v ∷ w ∷ []) r r' e e' s t = ⊎_elim
    (λ (a : HasTaker v e × IsReporter w r). ⊎_elim (λ (b : HasTaker v e' × IsReporter w r'). (sym a.1.2 ∙ b.1.2, sym a.0.2 ∙ b.0.2)) (λ (b : IsBoth true v r' e' × IsSpent w). absurd (clash b.0.0 a.0.0)) t)
    (λ (a : IsBoth true v r e × IsSpent w). ⊎_elim (λ (b : HasTaker v e' × IsReporter w r'). absurd (clash a.0.0 b.0.0)) (λ (b : IsBoth true v r' e' × IsSpent w). (sym a.0.3 ∙ b.0.3, sym a.0.4 ∙ b.0.4)) t)
    s
one_pair (v ∷ w ∷ x ∷ vs) r r' e e' s t = absurd s
