-- From a source in memory, whose segments come in order: the log of all its segments ends where a promotion does, and stops where 51 says.
use Rattle.std.proofs.Common.{◌≡◌, ℕ, List, [], ◌∷◌, ◌++◌, Ok, Err, refl, sym, ap, ◌∙◌, subst}
use Rattle.nn_model.specs.Namespace.{Namespace}
use Rattle.nn_shadow.specs.declared.fault.Stop.{Stop}
use Rattle.nn_segment.specs.Segment.{Segment}
use Rattle.nn_segment.specs.Source.{Answer, given, end, AreAnswersOf}
use Rattle.nn_segment.specs.LogEnd.{LogEnd, end_of_log, given_in}
use Rattle.nn_lane_standby.specs.Tailing.{log_cause, StopsLog, EndsInEnd}

end_first : (a : Answer) (answers : List Answer) → a ≡ end → given_in (a ∷ answers) ≡ given_in answers
end_first a answers q = ap (λ z. given_in (z ∷ answers)) q

given_first : (a : Answer) (s : Segment) (answers : List Answer) → a ≡ given s → given_in (a ∷ answers) ≡ s ∷ given_in answers
given_first a s answers q = ap (λ z. given_in (z ∷ answers)) q

-- what was given is a prefix of all
prefix : (segments : List Segment) (answers : List Answer) → AreAnswersOf segments answers → (later : List Segment) × (given_in answers ++ later ≡ segments)
prefix segments [] h = (segments, refl)
prefix [] (a ∷ answers) h = let r = prefix [] answers h.1 in (r.0, ap (λ g. g ++ r.0) (end_first a answers h.0) ∙ r.1)
prefix (s ∷ segments) (a ∷ answers) h =
    let r = prefix segments answers h.1 in (r.0, ap (λ g. g ++ r.0) (given_first a s answers h.0) ∙ ap (λ g. s ∷ g) r.1)

not_given : (s : Segment) → end ≡ given s → ⊥
not_given s q = cc

none_left : (segments : List Segment) → AreAnswersOf segments (end ∷ []) → [] ≡ segments
none_left [] h = refl
none_left (s ∷ segments) h = absurd (not_given s h.0)

-- at End it is all
pub all_given : (segments : List Segment) (before : List Answer) → AreAnswersOf segments (before ++ end ∷ []) → given_in (before ++ end ∷ []) ≡ segments
all_given segments [] h = none_left segments h
all_given [] (a ∷ before) h = end_first a (before ++ end ∷ []) h.0 ∙ all_given [] before h.1
all_given (s ∷ segments) (a ∷ before) h = given_first a s (before ++ end ∷ []) h.0 ∙ ap (λ g. s ∷ g) (all_given segments before h.1)

module _ (start : Namespace) (base : ℕ) (segments : List Segment) (answers : List Answer) (in_order : AreAnswersOf segments answers) where
  pub promoted_at_end : (e : LogEnd) → EndsInEnd answers → end_of_log base start (given_in answers) ≡ Ok e → end_of_log base start segments ≡ Ok e
  promoted_at_end e ended is =
      let all : given_in answers ≡ segments = ap given_in ended.1 ∙ all_given segments ended.0 (subst (AreAnswersOf segments) ended.1 in_order) in
      ap (end_of_log base start) (sym all) ∙ is

  pub stopped_at : (s : Stop) → StopsLog start base answers s → end_of_log base start segments ≡ Err (record { cause = log_cause s.cause; txid = s.txid })
  stopped_at s h = let f = prefix segments answers in_order in ap (end_of_log base start) (sym f.1) ∙ h f.0
