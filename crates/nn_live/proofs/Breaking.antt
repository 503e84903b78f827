-- What was told before a step broke off.
use Rattle.std.proofs.Common.{◌≡◌, false, List, ℕ, [], ◌∷◌, ◌++◌, refl, sym, subst, ap, ◌∙◌, append-nil, append_assoc}
use Rattle.std.proofs.lemmas.List.{append_cancel_left}
use Rattle.nn_types.specs.declared.report.Kind.TheVariants.{Begin, Finish}
use Rattle.nn_live.specs.Live.{LiveSetup, ServiceState, empty_report, ends, hands, mark_of, takes_torn}
use Rattle.nn_live.specs.Serving.{Breaks, BreaksAtEnd, IsAtService, IsCutShort, IsPrefixOf, FollowsStep, SaysMore, Service, TellsPrefix}
use Rattle.nn_live.proofs.Growing.{end_grows, ends_grow, first_handed}

-- a step leaves what was told, and may tell more
abbrev pub Grow : (LiveSetup → ServiceState → ServiceState) → Type 0
Grow step = (asked : LiveSetup) (s : ServiceState) → IsPrefixOf s.written (step asked s).written

-- two texts that are nothing together
pub nothing_first : (a b : List ℕ) → a ++ b ≡ [] → a ≡ []
nothing_first [] b e = refl
nothing_first (x ∷ a) b e = absurd (cc)

some_behind : (a b : List ℕ) → (b ≡ [] → ⊥) → a ++ b ≡ [] → ⊥
some_behind [] b some e = some e
some_behind (x ∷ a) b some e = absurd (cc)

-- what was told where nothing was done
none_there : (x y : Service) (told : List ℕ) → FollowsStep (λ _ s. s) x y told → (asked : LiveSetup) (s : ServiceState) → IsAtService asked x s → told ≡ []
none_there x y told made asked s i = sym (append_cancel_left s.written [] told (append-nil s.written ∙ made.written asked s i))

-- ---- A prefix was told.

-- nothing was told
pub none_told_of : (step : LiveSetup → ServiceState → ServiceState) (x : Service) → Grow step → TellsPrefix step x []
none_told_of step x grows asked s i = let g = grows asked s in (g.0, g.1 ∙ ap (λ w. w ++ g.0) (sym (append-nil s.written)))

-- nothing was done, and what was told is nothing too
pub none_done_of : (step : LiveSetup → ServiceState → ServiceState) (x y : Service) (told : List ℕ) → Grow step → FollowsStep (λ _ s. s) x y told → TellsPrefix step x told
none_done_of step x y told grows made asked s i = subst (λ w. IsPrefixOf w (step asked s).written) (made.written asked s i) (grows asked s)

-- a step that the definition does in other words
pub same_told_of : (f g : LiveSetup → ServiceState → ServiceState) (x : Service) (told : List ℕ) → ((asked : LiveSetup) (s : ServiceState) → IsAtService asked x s → f asked s ≡ g asked s) → TellsPrefix g x told → TellsPrefix f x told
same_told_of f g x told same tells asked s i = subst (λ (t : ServiceState). IsPrefixOf (s.written ++ told) t.written) (sym (same asked s i)) (tells asked s i)

-- of a DataNode that is gone the begin alone was handed
pub begin_handed : (x y : Service) (dn : ℕ) (told : List ℕ) → FollowsStep (λ asked s. hands asked false (mark_of dn Begin ∷ []) s) x y told → TellsPrefix (λ asked s. hands asked false (empty_report dn) s) x told
begin_handed x y dn told made asked s i =
    subst (λ w. IsPrefixOf w (hands asked false (empty_report dn) s).written) (made.written asked s i) (first_handed asked false (mark_of dn Begin) (mark_of dn Finish ∷ []) s)

-- ---- Not all was told.

-- nothing was told
pub none_told : (step : LiveSetup → ServiceState → ServiceState) (x : Service) → Grow step → Breaks step x []
none_told step x grows asked s i = let g = grows asked s in record { rest = g.0; is = g.1 ∙ ap (λ w. w ++ g.0) (sym (append-nil s.written)); short = λ none. refl }

-- nothing was done, and what was told is nothing too
pub none_done : (step : LiveSetup → ServiceState → ServiceState) (x y : Service) (told : List ℕ) → Grow step → FollowsStep (λ _ s. s) x y told → Breaks step x told
none_done step x y told grows made asked s i = subst (λ t. IsCutShort s.written t (step asked s).written) (sym (none_there x y told made asked s i)) (none_told step x grows asked s i)

-- nothing more was told
pub none_more : (step : LiveSetup → ServiceState → ServiceState) (x : Service) (told : List ℕ) → Breaks step x told → Breaks step x (told ++ [])
none_more step x told breaks = subst (Breaks step x) (sym (append-nil told)) breaks

-- the first of two steps broke off
pub first_breaks : (f g : LiveSetup → ServiceState → ServiceState) (x : Service) (told : List ℕ) → Grow g → Breaks f x told → Breaks (λ asked s. g asked (f asked s)) x told
first_breaks f g x told grows first asked s i =
    let cut = first asked s i in
    let more = grows asked (f asked s) in
    record {
      rest = cut.rest ++ more.0;
      is = more.1 ∙ ap (λ w. w ++ more.0) cut.is ∙ append_assoc (s.written ++ told) cut.rest more.0;
      short = λ none. cut.short (nothing_first cut.rest more.0 none);
    }

-- what the first of two steps told is a prefix, and the second one tells something
pub first_tells : (f g : LiveSetup → ServiceState → ServiceState) (x : Service) (told : List ℕ) → ((asked : LiveSetup) (s : ServiceState) → (more : List ℕ) × ((g asked s).written ≡ s.written ++ more) × (more ≡ [] → ⊥))
    → TellsPrefix f x told → Breaks (λ asked s. g asked (f asked s)) x told
first_tells f g x told tells first asked s i =
    let prefix = first asked s i in
    let more = tells asked (f asked s) in
    record {
      rest = prefix.0 ++ more.0;
      is = more.1 ∙ ap (λ w. w ++ more.0) prefix.1 ∙ append_assoc (s.written ++ told) prefix.0 more.0;
      short = λ none. absurd (some_behind prefix.0 more.0 more.2 none);
    }

-- the first one told nothing, and the second one broke off
pub then_breaks : (f g : LiveSetup → ServiceState → ServiceState) (x y : Service) (told : List ℕ) → FollowsStep f x y [] → Breaks g y told → Breaks (λ asked s. g asked (f asked s)) x told
then_breaks f g x y told first later asked s i =
    let cut = later asked (f asked s) (first.at asked s i) in
    record { rest = cut.rest; is = cut.is ∙ ap (λ w. (w ++ told) ++ cut.rest) (first.written asked s i ∙ append-nil s.written); short = cut.short }

-- a step that the definition does in other words
pub same_breaks : (f g : LiveSetup → ServiceState → ServiceState) (x : Service) (told : List ℕ) → ((asked : LiveSetup) (s : ServiceState) → IsAtService asked x s → f asked s ≡ g asked s) → Breaks g x told → Breaks f x told
same_breaks f g x told same breaks asked s i = subst (λ (t : ServiceState). IsCutShort s.written told t.written) (sym (same asked s i)) (breaks asked s i)

-- ---- The end of the input.

-- the last line broke off, which lacks its line feed
pub line_at_end : (torn : List ℕ) (x : Service) (told : List ℕ) → (torn ≡ [] → ⊥) → Breaks (λ asked s. takes_torn asked torn s) x told → BreaksAtEnd torn x told
line_at_end torn x told some breaks asked s i = (first_breaks (λ asked s. takes_torn asked torn s) (λ asked s. ends asked s) x told ends_grow breaks asked s i, λ none empty. some empty)

-- nothing was told of it
pub none_at_end : (torn : List ℕ) (x : Service) → (torn ≡ [] → ⊥) → BreaksAtEnd torn x []
none_at_end torn x some asked s i = (none_told (λ asked s. ends asked (takes_torn asked torn s)) x (λ asked s. end_grows asked torn s) asked s i, λ none empty. some empty)

-- it was told whole, and of the edits in hand nothing was
pub edits_at_end : (torn : List ℕ) (x y : Service) (told : List ℕ) → FollowsStep (λ asked s. takes_torn asked torn s) x y told → SaysMore (λ asked s. ends asked s) y → BreaksAtEnd torn x (told ++ [])
edits_at_end torn x y told first says asked s i =
    let t = takes_torn asked torn s in
    let more = says asked t (first.at asked s i) in (
      record {
        rest = more.0;
        is = more.1 ∙ ap (λ w. w ++ more.0) (first.written asked s i ∙ ap (λ a. s.written ++ a) (sym (append-nil told)));
        short = λ none. absurd (more.2 none);
      },
      λ none empty. more.2 none,
    )
