-- What one answer of a feed's end says.
use Rattle.std.proofs.Common.{◌≡◌, ◌-◌, ◌<◌, ◌^◌, true, false, true≢false, List, [], ◌∷◌, length, length-append, Ok, Err, refl, sym, ◌∙◌, ap, subst, ⊎_elim, arith}
use Rattle.nn_segment.specs.Source.{Answer, is_end_item, end}
use Rattle.nn_segment.specs.declared.fault.SourceFault.TheVariants as source
use Rattle.nn_segment.specs.declared.source.Item.{Item}
use Rattle.nn_feed.specs.declared.rule.Placed.{Placed}
use Rattle.nn_feed.specs.Ends.{Gets, GetsAgain, GetsNext, GetsNothing}
use Rattle.nn_feed.specs.Feeds.{placed, answers_of, is_last, has_last, EndsIn, IsFeed}
use Rattle.nn_feed.proofs.Feeds.{has_last_push, last_fits, ends_push, last_among, one_last}

-- by the three ways to answer
pub gets_elim : {P : Type 0} (old new : List Placed) (answer : Answer) → (GetsAgain old answer new → P) → (GetsNext old answer new → P) → (GetsNothing old answer new → P) → Gets old answer new → P
gets_elim old new answer again next nothing h = ⊎_elim again (λ x. ⊎_elim next nothing x) h

no_item : (item : Item) → Ok item ≡ Err source.Gone → ⊥
no_item item e = cc

pub gets_lower : (old new : List Placed) (item : Item) → Gets old (Ok item) new → is_end_item item ≡ false → 2 ^ 60 - length new < 2 ^ 60 - length old
gets_lower old new item h segment =
    gets_elim old new (Ok item) (λ again. absurd (true≢false (sym again.0 ∙ segment)))
    (λ next.
    let p = placed (Ok item) (length old) in
    let fits = last_fits 0 old p (subst (IsFeed 0) next.1 next.2) segment in
    let grown = ap length next.1 in omega (arith, fits, grown, length-append old (p ∷ [])))
    (λ nothing. absurd (no_item item nothing.1)) h

-- after an answer that ends them
abbrev End_ : List Placed → Answer → Type 0
End_ ps a = EndsIn (answers_of ps) a

pub gets_ended : (old new : List Placed) → Gets old end new → EndsIn (answers_of new) end
gets_ended old new h =
    gets_elim old new end (λ again. subst (λ ps. End_ ps end) (sym again.2) again.1)
    (λ next. subst (λ ps. End_ ps end) (sym next.1) (ends_push old (placed end (length old))))
    (λ nothing. absurd (no_item _ nothing.1)) h

-- after End comes End again
pub gets_end_again : (old new : List Placed) (answer : Answer) → Gets old answer new → EndsIn (answers_of old) end → (answer ≡ end) × EndsIn (answers_of new) end
gets_end_again old new answer h ends =
    let is : is_last end ≡ true = refl in let over : has_last old ≡ true = last_among old ends.0 end ends.1 is in
    gets_elim old new answer (λ again. (one_last (answers_of old) answer end again.1 ends, subst (λ ps. End_ ps end) (sym again.2) ends))
    (λ next. absurd (true≢false (sym over ∙ next.0))) (λ nothing. absurd (true≢false (sym over ∙ nothing.0))) h

-- once a last answer was got, it is the one that comes
pub gets_last : (old new : List Placed) (answer : Answer) → Gets old answer new → has_last new ≡ true → EndsIn (answers_of new) answer × (is_last answer ≡ true)
gets_last old new answer h over =
    gets_elim old new answer (λ again. (subst (λ ps. End_ ps answer) (sym again.2) again.1, again.0))
    (λ next.
    let p = placed answer (length old) in
    (subst (λ ps. End_ ps answer) (sym next.1) (ends_push old p), sym (has_last_push old p next.0) ∙ sym (ap has_last next.1) ∙ over))
    (λ nothing. absurd (true≢false (sym over ∙ ap has_last nothing.2 ∙ nothing.0))) h
