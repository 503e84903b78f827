-- Lists of answers that a feed may carry: one more at the back, the first ones, and what the last one says.
use Rattle.std.proofs.Common.{◌≡◌, ℕ, Bool, true, false, ◌||◌, true≢false, ◌+◌, ◌^◌, ◌<◌, List, [], ◌∷◌, ◌++◌, length, Option, Some, None, Ok, Err, refl, sym, ap, ◌∙◌, arith}
use Rattle.std.proofs.lemmas.List.{map-append}
use Rattle.std.specs.Option.{is_some}
use Rattle.nn_segment.specs.Source.{Answer}
use Rattle.nn_segment.specs.declared.source.Item.TheVariants.{Segment, End}
use Rattle.nn_feed.specs.declared.ends.Ending.{Ending}
use Rattle.nn_feed.specs.declared.ends.Ending.TheVariants as ending
use Rattle.nn_feed.specs.declared.rule.Placed.{Placed}
use Rattle.nn_feed.specs.Feeds.{placed, answer_of, answers_of, is_last, has_last, EndsIn, MayStand, IsFeed}
use Rattle.nn_feed.specs.Passes.{ended_by, as_answer, ending_in}

neither : (a b : Bool) → (a || b) ≡ false → (a ≡ false) × (b ≡ false)
neither false b e = (refl, e)
neither true b e = absurd (true≢false e)

or_back : (a b : Bool) → a ≡ false → (a || b) ≡ b
or_back false b e = refl
or_back true b e = absurd (true≢false e)

or_first : (a b : Bool) → a ≡ true → (a || b) ≡ true
or_first false b e = absurd (true≢false (sym e))
or_first true b e = refl

or_second : (a b : Bool) → b ≡ true → (a || b) ≡ true
or_second false b e = e
or_second true b e = refl

none_some : {T : Type 0} (x : T) → None ≡ Some x → ⊥
none_some x e = cc

alone : (a : Bool) → (a || false) ≡ a
alone false = refl
alone true = refl

none_left : (xs ys : List Placed) → xs ++ ys ≡ [] → xs ≡ []
none_left [] ys e = refl
none_left (x ∷ xs) ys e = cc

none_right : (xs ys : List Placed) → xs ++ ys ≡ [] → ys ≡ []
none_right [] ys e = e
none_right (x ∷ xs) ys e = cc

at_back : (a : Answer) (place : ℕ) → (is_last a ≡ false → place < 2 ^ 60) → MayStand a place []
at_back (Ok (Segment s)) place fits = fits refl
at_back (Ok End) place fits = refl
at_back (Err fault) place fits = refl

at_more : (a : Answer) (place : ℕ) (ps qs : List Placed) → MayStand a place ps → is_last a ≡ false → MayStand a place (ps ++ qs)
at_more (Ok (Segment s)) place ps qs h unended = h
at_more (Ok End) place ps qs h unended = absurd (true≢false unended)
at_more (Err fault) place ps qs h unended = absurd (true≢false unended)

at_less : (a : Answer) (place : ℕ) (ps qs : List Placed) → MayStand a place (ps ++ qs) → MayStand a place ps
at_less (Ok (Segment s)) place ps qs h = h
at_less (Ok End) place ps qs h = none_left ps qs h
at_less (Err fault) place ps qs h = none_left ps qs h

pub feed_push : (place : ℕ) (ps : List Placed) (a : Answer) (n : ℕ) → n ≡ place + length ps → IsFeed place ps → has_last ps ≡ false → (is_last a ≡ false → n < 2 ^ 60) → IsFeed place (ps ++ placed a n ∷ [])
feed_push place [] a n e f unended fits = (omega (arith, e), at_back a place (λ s. omega (arith, e, fits s)), tt)
feed_push place (p ∷ ps) a n e f unended fits =
    let open_ = neither (is_last p.answer) (has_last ps) unended in
    (f.0, at_more p.answer place ps (placed a n ∷ []) f.1 open_.0, feed_push (place + 1) ps a n (omega (arith, e)) f.2 open_.1 fits)

pub feed_prefix : (place : ℕ) (ps qs : List Placed) → IsFeed place (ps ++ qs) → IsFeed place ps
feed_prefix place [] qs f = tt
feed_prefix place (p ∷ ps) qs f = (f.0, at_less p.answer place ps qs f.1, feed_prefix (place + 1) ps qs f.2)

ends_here : (a : Answer) (place : ℕ) (ps qs : List Placed) → MayStand a place (ps ++ qs) → (is_last a || has_last ps) ≡ true → (has_last ps ≡ true → qs ≡ []) → qs ≡ []
ends_here (Ok (Segment s)) place ps qs h e rest = rest e
ends_here (Ok End) place ps qs h e rest = none_right ps qs h
ends_here (Err fault) place ps qs h e rest = none_right ps qs h

-- once the last answer was got nothing is left
pub feed_end : (place : ℕ) (ps qs : List Placed) → IsFeed place (ps ++ qs) → has_last ps ≡ true → qs ≡ []
feed_end place [] qs f e = absurd (true≢false (sym e))
feed_end place (p ∷ ps) qs f e = ends_here p.answer place ps qs f.1 e (feed_end (place + 1) ps qs f.2)

pub last_place : (place : ℕ) (ps : List Placed) (p : Placed) → IsFeed place (ps ++ p ∷ []) → p.place ≡ place + length ps
last_place place [] p f = omega (arith, f.0)
last_place place (q ∷ ps) p f = let h = last_place (place + 1) ps p f.2 in omega (arith, h)

pub has_last_push : (ps : List Placed) (p : Placed) → has_last ps ≡ false → has_last (ps ++ p ∷ []) ≡ is_last p.answer
has_last_push [] p unended = alone (is_last p.answer)
has_last_push (q ∷ ps) p unended =
    let open_ = neither (is_last q.answer) (has_last ps) unended in
    let back = or_back (is_last q.answer) (has_last (ps ++ p ∷ [])) open_.0 in
    let rest = has_last_push ps p open_.1 in cc

at_fits : (a : Answer) (place : ℕ) (rest : List Placed) → MayStand a place rest → is_last a ≡ false → place < 2 ^ 60
at_fits (Ok (Segment s)) place rest h segment = h
at_fits (Ok End) place rest h segment = absurd (true≢false segment)
at_fits (Err fault) place rest h segment = absurd (true≢false segment)

pub last_fits : (place : ℕ) (ps : List Placed) (p : Placed) → IsFeed place (ps ++ p ∷ []) → is_last p.answer ≡ false → place + length ps < 2 ^ 60
last_fits place [] p f segment = let h = at_fits p.answer place [] f.1 segment in omega (arith, h)
last_fits place (q ∷ ps) p f segment = let h = last_fits (place + 1) ps p f.2 segment in omega (arith, h)

-- ---- What the answers end in.

pub ends_push : (ps : List Placed) (p : Placed) → EndsIn (answers_of (ps ++ p ∷ [])) p.answer
ends_push ps p = (answers_of ps, map-append answer_of ps (p ∷ []))

pub last_among : (ps : List Placed) (before : List Answer) (a : Answer) → answers_of ps ≡ before ++ a ∷ [] → is_last a ≡ true → has_last ps ≡ true
last_among [] [] a e h = cc
last_among [] (b ∷ before) a e h = cc
last_among (p ∷ ps) [] a e h = let is : p.answer ≡ a = cc in or_first (is_last p.answer) (has_last ps) (ap is_last is ∙ h)
last_among (p ∷ ps) (b ∷ before) a e h =
    let rest : answers_of ps ≡ before ++ a ∷ [] = cc in or_second (is_last p.answer) (has_last ps) (last_among ps before a rest h)

abbrev last_or : Answer → List Answer → Answer
last_or a [] = a
last_or a (b ∷ answers) = last_or b answers

last_is : (before : List Answer) (d a : Answer) → last_or d (before ++ a ∷ []) ≡ a
last_is [] d a = refl
last_is (b ∷ before) d a = last_is before b a

-- answers end in one answer alone
pub one_last : (answers : List Answer) (a b : Answer) → EndsIn answers a → EndsIn answers b → a ≡ b
one_last answers a b ends others =
    sym (last_is ends.0 a a) ∙ sym (ap (last_or a) ends.1) ∙ ap (last_or a) others.1 ∙ last_is others.0 a b

-- ---- How they ended their source.

by_answer : (a : Answer) (e : Ending) → ended_by a ≡ Some e → a ≡ as_answer e
by_answer (Ok (Segment s)) e h = cc
by_answer (Ok End) e h = let is : ending.End ≡ e = cc in ap as_answer is
by_answer (Err fault) e h = let is : ending.Fault fault ≡ e = cc in ap as_answer is

-- so they end in that answer
pub in_answer : (ps : List Placed) (e : Ending) → ending_in ps ≡ Some e → EndsIn (answers_of ps) (as_answer e)
in_answer [] e h = let no : ⊥ = none_some e h in absurd no
in_answer (p ∷ []) e h = ([], ap (λ a. a ∷ []) (by_answer p.answer e h))
in_answer (p ∷ q ∷ ps) e h = let rest = in_answer (q ∷ ps) e h in (p.answer ∷ rest.0, ap (λ xs. p.answer ∷ xs) rest.1)

pub not_some : (e : Option Ending) → ((x : Ending) → e ≡ Some x → ⊥) → is_some e ≡ false
not_some None other = refl
not_some (Some x) other = absurd (other x refl)

pub as_answer_ends : (e : Ending) → is_last (as_answer e) ≡ true
as_answer_ends ending.End = refl
as_answer_ends (ending.Fault fault) = refl

pub ending_push : (ps : List Placed) (p : Placed) → ending_in (ps ++ p ∷ []) ≡ ended_by p.answer
ending_push [] p = refl
ending_push (q ∷ []) p = refl
ending_push (q ∷ r ∷ ps) p = ending_push (r ∷ ps) p

pub ended_last : (a : Answer) → is_some (ended_by a) ≡ is_last a
ended_last (Ok (Segment s)) = refl
ended_last (Ok End) = refl
ended_last (Err fault) = refl
