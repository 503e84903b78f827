-- The segments that an end gave are those that the source of its feeder gave, and its last answer is the source's.
use Rattle.std.proofs.Common.{◌≡◌, true, true≢false, List, [], ◌∷◌, ◌++◌, map, Ok, Err, Result, ℕ, refl, sym, ap, ◌∙◌, subst, append_assoc}
use Rattle.std.proofs.lemmas.List.{append-nil, map-append}
use Rattle.crossbeam_channel.specs.Ends.{receives_on}
use Rattle.nn_segment.specs.Segment.{Segment as Whole}
use Rattle.nn_segment.specs.LogEnd.{given_in}
use Rattle.nn_segment.specs.Source.{Answer, Asked, given, end}
use Rattle.nn_segment.specs.declared.fault.SourceFault.{SourceFault}
use Rattle.nn_segment.specs.declared.source.Item.TheVariants.{Segment, End}
use Rattle.nn_segment.proofs.Asks.{given-append}
use Rattle.nn_feed.specs.declared.ends.FeedEnd.{FeedEnd}
use Rattle.nn_feed.specs.declared.rule.Placed.{Placed}
use Rattle.nn_feed.specs.Ends.{got_by, IsSameEnd, GivesWhatIsFed, Gets, IsMet}
use Rattle.nn_feed.specs.FeedLaws.{GivesWhatItsSourceGave}
use Rattle.nn_feed.specs.Feeds.{answer_of, answers_of, placed, is_last, has_last, EndsIn}
use Rattle.nn_feed.specs.Running.{ending_of, then_last}
use Rattle.nn_feed.proofs.Answered.{gets_elim, gets_ended, gets_last}
use Rattle.nn_feed.proofs.Feeds.{last_among, one_last}

-- ---- Answers and the segments among them.

given_of : (segments : List Whole) → given_in (map given segments) ≡ segments
given_of [] = refl
given_of (s ∷ segments) = let rest = given_of segments in cc

last_gives_none : (answer : Answer) → is_last answer ≡ true → given_in (answer ∷ []) ≡ []
last_gives_none (Ok (Segment s)) e = absurd (true≢false (sym e))
last_gives_none (Ok End) e = refl
last_gives_none (Err fault) e = refl

-- ---- What an end got.

got_one : (old new : List Placed) (answer : Answer) → Gets old answer new → given_in (answers_of new) ≡ given_in (answers_of old) ++ given_in (answer ∷ [])
got_one old new answer h =
    let none : given_in (answer ∷ []) ≡ [] → new ≡ old → given_in (answers_of new) ≡ given_in (answers_of old) ++ given_in (answer ∷ [])
    = λ e same. ap (λ ps. given_in (answers_of ps)) same ∙ sym (append-nil (given_in (answers_of old))) ∙ ap (λ xs. given_in (answers_of old) ++ xs) (sym e) in
    gets_elim old new answer (λ again. none (last_gives_none answer again.0) again.2)
    (λ next. ap (λ ps. given_in (answers_of ps)) next.1 ∙ ap given_in (map-append answer_of old (placed answer _ ∷ [])) ∙ given-append (answers_of old) (answer ∷ []))
    (λ nothing. none (ap (λ a. given_in (a ∷ [])) nothing.1) nothing.2) h

got_all : (old new : List Placed) (answers : List Answer) → Asked Gets old answers new → given_in (answers_of new) ≡ given_in (answers_of old) ++ given_in answers
got_all old new [] asked = ap (λ ps. given_in (answers_of ps)) (sym asked) ∙ sym (append-nil (given_in (answers_of old)))
got_all old new (answer ∷ answers) asked =
    let first = got_one old asked.0 answer asked.1 in
    let rest = got_all asked.0 new answers asked.2 in
    rest ∙ ap (λ xs. xs ++ given_in answers) first ∙ append_assoc (given_in (answers_of old)) (given_in (answer ∷ [])) (given_in answers)
    ∙ ap (λ xs. given_in (answers_of old) ++ xs) (sym (given-append (answer ∷ []) answers))

-- the segments that an end gave are those that it got
pub given_is_got : (got : List Placed) (answers : List Answer) → Asked Gets [] answers got → given_in answers ≡ given_in (answers_of got)
given_is_got got answers asked = sym (got_all [] got answers asked)

asked_to_end : (old new : List Placed) (before : List Answer) → Asked Gets old (before ++ end ∷ []) new → EndsIn (answers_of new) end
asked_to_end old new [] asked = subst (λ ps. EndsIn (answers_of ps) end) asked.2 (gets_ended old asked.0 asked.1)
asked_to_end old new (answer ∷ before) asked = asked_to_end asked.0 new before asked.2

-- an end that gave End last got End last
pub ends_in_end : (old new : List Placed) (answers : List Answer) → Asked Gets old answers new → EndsIn answers end → EndsIn (answers_of new) end
ends_in_end old new answers asked ends = asked_to_end old new ends.0 (subst (λ xs. Asked Gets old xs new) ends.1 asked)

asked_to_last : (old new : List Placed) (before : List Answer) (last : Answer) → Asked Gets old (before ++ last ∷ []) new → has_last new ≡ true
    → EndsIn (answers_of new) last × (is_last last ≡ true)
asked_to_last old new [] last asked over =
    let h = gets_last old asked.0 last asked.1 (ap has_last asked.2 ∙ over) in (subst (λ ps. EndsIn (answers_of ps) last) asked.2 h.0, h.1)
asked_to_last old new (answer ∷ before) last asked over = asked_to_last asked.0 new before last asked.2 over

-- an end that got the last answer gave it last
pub ends_in_last : (old new : List Placed) (answers : List Answer) (last : Answer) → Asked Gets old answers new → EndsIn answers last → has_last new ≡ true
    → EndsIn (answers_of new) last × (is_last last ≡ true)
ends_in_last old new answers last asked ends over = asked_to_last old new ends.0 last (subst (λ xs. Asked Gets old xs new) ends.1 asked) over

ends_somewhere : (answer : Answer) (answers : List Answer) → (last : Answer) × EndsIn (answer ∷ answers) last
ends_somewhere answer [] = (answer, ([], refl))
ends_somewhere answer (b ∷ answers) = let rest = ends_somewhere b answers in (rest.0, (answer ∷ rest.1.0, ap (λ xs. answer ∷ xs) rest.1.1))

-- where it got one, it gave one
pub gave_last : (got : List Placed) (answers : List Answer) → Asked Gets [] answers got → has_last got ≡ true → (last : Answer) × EndsIn answers last
gave_last got [] asked over = absurd (true≢false (sym over ∙ sym (ap has_last asked)))
gave_last got (answer ∷ answers) asked over = ends_somewhere answer answers

-- ---- What was put.

-- what was got is a prefix of what was put
pub met_prefix : (put got : List Placed) → IsMet put got → (more : List Answer) × (answers_of put ≡ answers_of got ++ more)
met_prefix put got met = (answers_of met.0, ap answers_of met.1 ∙ map-append answer_of got met.0)

-- once its last answer was got, it is all of it
pub met_whole : (put got : List Placed) → IsMet put got → has_last got ≡ true → put ≡ got
met_whole put got met over = met.1 ∙ ap (λ rest. got ++ rest) (met.2 over) ∙ append-nil got

ending_is_last : (outcome : Result ℕ SourceFault) → is_last (ending_of outcome) ≡ true
ending_is_last (Ok n) = refl
ending_is_last (Err fault) = refl

-- a feeder that told how its source ended put that
pub told_has_last : (put : List Placed) (segments : List Whole) (outcome : Result ℕ SourceFault) → answers_of put ≡ then_last segments (ending_of outcome) → has_last put ≡ true
told_has_last put segments outcome e = last_among put (map given segments) (ending_of outcome) e (ending_is_last outcome)

-- ---- The whole.

pub fed_whole : {S : Type 0} (gives : S → Answer → S → Type 0) → GivesWhatItsSourceGave gives
fed_whole gives source after put got segments last answers gave fed asked over met =
    let all : answers_of got ≡ then_last segments last = sym (ap answers_of (met_whole put got met over)) ∙ fed in
    let given_last = gave_last got answers asked over in
    let got_last = ends_in_last [] got answers given_last.0 asked given_last.1 over in
    let same : given_last.0 ≡ last = one_last (answers_of got) given_last.0 last got_last.0 (map given segments, all) in
    let no_more : given_in (last ∷ []) ≡ [] = last_gives_none last (sym (ap is_last same) ∙ got_last.1) in (
      map given segments,
      gave,
      sym (append-nil (given_in (map given segments))) ∙ ap (λ xs. given_in (map given segments) ++ xs) (sym no_more) ∙ sym (given-append (map given segments) (last ∷ []))
          ∙ sym (ap given_in all) ∙ sym (given_is_got got answers asked),
      subst (EndsIn answers) same given_last.1,
    )

-- what an end answers is what it gets
pub asked_gets : {R : Type 0} (old new : FeedEnd R) (answers : List Answer) → Asked GivesWhatIsFed old answers new → Asked Gets (got_by old) answers (got_by new) × IsSameEnd old new
asked_gets {R} old new [] asked = (ap (λ (e : FeedEnd R). got_by e) asked, sym (ap (λ (e : FeedEnd R). receives_on e.receiver) asked))
asked_gets {R} old new (answer ∷ answers) asked =
    let rest = asked_gets asked.0 new answers asked.2 in
    ((got_by asked.0, asked.1.1, rest.0), rest.1 ∙ asked.1.0)
