-- Feeds on small examples, computed.
use Rattle.std.specs.Prelude.{◌≡◌, ℕ, ◌^◌, ◌<◌, ◌≤◌, true, false, List, [], ◌∷◌, ◌++◌, length, map, Some, None, Ok, Err, refl}
use Rattle.std.proofs.Common.{arith, ap, sym, ◌∙◌, true≢false, ⊎_elim, inl, inr}
use Rattle.nn_segment.specs.Segment.{Segment as Whole}
use Rattle.nn_segment.specs.Source.{Answer, GivesNext, end, given}
use Rattle.nn_segment.specs.declared.fault.SourceFault.TheVariants.{SourceFailed}
use Rattle.nn_segment.specs.declared.fault.SourceFault.TheVariants as source
use Rattle.nn_feed.specs.declared.ends.Ending.TheVariants as ending
use Rattle.nn_feed.specs.declared.fault.FeedFault.TheVariants.{Source, Refused}
use Rattle.nn_feed.specs.declared.fault.Refusal.TheVariants.{Ended, Gone}
use Rattle.nn_feed.specs.declared.rule.Placed.{Placed}
use Rattle.nn_feed.specs.Feeds.{placed, answers_of, is_last, has_last, EndsIn, MayStand, IsFeed}
use Rattle.nn_feed.specs.Rule.{log, Fits}
use Rattle.nn_feed.specs.Passes.{ended_by, as_answer, ending_in}
use Rattle.nn_feed.specs.Ends.{MayNotFollow, MayFollow, PutsAnswer, RefusesAnswer, GetsAgain, GetsNext, GetsNothing, Gets, IsMet}
use Rattle.nn_feed.specs.Fault.{number_of, number_of_fault}
use Rattle.nn_feed.specs.Running.{last_answer, RefusedAnItem, ending_of, last_in, then_last, Fed}

abbrev pub one : Whole
one = record { name = []; bytes = []; txs = [] }

abbrev pub segment : Answer
segment = given one

abbrev failed : Answer
failed = Err SourceFailed

-- ---- What a feed may carry.

in_order : IsFeed 0 (placed segment 0 ∷ placed segment 1 ∷ placed end 2 ∷ [])
in_order = (refl, omega arith, (refl, omega arith, (refl, refl, tt)))

up_to_a_fault : IsFeed 0 (placed segment 0 ∷ placed failed 1 ∷ [])
up_to_a_fault = (refl, omega arith, (refl, refl, tt))

not_at_another_place : IsFeed 0 (placed segment 1 ∷ []) → ⊥
not_at_another_place h = let e : 1 ≡ 0 = h.0 in omega (arith, e)

-- End carries the count before it
not_end_without_its_count : IsFeed 0 (placed segment 0 ∷ placed end 0 ∷ []) → ⊥
not_end_without_its_count h = let e : 0 ≡ 1 = h.2.0 in omega (arith, e)

nothing_behind_end : IsFeed 0 (placed end 0 ∷ placed segment 1 ∷ []) → ⊥
nothing_behind_end h = let e : placed segment 1 ∷ [] ≡ [] = h.1 in cc

no_second_end : IsFeed 0 (placed end 0 ∷ placed end 1 ∷ []) → ⊥
no_second_end h = let e : placed end 1 ∷ [] ≡ [] = h.1 in cc

nothing_behind_a_fault : IsFeed 0 (placed failed 0 ∷ placed end 1 ∷ []) → ⊥
nothing_behind_a_fault h = let e : placed end 1 ∷ [] ≡ [] = h.1 in cc

last_segment : MayStand segment 1152921504606846975 []
last_segment = omega arith

no_segment_too_many : MayStand segment 1152921504606846976 [] → ⊥
no_segment_too_many h = let e : 1152921504606846976 < 2 ^ 60 = h in omega (arith, e)

end_of_them_all : MayStand end 1152921504606846976 []
end_of_them_all = refl

fault_behind_them_all : MayStand failed 1152921504606846976 []
fault_behind_them_all = refl

last : (is_last segment ≡ false) × (is_last end ≡ true) × (is_last failed ≡ true)
last = (refl, refl, refl)

ended : (has_last (placed segment 0 ∷ placed end 1 ∷ []) ≡ true) × (has_last (placed failed 0 ∷ []) ≡ true) × (has_last (placed segment 0 ∷ []) ≡ false) × (has_last [] ≡ false)
ended = (refl, refl, refl, refl)

ends_in_a_fault : EndsIn (segment ∷ failed ∷ []) failed
ends_in_a_fault = (segment ∷ [], refl)

-- ---- What a pass knows: pass 0 may put, pass 1 may get.

abbrev pub put : List Placed
put = placed segment 0 ∷ placed end 1 ∷ []

abbrev pub got : List Placed
got = placed segment 0 ∷ []

-- what a source that fails at its second segment comes to
abbrev stopped : List Placed
stopped = placed segment 0 ∷ placed failed 1 ∷ []

one_puts : Fits 0 1 put got 0 (log true false put [])
one_puts = (λ _. (refl, refl), λ p. absurd (true≢false (sym p)))

no_other_puts : Fits 0 1 put got 1 (log true false put []) → ⊥
no_other_puts h = let e : 1 ≡ 0 = (h.0 refl).0 in omega (arith, e)

it_knows_all_that_was_put : Fits 0 1 put got 0 (log true false got []) → ⊥
it_knows_all_that_was_put h = let e : got ≡ put = (h.0 refl).1 in cc

one_gets : Fits 0 1 put got 1 (log false true [] got)
one_gets = (λ p. absurd (true≢false (sym p)), λ _. (refl, refl))

no_other_gets : Fits 0 1 put got 0 (log false true [] got) → ⊥
no_other_gets h = let e : 0 ≡ 1 = (h.1 refl).0 in omega (arith, e)

it_knows_all_that_was_got : Fits 0 1 put got 1 (log false true [] []) → ⊥
it_knows_all_that_was_got h = let e : [] ≡ got = (h.1 refl).1 in cc

again : (ended_by end ≡ Some ending.End) × (ended_by failed ≡ Some (ending.Fault SourceFailed)) × (ended_by segment ≡ None) × (as_answer ending.End ≡ end) × (as_answer (ending.Fault SourceFailed) ≡ failed)
again = (refl, refl, refl, refl, refl)

endings : (ending_in put ≡ Some ending.End) × (ending_in stopped ≡ Some (ending.Fault SourceFailed)) × (ending_in got ≡ None) × (ending_in [] ≡ None)
endings = (refl, refl, refl, refl)

-- ---- What the calls do.

refused_after_end : RefusesAnswer put segment (Ended segment)
refused_after_end = (refl, inl refl)

end_refused_after_a_fault : RefusesAnswer stopped end (Ended end)
end_refused_after_a_fault = (refl, inl refl)

fault_refused_after_end : RefusesAnswer put failed (Ended failed)
fault_refused_after_end = (refl, inl refl)

not_refused_before_end : MayNotFollow got segment → ⊥
not_refused_before_end h =
    ⊎_elim (λ (e : false ≡ true). true≢false (sym e)) (λ (e : (false ≡ false) × (2 ^ 60 ≤ 1)). let n : 2 ^ 60 ≤ 1 = e.1 in omega (arith, n)) h

refused_as_one_too_many : (before : List Placed) → 2 ^ 60 ≤ length before → RefusesAnswer before segment (Ended segment)
refused_as_one_too_many before many = (refl, inr (refl, many))

end_is_never_too_many : (before : List Placed) → has_last before ≡ false → MayNotFollow before end → ⊥
end_is_never_too_many before unended h =
    ⊎_elim (λ (e : has_last before ≡ true). true≢false (sym e ∙ unended)) (λ (e : (true ≡ false) × (2 ^ 60 ≤ length before)). true≢false e.0) h

fault_is_never_too_many : (before : List Placed) → has_last before ≡ false → MayNotFollow before failed → ⊥
fault_is_never_too_many before unended h =
    ⊎_elim (λ (e : has_last before ≡ true). true≢false (sym e ∙ unended)) (λ (e : (true ≡ false) × (2 ^ 60 ≤ length before)). true≢false e.0) h

another_does_not_come_back : RefusesAnswer put segment (Ended end) → ⊥
another_does_not_come_back h = let e : end ≡ segment = h.0 in cc

-- one more is put, at its place
end_is_put : PutsAnswer got end put
end_is_put = ((refl, λ e. absurd (true≢false e)), refl)

nothing_is_put_behind_end : MayFollow put segment → ⊥
nothing_is_put_behind_end h = true≢false h.0

no_segment_is_put_too_many : (before : List Placed) → 2 ^ 60 ≤ length before → MayFollow before segment → ⊥
no_segment_is_put_too_many before many h = let few = h.1 refl in omega (arith, many, few)

another_is_not_put : PutsAnswer got end (got ++ placed failed 1 ∷ []) → ⊥
another_is_not_put h = let e : segment ∷ failed ∷ [] ≡ segment ∷ end ∷ [] = ap answers_of h.1 in cc

gone : RefusesAnswer got segment (Gone segment 1)
gone = (refl, (refl, λ _. omega arith), refl)

ended_comes_before_gone : RefusesAnswer put segment (Gone segment 2) → ⊥
ended_comes_before_gone h = true≢false h.1.0

-- the send that failed is its own
not_gone_by_another_send : RefusesAnswer got segment (Gone segment 0) → ⊥
not_gone_by_another_send h = let e : 0 ≡ 1 = h.2 in omega (arith, e)

next_is_got : Gets got end put
next_is_got = inr (inl (refl, refl, (refl, omega arith, (refl, refl, tt))))

fault_is_got : Gets got failed stopped
fault_is_got = inr (inl (refl, refl, (refl, omega arith, (refl, refl, tt))))

end_comes_again : Gets put end put
end_comes_again = inl (refl, (segment ∷ [], refl), refl)

fault_comes_again : Gets stopped failed stopped
fault_comes_again = inl (refl, (segment ∷ [], refl), refl)

-- the other end is gone, and nothing is left
nothing_is_got : Gets got (Err source.Gone) got
nothing_is_got = inr (inr (refl, refl, refl))

segment_comes_once : GetsAgain got segment got → ⊥
segment_comes_once h = true≢false (sym h.0)

no_segment_behind_end : (new : List Placed) → GetsNext put segment new → ⊥
no_segment_behind_end new h = true≢false h.0

nothing_is_lost : GetsNothing got (Err source.Gone) put → ⊥
nothing_is_lost h = let e : put ≡ got = h.2 in cc

end_is_not_made_up : GetsNothing got end got → ⊥
end_is_not_made_up h = let e : end ≡ Err source.Gone = h.1 in cc

told_before_gone : (new : List Placed) → GetsNothing stopped (Err source.Gone) new → ⊥
told_before_gone new h = true≢false h.0

met_before_end : IsMet put got
met_before_end = (placed end 1 ∷ [], refl, (λ e. absurd (true≢false (sym e))), (refl, omega arith, (refl, refl, tt)))

met_at_end : IsMet put put
met_at_end = ([], refl, (λ _. refl), (refl, omega arith, (refl, refl, tt)))

met_at_a_fault : IsMet stopped stopped
met_at_a_fault = ([], refl, (λ _. refl), (refl, omega arith, (refl, refl, tt)))

nothing_is_got_that_was_not_put : IsMet got put → ⊥
nothing_is_got_that_was_not_put h = let e : got ≡ placed segment 0 ∷ placed end 1 ∷ h.0 = h.1 in cc

-- ---- A feeder with a source in memory, and with one that fails.

abbrev answers_fault : ℕ → Answer → ℕ → Type 0
answers_fault old answer new = answer ≡ failed

no_fault_alone : (segments : List Whole) → failed ∷ [] ≡ map given segments → ⊥
no_fault_alone [] e = cc
no_fault_alone (s ∷ segments) e = cc

no_segments_before_end : (segments : List Whole) → end ∷ [] ≡ then_last segments end → length segments ≡ 0
no_segments_before_end [] e = refl
no_segments_before_end (s ∷ segments) e = cc

fed : Fed GivesNext (one ∷ []) [] [] put (Ok 1)
fed = (one ∷ [], (([], (refl, refl), ([], (refl, refl), refl)), refl, refl))

fed_up_to_a_fault : Fed answers_fault 0 [] 1 [] (Err (Source SourceFailed))
fed_up_to_a_fault = ([], ((1, refl, refl), tt, tt, refl))

-- it puts no fault: who runs it tells of that
no_fault_after_a_fault : Fed answers_fault 0 [] 1 (placed failed 0 ∷ []) (Err (Source SourceFailed)) → ⊥
no_fault_after_a_fault h = no_fault_alone h.0 h.1.3

-- the number is that of the segments
not_another_number : Fed GivesNext [] [] [] (placed end 0 ∷ []) (Ok 1) → ⊥
not_another_number h = let n = no_segments_before_end h.0 h.1.2 in omega (arith, n, h.1.1)

it_refused_an_item : RefusedAnItem (Refused (Gone segment 1))
it_refused_an_item = tt

it_refused_no_fault : RefusedAnItem (Refused (Gone failed 1)) → ⊥
it_refused_no_fault h = h

-- what a thread tells, and what it was refused
told : (then_last (one ∷ []) (ending_of (Ok 1)) ≡ segment ∷ end ∷ []) × (then_last [] (ending_of (Err SourceFailed)) ≡ failed ∷ []) × (last_in (Err (Gone segment 1)) ≡ segment) × (last_in (Err (Ended failed)) ≡ failed)
told = (refl, refl, refl, refl)

last_answers : (last_answer (Source SourceFailed) ≡ failed) × (last_answer (Refused (Gone segment 1)) ≡ segment) × (last_answer (Refused (Ended end)) ≡ end)
last_answers = (refl, refl, refl)

numbers : (number_of (Ended segment) ≡ 45) × (number_of (Gone segment 1) ≡ 46) × (number_of_fault (Source SourceFailed) ≡ 47) × (number_of_fault (Refused (Ended segment)) ≡ 45)
numbers = (refl, refl, refl, refl)
