-- What the thread of a feeder promises, and what comes through a feed: for each clause an example that breaks it.
use Rattle.std.specs.Prelude.{◌≡◌, ℕ, ◌<◌, ◌≤◌, List, [], ◌∷◌, ◌++◌, length, Ok, Err, refl}
use Rattle.std.proofs.Common.{arith, ap, inl, inr, length-append}
use Rattle.nn_segment.specs.Segment.{Segment as Whole}
use Rattle.nn_segment.specs.Source.{Answer, Asked, GivesNext, end}
use Rattle.nn_segment.specs.LogEnd.{given_in}
use Rattle.nn_segment.specs.declared.fault.SourceFault.TheVariants.{SourceFailed}
use Rattle.nn_feed.specs.declared.ends.Feeder.{Feeder}
use Rattle.nn_feed.specs.declared.fault.Refusal.TheVariants.{Ended}
use Rattle.nn_feed.specs.declared.running.FeederExit.{FeederExit}
use Rattle.nn_feed.specs.Ends.{put_by, IsSameFeeder}
use Rattle.nn_feed.specs.Feeds.{answers_of, EndsIn}
use Rattle.nn_feed.specs.FeedLaws.{GivesWhatItsSourceGave}
use Rattle.nn_feed.specs.FeedRows.{one, segment, put, got}
use Rattle.nn_feed.specs.Running.{HasRun, then_last}

-- a source in memory never fails
abbrev never : List Whole → ℕ
never segments = 0

abbrev told : Feeder → ℕ → FeederExit (List Whole)
told feeder n = record { source = []; outcome = Ok (record { feeder = feeder; end = Ok n }) }

-- ---- A thread of a feeder.

-- one segment and then End, into a feeder of this feed
fed : (before after : Feeder) → IsSameFeeder before after → answers_of (put_by after) ≡ answers_of (put_by before) ++ segment ∷ end ∷ []
    → HasRun GivesNext never (one ∷ []) before (told after 1)
fed before after same put = record {
  segments = one ∷ [];
  gave = ([], (refl, refl), ([], (refl, refl), refl));
  put = (same, put);
  refused = tt;
  counted = refl;
  failed = tt;
  not_fewer = omega arith;
}

one_given : (segments : List Whole) (after : List Whole) → Asked GivesNext (one ∷ []) (then_last segments end) after → length segments ≡ 1
one_given [] after h = let e : end ≡ segment = h.1.0 in cc
one_given (s ∷ []) after h = refl
one_given (s ∷ t ∷ segments) after h = absurd (second h.0 h.1.1 h.2)
  where
    second : (left : List Whole) → left ≡ [] → Asked GivesNext left (then_last (t ∷ segments) end) after → ⊥
    second [] none asked = let e = asked.1.0 in cc
    second (x ∷ xs) none asked = cc

-- the number is that of the segments that the source gave
not_another_number : (before after : Feeder) → HasRun GivesNext never (one ∷ []) before (told after 2) → ⊥
not_another_number before after h = let n = one_given h.segments [] h.gave in let m = h.counted in omega (arith, n, m)

-- the source's End is the other end's too
not_untold : (feeder : Feeder) → HasRun GivesNext never [] feeder (told feeder 0) → ⊥
not_untold feeder h = let same = ap length h.put.1 in grown (answers_of (put_by feeder)) h.segments same
  where
    some_last : (segments : List Whole) → 0 < length (then_last segments end)
    some_last [] = omega arith
    some_last (s ∷ segments) = let some = some_last segments in omega (arith, some)

    grown : (before : List Answer) (segments : List Whole) → length before ≡ length (before ++ then_last segments end) → ⊥
    grown before segments e = let some = some_last segments in omega (arith, e, length-append before (then_last segments end), some)

-- a fault is one more failure of the source
not_failed_uncounted : (feeder after : Feeder) (source : List Whole) → HasRun GivesNext never source feeder (record { source = []; outcome = Ok (record { feeder = after; end = Err SourceFailed }) }) → ⊥
not_failed_uncounted feeder after source h = let more : 0 < 0 = h.failed in omega (arith, more)

-- and none is taken back
not_fewer_failures : (gives : ℕ → Answer → ℕ → Type 0) (feeder after : Feeder) (n : ℕ)
    → HasRun gives (λ s. s) 2 feeder (record { source = 1; outcome = Ok (record { feeder = after; end = Ok n }) }) → ⊥
not_fewer_failures gives feeder after n h = let fewer : 2 ≤ 1 = h.not_fewer in omega (arith, fewer)

-- what was refused comes back as the feeder refuses it: here after End, of which there is none
not_refused_as_ended : (feeder : Feeder) → put_by feeder ≡ [] → HasRun GivesNext never [] feeder (record { source = []; outcome = Err (Ended segment) }) → ⊥
not_refused_as_ended feeder none h = last h.segments [] h.gave
  where
    last : (segments : List Whole) (after : List Whole) → Asked GivesNext [] (then_last segments segment) after → ⊥
    last [] after asked = let e : segment ≡ end = asked.1.0 in cc
    last (s ∷ segments) after asked = let e = asked.1.0 in cc

-- ---- What comes through a feed.

-- one segment and End: the other end got both, so the segment is the source's
one_comes_through : GivesWhatItsSourceGave GivesNext
    → (theirs : List Answer) × Asked GivesNext (one ∷ []) (theirs ++ end ∷ []) [] × (given_in theirs ≡ one ∷ []) × EndsIn (segment ∷ end ∷ []) end
one_comes_through law = law (one ∷ []) [] put put (one ∷ []) end (segment ∷ end ∷ []) ([], (refl, refl), ([], (refl, refl), refl)) refl
    (got, inr (inl (refl, refl, (refl, omega arith, tt))), (put, inr (inl (refl, refl, (refl, omega arith, (refl, refl, tt)))), refl)) refl
    ([], refl, (λ e. refl), (refl, omega arith, (refl, refl, tt)))
