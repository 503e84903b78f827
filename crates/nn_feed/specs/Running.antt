-- What a call of `run_feeder` does, and what the thread of a feeder promises.
use Rattle.std.specs.Prelude.{◌≡◌, ℕ, ◌<◌, ◌≤◌, Result, Ok, Err, List, [], ◌∷◌, ◌++◌, length, map, MatchResult, IfOk, IfErr, OnErr}
use Rattle.nn_segment.specs.Segment.{Segment}
use Rattle.nn_segment.specs.Source.{Answer, Asked, given, end}
use Rattle.nn_segment.specs.declared.fault.SourceFault.{SourceFault}
use Rattle.nn_feed.specs.declared.ends.Feeder.{Feeder}
use Rattle.nn_feed.specs.declared.fault.FeedFault.{FeedFault}
use Rattle.nn_feed.specs.declared.fault.FeedFault.TheVariants.{Source, Refused}
use Rattle.nn_feed.specs.declared.fault.Refusal.{Refusal}
use Rattle.nn_feed.specs.declared.fault.Refusal.TheVariants.{Ended, Gone}
use Rattle.nn_feed.specs.declared.rule.Placed.{Placed}
use Rattle.nn_feed.specs.declared.running.FeederExit.{FeederExit}
use Rattle.nn_feed.specs.declared.running.Delivered.{Delivered}
use Rattle.nn_feed.specs.Ends.{put_by, IsSameFeeder, RefusesAnswer}
use Rattle.nn_feed.specs.Feeds.{answers_of}

-- the answer that came back
abbrev pub refused_answer : Refusal → Answer
refused_answer (Ended answer) = answer
refused_answer (Gone answer place) = answer

-- what the source answered last: its fault, or the item that was not put
abbrev pub last_answer : FeedFault → Answer
last_answer (Source fault) = Err fault
last_answer (Refused refusal) = refused_answer refusal

-- it was an item that was refused
abbrev pub RefusedAnItem : FeedFault → Type 0
RefusedAnItem (Source fault) = Unit {0}
RefusedAnItem (Refused refusal) = OnErr (refused_answer refusal) ⊥

-- and it was refused as the feeder refuses it, with this put
abbrev pub WasRefused : List Placed → FeedFault → Type 0
WasRefused put (Source fault) = Unit {0}
WasRefused put (Refused refusal) = RefusesAnswer put (refused_answer refusal) refusal

-- what the source answered last, where it was fed to its last answer: End after so many segments, or a fault
abbrev pub ending_of : Result ℕ SourceFault → Answer
ending_of (Ok n) = end
ending_of (Err fault) = Err fault

-- and in a thread: the other end was told of it, or it was not put
abbrev pub last_in : Result Delivered Refusal → Answer
last_in (Ok told) = ending_of told.end
last_in (Err refusal) = refused_answer refusal

-- what holds where the source failed
abbrev pub OnSourceFault : {T : Type 0} → Result T FeedFault → Type 0 → Type 0
OnSourceFault (Err (Source fault)) P = P
OnSourceFault (Err (Refused refusal)) P = Unit {0}
OnSourceFault (Ok x) P = Unit {0}

-- these segments, and then this answer
abbrev pub then_last : List Segment → Answer → List Answer
then_last segments last = map given segments ++ last ∷ []

module _ {S : Type 0} (gives : S → Answer → S → Type 0) where
  -- the source gave these segments, and then this
  abbrev pub GaveThen : S → List Segment → Answer → S → Type 0
  GaveThen old segments last new = Asked gives old (then_last segments last) new

  -- Put were just the segments that the source gave, in order, and after them the End that it gave; or, where its last
  -- answer was a fault or was not put, the segments before it
  abbrev pub Fed : S → List Placed → S → List Placed → Result ℕ FeedFault → Type 0
  Fed old before new after result =
      (segments : List Segment)
      × MatchResult result
      (λ n. GaveThen old segments end new × (n ≡ length segments) × (answers_of after ≡ answers_of before ++ then_last segments end))
      (λ e. GaveThen old segments (last_answer e) new × RefusedAnItem e × WasRefused after e × (answers_of after ≡ answers_of before ++ map given segments))

  -- The source gave these segments in this call, and then End or a fault. Where the feeder comes back, all of that was put, in order:
  -- so the other end is told how it ended. Else the last answer was not put: it was refused as the feeder refuses it, with the segments put
  pub record HasRun (failures : S → ℕ) (source : S) (feeder : Feeder) (ran : FeederExit S) : Type 0 where
    pub segments : List Segment
    pub gave : GaveThen source segments (last_in ran.outcome) ran.source
    pub put : IfOk ran.outcome
        (λ told. IsSameFeeder feeder told.feeder × (answers_of (put_by told.feeder) ≡ answers_of (put_by feeder) ++ then_last segments (ending_of told.end)))
    pub refused : IfErr ran.outcome
        (λ e. (after : List Placed) × (answers_of after ≡ answers_of (put_by feeder) ++ map given segments) × RefusesAnswer after (refused_answer e) e)
    pub counted : IfOk ran.outcome (λ told. IfOk told.end (λ n. n ≡ length segments))
    pub failed : OnErr (last_in ran.outcome) (failures source < failures ran.source)
    pub not_fewer : failures source ≤ failures ran.source
