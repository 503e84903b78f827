-- A service that is under way: what it has told, and how it ends.
use Rattle.std.proofs.Common.{◌≡◌, ℕ, ◌≤◌, Bool, cond, is_some, List, [], ◌++◌, length, refl, sym, subst, ap, ap₂, ◌∙◌, inl, inr, append-nil, append_assoc}
use Rattle.std.specs.Io.KnownBytes.{IsAtEnd}
use Rattle.nn_device.specs.Device.{Reader}
use Rattle.nn_input.specs.Cut.{ahead}
use Rattle.nn_live.specs.Live.{LiveSetup, ServiceState, Stage, ends, exit_status, live_text, serving, so_far, stage_at_end, takes_all, takes_end, takes_torn, written_of}
use Rattle.nn_live.specs.Running.{EndsRun, Halts, IsSoFar, IsUnderWay, Run, asked_by, lines_say, serving_by}
use Rattle.nn_live.specs.Served.{LeavesLine, ReadsAhead, ServedInput, StopsReading, TakesLines}
use Rattle.nn_live.specs.Serving.{BreaksAtEnd, FollowsStep, Service}
use Rattle.nn_live.specs.Taking.{LacksLine}
use Rattle.nn_live.specs.declared.run.LiveEnd.TheVariants as halt
use Rattle.nn_live.proofs.Running.{told_more}
use Rattle.nn_live.proofs.ServedLines.{all_taken, more_came, says_from}
use Rattle.nn_live.proofs.Serves.{cut_off, given_more, given_still}

module _ (run : Run) (told : List ℕ) (x : ServedInput) (u : IsUnderWay run told x) where
  abbrev asked : LiveSetup
  asked = asked_by run.options

  abbrev now : ServiceState
  now = takes_all asked u.served.lines u.first

  -- lines more are taken
  pub lines_told : (more : List ℕ) (y : ServedInput) → TakesLines x y more → IsUnderWay run (told ++ more) y
  lines_told more y takes = record {
    bytes = u.bytes;
    come = record { gave = u.come.gave; none_failed = u.come.none_failed; at_once = told_more run.options u.bytes told more u.come.at_once };
    image = u.image;
    rest = u.rest;
    are = u.are;
    first = u.first;
    behind = u.behind;
    served = takes asked u.first u.rest told u.served;
  }

  -- or one is not
  says_behind : (some : List ℕ) → lines_say run.options (u.image ++ some) ≡ says_from asked u.first some
  says_behind some = ap (λ (r : Stage × List ℕ). written_of r.0) (u.behind some)

  left_behind : (text : List ℕ) → LacksLine (says_from asked u.first) u.rest text → LacksLine (lines_say run.options) u.bytes text
  left_behind text l = record {
    taken = u.image ++ l.taken;
    left = l.left;
    are = u.are ∙ ap (λ b. u.image ++ b) l.are ∙ sym (append_assoc u.image l.taken l.left);
    some = l.some;
    part = l.part;
    begins = l.begins ∙ ap (λ w. w ++ l.part) (sym (says_behind l.taken));
    cut = record {
      rest = l.cut.rest;
      is = ap (lines_say run.options) u.are ∙ says_behind u.rest ∙ l.cut.is ∙ ap (λ w. (w ++ l.part) ++ l.cut.rest) (sym (says_behind l.taken));
      short = l.cut.short;
    };
  }

  pub line_halts : (more : List ℕ) → LeavesLine x more → Halts run (told ++ more) halt.OutOfMemory
  line_halts more leaves = record {
    bytes = u.bytes;
    gave = u.come.gave;
    at_once = told_more run.options u.bytes told more u.come.at_once;
    reader = u.come.none_failed;
    is = inl (inr (left_behind (told ++ more) (leaves asked u.first u.rest told u.served)));
  }

  -- ---- All that was read is cut.

  module _ (none : ahead x.lines ≡ []) where
    here : so_far asked run.options.from_image u.bytes ≡ (serving now, u.served.come.torn)
    here = ap (so_far asked run.options.from_image) u.are ∙ u.behind u.rest ∙ all_taken asked u.first u.rest told x u.served none

    says_all : told ≡ lines_say run.options u.bytes
    says_all = sym u.served.written ∙ ap (λ (r : Stage × List ℕ). written_of r.0) (sym here)

    pub is_so_far : IsSoFar run told
    is_so_far = record { bytes = u.bytes; gave = u.come.gave; is = says_all }

    -- more is read
    pub read_more : (more : Bool) (b : Reader) (y : ServedInput) → ReadsAhead more run.after b x y → IsUnderWay (serving_by run.options run.before b) told y
    read_more more b y r = record {
      bytes = u.bytes ++ r.read.bytes;
      come = record {
        gave = given_more run.before run.after b u.bytes u.come.gave r.read.bytes r.read.came;
        none_failed = r.read.came.unfailed ∙ u.come.none_failed;
        at_once = record {
          earlier = u.bytes;
          last = r.read.bytes;
          are = refl;
          one_read = subst (λ (k : List ℕ). length k ≤ 65536) r.read.are r.one_read;
          before = ([], says_all ∙ sym (append-nil (lines_say run.options u.bytes)));
        };
      };
      image = u.image;
      rest = u.rest ++ r.read.bytes;
      are = ap (λ b. b ++ r.read.bytes) u.are ∙ append_assoc u.image u.rest r.read.bytes;
      first = u.first;
      behind = u.behind;
      served = more_came asked u.first u.rest told x u.served run.after b y none r.same r.read;
    }

    -- or the read fails
    pub read_halts : (b : Reader) → StopsReading run.after b → Halts (serving_by run.options run.before b) told halt.Unreadable
    read_halts b (keeps, failed) = record {
      bytes = u.bytes;
      gave = given_still run.before run.after b u.bytes u.come.gave keeps failed.counted;
      at_once = u.come.at_once;
      reader = (failed.noted, cut_off run.before run.after b u.come.none_failed failed.counted failed.why);
      is = inl says_all;
    }

    -- ---- The input has ended.

    module _ (end : IsAtEnd run.after.left) (more : List ℕ) where
      abbrev last : ServiceState
      last = ends asked (takes_torn asked u.served.come.torn now)

      stage_there : stage_at_end asked run.options.from_image u.bytes ≡ serving last
      stage_there = ap (λ (r : Stage × List ℕ). takes_end asked r.1 r.0) here

      pub ends_run : (y : Service) (status : ℕ) → FollowsStep (λ asked s. ends asked (takes_torn asked u.served.come.torn s)) x.service y more
          → status ≡ cond (is_some y.shadow.phase.stopped) 1 0 → EndsRun run (told ++ more) status
      ends_run y status step is_status =
          let text : told ++ more ≡ last.written = ap (λ w. w ++ more) (sym u.served.written) ∙ sym (step.written asked now u.served.at) in
          let phase = (step.at asked now u.served.at).phase in
          record {
            input = u.bytes;
            gave = u.come.gave;
            whole = end;
            none_failed = u.come.none_failed;
            is =
                ap₂ (λ t k. record { text = t; status = k }) text (is_status ∙ ap (λ p. cond (is_some p.stopped) 1 0) phase)
                ∙ ap (λ s. record { text = written_of s; status = exit_status s }) (sym stage_there);
          }

      -- not all of its end is told
      pub end_halts : BreaksAtEnd u.served.come.torn x.service more → Halts run (told ++ more) halt.OutOfMemory
      end_halts breaks =
          let broke = breaks asked now u.served.at in
          let text : live_text asked run.options.from_image u.bytes ≡ last.written = ap written_of stage_there in
          record {
            bytes = u.bytes;
            gave = u.come.gave;
            at_once = told_more run.options u.bytes told more u.come.at_once;
            reader = u.come.none_failed;
            is = inr (
              refl,
              end,
              record {
                part = more;
                begins = ap (λ w. w ++ more) says_all;
                cut = record { rest = broke.0.rest; is = text ∙ broke.0.is ∙ ap (λ w. (w ++ more) ++ broke.0.rest) (u.served.written ∙ says_all); short = broke.0.short };
                torn = λ none empty. broke.1 none (sym (ap (λ (r : Stage × List ℕ). r.1) here) ∙ empty);
              },
            );
          }
