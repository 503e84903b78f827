use Rattle.nn_feed.specs.Ends.{put_by}
use Rattle.nn_feed.specs.Running.{refused_answer}
use Rattle.nn_feed.proofs.Runs.{on_no_fault}
use Rattle.nn_feed.proofs.running.calls.run_thread.Goals as goal

pub returns-in-Err-Refused : goal.returns-in-Err-Refused
returns-in-Err-Refused g c =
    let fed = rw c.in-Err-Refused.field-0-is at c.in-Err-Refused.ensures.fed in
    record {
      segments = fed.0;
      gave = fed.1.0;
      put = tt;
      refused = (put_by c.run_feeder.new.feeder, fed.1.3, fed.1.2);
      counted = tt;
      failed = on_no_fault _ (refused_answer c.in-Err-Refused.refusal) fed.1.1;
      not_fewer = c.in-Err-Refused.ensures.counted;
    }
