use Rattle.std.proofs.Common.{refl}
use Rattle.nn_drive.proofs.Drives.{all_got}
use Rattle.nn_drive.proofs.serving.Running.join.Goals as goal

pub returns : goal.returns
returns g c =
    let m = c.meet-met.ensures in let own = c.args.self.own in let w = c.join-source.result in
    record {
      worked = w;
      reported = c.join-source.ensures;
      prefix = m.prefix;
      counts = m.closed own.1;
      all = λ dry. all_got c.args.self.end w.reporter (m.prefix, m.closed, m.told) dry;
      source = refl;
      outcome = refl;
      accepted = m.counts.0;
      taken = m.counts.1;
    }
