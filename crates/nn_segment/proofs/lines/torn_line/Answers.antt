use Rattle.std.proofs.Common.{◌+◌, sym, ap, ◌∙◌}
use Rattle.nn_segment.specs.declared.fault.SegmentFault.TheVariants.{TornLine}
use Rattle.nn_segment.proofs.LineLemmas.{torn_lines}
use Rattle.nn_segment.proofs.lines.torn_line.Goals as goal

pub returns : goal.returns
returns c =
    ap (λ n. TornLine (n + 1)) c.line_feeds.ensures.count ∙ ap TornLine (sym (torn_lines c.args.bytes.now c.requires.some c.requires.torn))
