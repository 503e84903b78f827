use Rattle.std.proofs.Common.{sym, ap, ◌∙◌}
use Rattle.nn_scenario.specs.Cut.{part_name, segment_of}
use Rattle.nn_scenario.proofs.SegmentLemmas.{read_back, unnamed}
use Rattle.nn_scenario.proofs.segments.Part.into_segment.Goals as goal

pub returns-in_default : goal.returns-in_default
returns-in_default c =
    let i = c.self.inside in
    ap segment_of (sym c.self.view_is) ∙ unnamed (part_name i.txs.items) i.bytes.items (ap part_name (sym c.deref.ensures.value) ∙ c.in_default.ensures)

pub from_lines-requires-clause-read : goal.from_lines-requires-clause-read
from_lines-requires-clause-read c = read_back (record { bytes = c.self.inside.bytes.items; txs = c.self.inside.txs.items }) c.self.invariant
