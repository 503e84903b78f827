use Rattle.std.specs.Prelude.{flat_map}
use Rattle.nn_device.specs.Page.{PutsAllBut}
use Rattle.nn_replicas.specs.Calls.{replicas_at}
use Rattle.nn_listing.specs.Tables.{lines_of_block, lines_of_replicas}
use Rattle.nn_listing.proofs.tables.put_replicas.Given as goal

-- the rows that are left are to be put
abbrev pub invariant-loop-block : goal.invariant-loop-block
invariant-loop-block g l = PutsAllBut (lines_of_replicas l.table) (flat_map (λ row. lines_of_block row.0 row.1.block (replicas_at l.table row.0)) l.block-iterator) l.fn.page l.fn.writer l.page l.writer
