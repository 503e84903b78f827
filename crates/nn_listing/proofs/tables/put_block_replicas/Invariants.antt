use Rattle.nn_device.specs.Page.{PutsAllBut}
use Rattle.nn_listing.specs.Tables.{lines_of_block}
use Rattle.nn_listing.proofs.tables.put_block_replicas.Given as goal

-- the replicas that are left are to be put
abbrev pub invariant-loop-dn : goal.invariant-loop-dn
invariant-loop-dn g l = PutsAllBut (lines_of_block l.id l.block l.fn.replicas) (lines_of_block l.id l.block l.dn-iterator) l.fn.page l.fn.writer l.page l.writer
