use Rattle.std.proofs.Common.{drop}
use Rattle.std.specs.Prelude.{flat_map}
use Rattle.std.specs.Map.Iter.{deref}
use Rattle.nn_device.specs.Page.{PutsAllBut}
use Rattle.nn_text.specs.Plain.{escaped_name}
use Rattle.nn_text.proofs.put.put_names.Given as goal

-- the names that are left are to be put
abbrev pub invariant-loop-name : goal.invariant-loop-name
invariant-loop-name g l = PutsAllBut (flat_map (λ n. escaped_name (deref n)) l.names) (flat_map (λ n. escaped_name (deref n)) (drop l.name-index l.names)) l.fn.page l.fn.writer l.page l.writer
