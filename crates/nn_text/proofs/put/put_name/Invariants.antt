use Rattle.std.proofs.Common.{drop}
use Rattle.json.specs.Print.{escape}
use Rattle.nn_device.specs.Page.{PutsAllBut}
use Rattle.nn_text.proofs.put.put_name.Given as goal

-- the bytes that are left are to be put
abbrev pub invariant-loop-b : goal.invariant-loop-b
invariant-loop-b g l = PutsAllBut (escape l.name) (escape (drop l.b-index l.name)) l.fn.page l.fn.writer l.page l.writer
