use Rattle.std.proofs.Common.{◌≡◌, ◌+◌, ◌-◌, ◌<◌, ◌≤◌, false, length, take}
use Rattle.std.specs.Io.KnownBytes.{Appends}
use Rattle.nn_device.proofs.writer.Writer.write_all.Given as goal

-- the writer took the first `written` bytes, and none of its writes failed
abbrev pub invariant-writes : goal.invariant-writes
invariant-writes g l = record {
  within : l.written ≤ length l.text;
  bytes : Appends l.fn.self.contents (g.W.Write.contents l.self-inside.writer) (take l.written l.text);
  counted : l.self-inside.taken ≡ l.fn.self.taken + l.written;
  unfailed : l.self-inside.failed ≡ l.fn.self.failed;
  open_before : 0 < l.written → l.fn.self.failed ≡ false;
}

abbrev pub decreases-writes : goal.decreases-writes
decreases-writes g l = length l.text - l.written
