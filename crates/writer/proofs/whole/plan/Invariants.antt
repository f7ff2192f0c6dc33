-- What is left is refused, or ends, as all that there was; the measure is what is left.
use Rattle.std.proofs.Common.{◌≡◌, ◌≤◌, false, length}
use Rattle.writer.specs.Writing.{writing}
use Rattle.writer.proofs.whole.plan.Given as goal

abbrev pub invariant-loop-item : goal.invariant-loop-item
invariant-loop-item g l = record {
  same : writing l.space.room l.space.used (g.R.Records.records l.records) ≡ writing l.fn.room 0 (g.R.Records.records l.fn.records);
  room : l.space.room ≡ l.fn.room;
  within : l.space.used ≤ l.space.room;
  unclosed : l.space.closed ≡ false;
}

abbrev pub decreases-loop-item : goal.decreases-loop-item
decreases-loop-item g l = length (g.R.Records.records l.records)
