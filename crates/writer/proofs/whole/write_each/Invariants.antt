use Rattle.std.proofs.Common.{length}
use Rattle.writer.proofs.Filling.{Filling}
use Rattle.writer.proofs.whole.write_each.Given as goal

abbrev pub invariant-loop-item : goal.invariant-loop-item
invariant-loop-item g l = Filling l.initial.writer l.writer (g.R.Records.records l.records) (g.R.Records.records l.fn.records)

abbrev pub decreases-loop-item : goal.decreases-loop-item
decreases-loop-item g l = length (g.R.Records.records l.records)
