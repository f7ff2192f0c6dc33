use Rattle.std.proofs.Common.{◌<◌}
use Rattle.replay.proofs.print.print_items.Given as goal

abbrev pub invariant-loop-item : goal.invariant-loop-item
invariant-loop-item l = 0 < l.rows.size
