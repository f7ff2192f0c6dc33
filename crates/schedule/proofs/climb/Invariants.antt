use Rattle.std.proofs.Common.{◌-◌}
use Rattle.checkpoints.proofs.Climb.{Climbed}
use Rattle.schedule.proofs.climb.Given as goal

abbrev pub invariant-loop-top : goal.invariant-loop-top
invariant-loop-top l = Climbed l.l l.s l.r l.top l.below l.under

abbrev pub decreases-loop-top : goal.decreases-loop-top
decreases-loop-top l = 2000 - l.r
