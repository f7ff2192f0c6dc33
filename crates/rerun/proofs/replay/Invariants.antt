use Rattle.std.proofs.Common.{◌≡◌, drop}
use Rattle.source.specs.Scans.{first, inputs}
use Rattle.rerun.specs.Runs.{at}
use Rattle.rerun.proofs.replay.Given as goal

abbrev pub invariant-loop-scan : goal.invariant-loop-scan
invariant-loop-scan g l =
    (l.place ≡ first (drop l._scan (g.S.Source.scans l.source)))
    × (g.M.Machine.state l.machine ≡ at (g.M.Machine.next l.initial.machine) (g.M.Machine.state l.initial.machine) (inputs (g.S.Source.scans l.source)) l._scan)
    × (g.M.Machine.next l.machine ≡ g.M.Machine.next l.initial.machine)
    × (g.M.Machine.lawful l.machine ≡ g.M.Machine.lawful l.initial.machine)
