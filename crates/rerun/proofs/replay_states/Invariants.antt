use Rattle.std.proofs.Common.{◌≡◌, ◌*◌, ◌≤◌, drop, vec_items, vec_len, vec_capacity}
use Rattle.source.specs.Scans.{first, inputs}
use Rattle.rerun.specs.Runs.{at, told}
use Rattle.rerun.proofs.replay_states.Given as goal

abbrev pub invariant-loop-scan : goal.invariant-loop-scan
invariant-loop-scan g l =
    (l.place ≡ first (drop l._scan (g.S.Source.scans l.source)))
    × (g.M.Machine.state l.machine ≡ at (g.M.Machine.next l.initial.machine) (g.M.Machine.state l.initial.machine) (inputs (g.S.Source.scans l.source)) l._scan)
    × (g.M.Machine.next l.machine ≡ g.M.Machine.next l.initial.machine)
    × (g.M.Machine.lawful l.machine ≡ g.M.Machine.lawful l.initial.machine)
    × (vec_items l.states ≡ told (g.M.Machine.next l.initial.machine) (g.M.Machine.state l.initial.machine) (inputs (g.S.Source.scans l.source)) l._scan)
    × (vec_len l.states ≡ l._scan * g.M.Machine.W)
    × (l.total * g.M.Machine.W ≤ vec_capacity l.states)
