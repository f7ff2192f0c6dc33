use Rattle.std.proofs.Common.{◌≡◌, ◌-◌}
use Rattle.viewer.specs.Model.{emptied}
use Rattle.session.proofs.empty_slots.Given as goal

-- what is left to empty leads where all of it leads
abbrev pub invariant-loop-j : goal.invariant-loop-j
invariant-loop-j g l =
    (g.T.Store.wide l.store ≡ g.T.Store.wide l.initial.store)
    × (emptied (l.s - l.j) l.j (g.T.Store.slots l.store) ≡ emptied (l.s - 1) 1 (g.T.Store.slots l.initial.store))
