use Rattle.std.proofs.Common.{◌-◌}
use Rattle.viewer.specs.Model.{shed}
use Rattle.session.proofs.Leading.{Leads}
use Rattle.session.proofs.Session.shed.Given as goal

-- what is left to free leads where all of it leads
abbrev pub invariant-loop : goal.invariant-loop
invariant-loop g l =
    Leads g.M.Machine g.S.Source g.T.Store (λ _. shed (l.many - l.counter)) (λ _. shed l.many) l.initial.self l.self
