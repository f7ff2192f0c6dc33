use Rattle.std.proofs.Common.{◌-◌}
use Rattle.viewer.specs.Model.{forward}
use Rattle.session.proofs.Leading.{Leads}
use Rattle.session.proofs.Session.forward.Given as goal

-- what is left of the steps leads where all of them lead
abbrev pub invariant-loop : goal.invariant-loop
invariant-loop g l =
    Leads g.M.Machine g.S.Source g.T.Store (λ f. forward f (l.steps - l.counter)) (λ f. forward f l.steps) l.initial.self l.self
