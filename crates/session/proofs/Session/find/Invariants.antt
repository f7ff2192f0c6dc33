use Rattle.std.proofs.Common.{◌-◌}
use Rattle.viewer.specs.Model.{finding, sought}
use Rattle.session.proofs.Leading.{Leads}
use Rattle.session.proofs.Session.find.Given as goal

-- the backs that are left lead where all of them lead, and find the same
abbrev pub invariant-loop : goal.invariant-loop
invariant-loop g l =
    let meets = g.C.Condition.holds l.condition in
    record {
      goes : Leads g.M.Machine g.S.Source g.T.Store (λ f. sought f meets (l.backs - l.counter)) (λ f. sought f meets l.backs) l.initial.self l.self;
      finds : Leads g.M.Machine g.S.Source g.T.Store (λ f. finding f meets (l.backs - l.counter)) (λ f. finding f meets l.backs) l.initial.self l.self;
    }
