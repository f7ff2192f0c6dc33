use Rattle.std.proofs.Common.{◌<◌}
use Rattle.viewer.specs.Model.{climbed}
use Rattle.session.proofs.Leading.{Leads}
use Rattle.session.proofs.Session.climb.Given as goal

-- what is left of the gap leads where the whole of it leads, and a slot stays for the last of it
abbrev pub invariant-loop-g : goal.invariant-loop-g
invariant-loop-g g l = record {
  goes : Leads g.M.Machine g.S.Source g.T.Store (λ f. climbed f l.g l.m) (λ f. climbed f l.slots l.gap) l.initial.self l.self;
  one : 0 < l.slots → 0 < l.g;
}
