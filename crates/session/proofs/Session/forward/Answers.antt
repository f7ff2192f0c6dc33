use Rattle.session.proofs.Leading.{leads_on, leads_end}
use Rattle.session.proofs.Loops.{forward_more, forward_none}
use Rattle.session.proofs.Session.forward.Goals as goal

pub loop-preserved : goal.loop-preserved
loop-preserved g c =
    leads_on _ _ _ _ _ _ _ _ _ _ c.loop.invariant c.advance.ensures (forward_more _ c.args.steps c.loop.counter _ c.loop-test.true)

pub returns : goal.returns
returns g c = leads_end _ _ _ _ _ _ _ c.loop.invariant (forward_none _ c.args.steps c.loop.counter _ c.loop-test.false)
