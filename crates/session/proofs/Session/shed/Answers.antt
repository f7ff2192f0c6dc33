use Rattle.session.proofs.Leading.{leads_on, leads_end}
use Rattle.session.proofs.Loops.{shed_more, shed_none}
use Rattle.session.proofs.Session.shed.Goals as goal

pub loop-preserved : goal.loop-preserved
loop-preserved g c =
    leads_on _ _ _ _ _ _ _ _ _ _ c.loop.invariant c.drop_last.ensures (shed_more c.args.many c.loop.counter _ c.loop-test.true)

pub returns : goal.returns
returns g c = leads_end _ _ _ _ _ _ _ c.loop.invariant (shed_none c.args.many c.loop.counter _ c.loop-test.false)
