use Rattle.std.proofs.Common.{arith}
use Rattle.session.proofs.Leading.{joined, leads_end, leads_on, leads_to}
use Rattle.session.proofs.Loops.{climbed_done, climbed_none, climbed_off, climbed_on, climbed_one}
use Rattle.session.proofs.Session.climb.Goals as goal
use Rattle.session.proofs.Session.climb.Goals.{then-m-gt1, else-m-gt1}

pub returns-then-m-le1 : goal.returns-then-m-le1
returns-then-m-le1 g c = leads_end _ _ _ _ _ _ _ c.loop-g.invariant.goes (climbed_done _ c.loop-g.g c.loop-g.m _ c.if-m-le1.true)

pub loop-g-preserved : goal.loop-g-preserved
loop-g-preserved g c =
    let q = c.stride-q.ensures c.if-m-le1.false c.loop-g-test.true in
    let rest = c.saturating_sub-m.ensures in
    record {
      goes = elim c.if-m-gt1.branch [
        | then-m-gt1 w ↦ rw w.self-is (leads_on _ _ _ _ _ _ _ _ _ _ c.loop-g.invariant.goes (joined _ _ _ _ _ _ _ _ c.forward.ensures w.snap.ensures)
            (climbed_on _ c.loop-g.g c.loop-g.m _ _ _ q rest c.loop-g-test.true c.if-m-le1.false w.if-m-gt1.true))
        | else-m-gt1 w ↦ rw w.self-is (leads_on _ _ _ _ _ _ _ _ _ _ c.loop-g.invariant.goes c.forward.ensures
            (climbed_off _ c.loop-g.g c.loop-g.m _ _ _ q rest c.loop-g-test.true c.if-m-le1.false w.if-m-gt1.false))
      ];
      one = λ _. omega (arith, c.loop-g-test.true);
    }

pub returns-then-slots-gt0 : goal.returns-then-slots-gt0
returns-then-slots-gt0 g c =
    let one = c.loop-g.invariant.one c.if-slots-gt0.true in
    leads_to _ _ _ _ _ _ _ _ _ c.loop-g.invariant.goes c.forward-then-slots-gt0.ensures
    (climbed_one _ c.loop-g.g c.loop-g.m _ _ (omega (arith, c.loop-g-test.false, one)) c.saturating_sub.ensures)

pub returns-else-slots-gt0 : goal.returns-else-slots-gt0
returns-else-slots-gt0 g c = leads_end _ _ _ _ _ _ _ c.loop-g.invariant.goes (climbed_none _ c.loop-g.g c.loop-g.m _ (omega arith))
