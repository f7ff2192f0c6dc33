use Rattle.std.proofs.Common.{◌+◌, ◌-◌, List, sym, ap, ◌∙◌}
use Rattle.store.specs.Slots.{Slot}
use Rattle.viewer.specs.Model.{emptied}
use Rattle.session.proofs.Loops.{emptied_more, emptied_none}
use Rattle.session.proofs.empty_slots.Goals as goal

pub loop-j-preserved : goal.loop-j-preserved
loop-j-preserved g c = (
  c.free.ensures.width ∙ c.loop-j.invariant.0,
  ap (λ (x : List Slot). emptied (c.args.s - (c.loop-j.j + 1)) (c.loop-j.j + 1) x) c.free.ensures.after
      ∙ emptied_more c.args.s c.loop-j.j (g.T.Store.slots c.loop-j.store) c.loop-j-test.true ∙ c.loop-j.invariant.1,
)

pub returns : goal.returns
returns g c = record {
  after = sym (emptied_none c.args.s c.loop-j.j (g.T.Store.slots c.loop-j.store) c.loop-j-test.false) ∙ c.loop-j.invariant.1;
  width = c.loop-j.invariant.0;
}
