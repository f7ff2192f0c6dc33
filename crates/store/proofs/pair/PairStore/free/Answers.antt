use Rattle.std.proofs.Common.{◌≡◌, ◌+◌, ◌<◌, length, subst, sym}
use Rattle.store.proofs.Paired.{set_first, set_second}
use Rattle.store.specs.Sides.{Lies}
use Rattle.store.specs.Slots.{empty}
use Rattle.store.proofs.pair.PairStore.free.Goals as goal

pub returns-in-First-clause-after : goal.returns-in-First-clause-after
returns-in-First-clause-after g c =
    let p : (c.in-First.at ≡ c.args.slot) × (c.args.slot < length (g.F.Store.slots c.args.self.now.first)) = subst (Lies (length (g.F.Store.slots c.args.self.now.first)) c.args.slot) c.in-First.is c.in_ok-at.ensures.side in
    rw (c.free.ensures.width, c.free.ensures.after, p.0) (set_first (g.F.Store.wide c.args.self.now.first) (g.S.Store.wide c.args.self.now.second) (g.F.Store.slots c.args.self.now.first) (g.S.Store.slots c.args.self.now.second) c.args.slot empty p.1)

pub returns-in-Second-clause-after : goal.returns-in-Second-clause-after
returns-in-Second-clause-after g c =
    let p : length (g.F.Store.slots c.args.self.now.first) + c.in-Second.at ≡ c.args.slot = subst (Lies (length (g.F.Store.slots c.args.self.now.first)) c.args.slot) c.in-Second.is c.in_ok-at.ensures.side in
    rw (c.free-in-Second.ensures.width, c.free-in-Second.ensures.after, sym p) (set_second (g.F.Store.wide c.args.self.now.first) (g.S.Store.wide c.args.self.now.second) (g.F.Store.slots c.args.self.now.first) (g.S.Store.slots c.args.self.now.second) c.in-Second.at empty)
