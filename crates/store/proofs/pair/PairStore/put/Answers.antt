use Rattle.std.proofs.Common.{◌≡◌, ◌+◌, ◌<◌, length, subst, sym}
use Rattle.store.proofs.Paired.{put_first, put_second, same_width}
use Rattle.store.specs.Sides.{Lies}
use Rattle.store.proofs.pair.PairStore.put.Goals as goal

pub returns-in-First-clause-after : goal.returns-in-First-clause-after
returns-in-First-clause-after g c =
    let p : (c.in-First.at ≡ c.args.slot) × (c.args.slot < length (g.F.Store.slots c.args.self.now.first)) = subst (Lies (length (g.F.Store.slots c.args.self.now.first)) c.args.slot) c.in-First.is c.in_ok-at.ensures.side in
    rw (c.put.ensures.width, c.put.ensures.after, p.0) (put_first (g.F.Store.wide c.args.self.now.first) (g.S.Store.wide c.args.self.now.second) (g.F.Store.slots c.args.self.now.first) (g.S.Store.slots c.args.self.now.second) c.args.slot c.args.words.now p.1)

pub returns-in-Second-clause-after : goal.returns-in-Second-clause-after
returns-in-Second-clause-after g c =
    let p : length (g.F.Store.slots c.args.self.now.first) + c.in-Second.at ≡ c.args.slot = subst (Lies (length (g.F.Store.slots c.args.self.now.first)) c.args.slot) c.in-Second.is c.in_ok-at.ensures.side in
    rw (c.put-in-Second.ensures.width, c.put-in-Second.ensures.after, sym p) (put_second (g.F.Store.wide c.args.self.now.first) (g.S.Store.wide c.args.self.now.second) (g.F.Store.slots c.args.self.now.first) (g.S.Store.slots c.args.self.now.second) c.in-Second.at c.args.words.now (same_width (g.F.Store.wide c.args.self.now.first) (g.S.Store.wide c.args.self.now.second) (g.F.Store.slots c.args.self.now.first) (g.S.Store.slots c.args.self.now.second) c.args.slot c.in_ok-at.ensures.within))
