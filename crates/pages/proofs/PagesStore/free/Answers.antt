use Rattle.std.proofs.Common.{◌<◌, length, arith}
use Rattle.paging.specs.Layout.{count}
use Rattle.paging.proofs.Rows.{freed_slots, freed_all}
use Rattle.pages.proofs.PagesStore.free.Goals as goal

pub invariant_of-self : goal.invariant_of-self
invariant_of-self c =
    let h : c.args.slot < count c.args.self.now.width (length c.args.self.now.words.now) = omega (arith, c.in_ok-may_free.ensures.there, c.capacity.ensures.fitting) in
    record {
      tidy =
          freed_all c.args.self.now.rows c.args.self.now.words.now c.args.self.now.width c.args.slot h c.args.self.now.tidy;
    }

pub returns-clause-after : goal.returns-clause-after
returns-clause-after c =
    let h : c.args.slot < count c.args.self.now.width (length c.args.self.now.words.now) = omega (arith, c.in_ok-may_free.ensures.there, c.capacity.ensures.fitting) in
    freed_slots c.args.self.now.rows c.args.self.now.words.now c.args.self.now.width c.args.slot h
