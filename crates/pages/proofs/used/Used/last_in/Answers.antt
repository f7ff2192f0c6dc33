use Rattle.std.proofs.Common.{sym, ap, ◌∙◌, ◌+◌, arith}
use Rattle.paging.proofs.Different.{last_seen, last_new, last_end}
use Rattle.pages.specs.Used.{in_use}
use Rattle.pages.proofs.used.Used.last_in.Goals as goal
use Rattle.pages.proofs.used.Used.last_in.Goals.{then-not-has_later, else-not-has_later}

pub loop-i-preserved : goal.loop-i-preserved
loop-i-preserved c =
    let inv = c.loop-i.invariant in
    elim c.if-not-has_later.branch [
      | then-not-has_later w ↦
          let s = last_new c.args.self.now.pages c.args.row.now (in_use c.args.self.now) c.loop-i.i c.loop-i-test.true (sym c.has_later.ensures ∙ w.if-not-has_later.true) in
          (omega (arith, w.count-is, inv.0), omega (arith, w.count-is, inv.1, s))
      | else-not-has_later w ↦
          let s = last_seen c.args.self.now.pages c.args.row.now (in_use c.args.self.now) c.loop-i.i c.loop-i-test.true (sym c.has_later.ensures ∙ w.if-not-has_later.false) in
          (omega (arith, w.count-is, inv.0), omega (arith, w.count-is, inv.1, s))
    ]

pub returns-clause-value : goal.returns-clause-value
returns-clause-value c =
    sym (ap (λ n. c.loop-i.count + n) (last_end c.args.self.now.pages c.args.row.now (in_use c.args.self.now) c.loop-i.i (omega arith))) ∙ c.loop-i.invariant.1
