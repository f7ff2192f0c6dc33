use Rattle.std.proofs.Common.{◌+◌, ◌<◌, ◌≤◌, mul-le-mul, arith, rules}
use Rattle.checkpoints.proofs.Climb.{climb_start, climb_next, climb_end, climb_small}
use Rattle.schedule.proofs.climb.Goals as goal

pub loop-top-init : goal.loop-top-init
loop-top-init c = climb_start c.args.l c.args.s

small : (c : goal.In-loop-top) → c.loop-top.r < 2000
small c =
    climb_small c.args.s c.loop-top.r c.loop-top.top c.requires.some c.loop-top.invariant.here (omega (arith, c.loop-top-test.true, c.requires.scans))

pub overflow_add-r : goal.overflow_add-r
overflow_add-r c = let h = small c in search rules

pub overflow_add-top : goal.overflow_add-top
overflow_add-top c = let h = small c in search rules

pub overflow_mul-top : goal.overflow_mul-top
overflow_mul-top c =
    let h = small c in
    let a : c.loop-top.top ≤ 999999 = omega (arith, c.loop-top-test.true, c.requires.scans) in
    let b : c.args.s + (c.loop-top.r + 1) ≤ 2064 = omega (arith, c.requires.slots) in
    let k = mul-le-mul a b in
    search rules

pub loop-top-smaller : goal.loop-top-smaller
loop-top-smaller c = let h = small c in omega arith

pub loop-top-preserved : goal.loop-top-preserved
loop-top-preserved c =
    climb_next c.args.l c.args.s c.loop-top.r c.loop-top.top c.loop-top.below c.loop-top.under c.loop-top-test.true c.loop-top.invariant

pub returns : goal.returns
returns c =
    let e = climb_end c.args.l c.args.s c.loop-top.r c.loop-top.top c.loop-top.below c.loop-top.under (omega (arith, c.requires.some)) c.loop-top-test.false c.loop-top.invariant in
    let i = c.loop-top.invariant in
    rw e cc (i.here, i.last, i.past)
