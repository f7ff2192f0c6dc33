use Rattle.std.proofs.Common.{◌∙◌, ap, not, false, get_or, arith}
use Rattle.paging.specs.Pages.{has}
use Rattle.paging.proofs.Numbers.{marked_none, marked_all, found_same}
use Rattle.pages.specs.Used.{in_use}
use Rattle.pages.proofs.used.Used.free.Goals as goal

pub loop-slot-init : goal.loop-slot-init
loop-slot-init c = λ k _. marked_none c.args.self.now.pages c.args.self.now.rows.now 1024 k

pub returns : goal.returns
returns c =
    c.unmarked.ensures ∙
    found_same (λ k. not (get_or c.mark.new.taken k false)) (λ k. not (has (in_use c.args.self.now) k)) 0 c.args.whole
    (λ k l.
    ap not
    (marked_all c.args.self.now.pages c.args.self.now.rows.now c.args.self.now.laid.now c.loop-slot.slot-index k (get_or c.loop-slot.taken k false) (get_or c.mark.new.taken k false) (omega arith)
    (c.loop-slot.invariant k (omega arith)) (c.mark.ensures k (omega arith))))
