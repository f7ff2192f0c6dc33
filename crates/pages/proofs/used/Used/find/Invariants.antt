use Rattle.std.proofs.Common.{◌≡◌, ◌++◌, drop}
use Rattle.std.specs.List.{find}
use Rattle.paging.specs.Pages.{page, named, same}
use Rattle.pages.specs.Used.{in_use}
use Rattle.pages.proofs.used.Used.find.Given as goal

abbrev pub invariant-loop-slot : goal.invariant-loop-slot
invariant-loop-slot l = find (λ k. same (page l.pool k) l.content) (named l.self.pages (drop l.slot-index l.self.rows.now) ++ l.self.laid.now) ≡ find (λ k. same (page l.pool k) l.content) (in_use l.self)
