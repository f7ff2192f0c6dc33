use Rattle.std.proofs.Common.{◌≡◌, ◌+◌, ◌≤◌, ◌++◌, drop}
use Rattle.paging.specs.Pages.{numbers, distinct}
use Rattle.pages.specs.Used.{in_use}
use Rattle.pages.proofs.used.Used.last_in.Given as goal

abbrev pub invariant-loop-i : goal.invariant-loop-i
invariant-loop-i l = (l.count ≤ l.i) × (l.count + distinct (drop l.i (numbers l.self.pages l.row) ++ in_use l.self) ≡ distinct (numbers l.self.pages l.row ++ in_use l.self))
