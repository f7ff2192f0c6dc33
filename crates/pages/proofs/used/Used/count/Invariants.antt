use Rattle.std.proofs.Common.{◌≡◌, ◌+◌, ◌*◌, ◌≤◌, drop}
use Rattle.paging.specs.Pages.{named, distinct}
use Rattle.pages.proofs.used.Used.count.Given as goal

abbrev pub invariant-loop-j : goal.invariant-loop-j
invariant-loop-j l = (l.count ≤ 8 * l.j) × (l.count + distinct (named l.self.pages (drop l.j l.self.rows.now)) ≡ distinct (named l.self.pages l.self.rows.now))
