use Rattle.std.proofs.Common.{◌≡◌, ℕ, ◌<◌, false, ◌||◌, get_or, drop}
use Rattle.paging.specs.Pages.{has, named}
use Rattle.pages.proofs.used.Used.free.Given as goal

abbrev pub invariant-loop-slot : goal.invariant-loop-slot
invariant-loop-slot l = (k : ℕ) → k < 1024 → (get_or l.taken k false || has (named l.self.pages (drop l.slot-index l.self.rows.now)) k) ≡ has (named l.self.pages l.self.rows.now) k
