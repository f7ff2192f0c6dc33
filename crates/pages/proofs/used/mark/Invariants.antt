use Rattle.std.proofs.Common.{◌≡◌, ℕ, ◌<◌, false, ◌||◌, get_or, take}
use Rattle.paging.specs.Pages.{has}
use Rattle.pages.proofs.used.mark.Given as goal

abbrev pub invariant-loop-number : goal.invariant-loop-number
invariant-loop-number l = (k : ℕ) → k < 1024 → get_or l.taken k false ≡ (get_or l.fn.taken k false || has (take l.number-index l.numbers) k)
