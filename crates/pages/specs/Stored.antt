-- What a store of pages stands for, by its width, its rows and its pool.
use Rattle.std.specs.Prelude.{ℕ, ◌*◌, List, length, drop}
use Rattle.paging.specs.Layout.{whole}
use Rattle.paging.specs.Pages.{slots_of, TidyAll, Spared, used}
use Rattle.pages.specs.declared.Pages.{Pages}
use Rattle.store.specs.Slots.{Slot}

-- the words of a snapshot
abbrev pub width_of : Pages → ℕ
width_of s = s.width

-- the lent words
abbrev pub pool_of : Pages → List ℕ
pool_of s = s.words.now

-- the lent words behind the whole pages
abbrev pub rest_of : Pages → List ℕ
rest_of s = drop (4 * whole (length (pool_of s))) (pool_of s)

abbrev pub stored_slots : Pages → List Slot
stored_slots s = slots_of s.rows (pool_of s) s.width

-- equal pages lie at one place
abbrev pub TidyOf : Pages → Type 0
TidyOf s = TidyAll s.rows (pool_of s) s.width

-- every slot but this one has the pages that it had, and each of them the words that it had
abbrev pub SparedBy : ℕ → Pages → Pages → Type 0
SparedBy slot s s' = Spared slot s.rows (pool_of s) s'.rows (pool_of s') s.width

-- the different pages among the held snapshots
abbrev pub used_of : Pages → ℕ
used_of s = used s.rows (pool_of s) s.width
