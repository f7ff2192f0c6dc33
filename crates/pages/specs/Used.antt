-- The numbers of the pages in use.
use Rattle.std.specs.Prelude.{ℕ, List, ◌++◌}
use Rattle.paging.specs.Pages.{named}
use Rattle.pages.specs.declared.used.Used.{Used}

-- the numbers that the rows name, then those of the row that is being laid
abbrev pub in_use : Used → List ℕ
in_use u = named u.pages u.rows.now ++ u.laid.now
