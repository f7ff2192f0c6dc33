use Rattle.paging.specs.Pages.{named}
use Rattle.paging.specs.Steps.{Laid}
use Rattle.pages.proofs.laying.lay.Given as goal

abbrev pub invariant-loop-i : goal.invariant-loop-i
invariant-loop-i l = Laid l.i (named l.pages l.rows) l.words l.fn.pool l.row l.pool
