use Rattle.std.proofs.Common.{arith}
use Rattle.paging.specs.Pages.{named}
use Rattle.paging.proofs.Placing.{laid_more}
use Rattle.pages.proofs.laying.lay.Goals as goal

pub loop-i-preserved : goal.loop-i-preserved
loop-i-preserved c =
    laid_more c.loop-i.i (named c.args.pages c.args.rows.now) c.args.words.now c.args.pool.now c.loop-i.row c.page.result c.loop-i.pool c.place.result c.place.new.pool
    (omega arith) c.page.ensures c.loop-i.invariant c.place.ensures
