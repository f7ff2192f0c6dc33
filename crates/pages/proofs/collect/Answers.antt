use Rattle.std.proofs.Common.{◌/◌, ◌%◌, length, get_or, arith}
use Rattle.std.proofs.lemmas.List.FromFn.{fill_by_all}
use Rattle.paging.specs.Pages.{at}
use Rattle.pages.proofs.collect.Goals as goal

pub returns : goal.returns
returns c =
    fill_by_all (λ i. at c.args.pool.now (get_or c.args.row.now (i / 4) 0) (i % 4)) c.loop-i.buffer (length c.args.buffer.now) 0 (omega arith) (λ k h. c.loop-i.invariant k (omega arith))
