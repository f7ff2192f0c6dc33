use Rattle.std.proofs.Common.{◌∙◌}
use Rattle.paging.proofs.Different.{count_used}
use Rattle.pages.proofs.Pages.pages_used.Goals as goal

pub returns : goal.returns
returns c =
    c.count.ensures ∙ count_used c.args.self.now.rows c.args.self.now.words.now c.args.self.now.width c.capacity-slots.result c.pages_in.result c.capacity-slots.ensures.fitting c.pages_in.ensures c.args.self.now.tidy
