use Rattle.std.proofs.Common.{sym, ap, ◌∙◌, ◌||◌, false, get_or, arith}
use Rattle.paging.specs.Pages.{has}
use Rattle.paging.proofs.Numbers.{numbers_taken}
use Rattle.pages.proofs.used.Used.mark_row.Goals as goal

pub returns : goal.returns
returns c = λ k h.
    c.mark.ensures k h ∙ ap (λ l. get_or c.args.taken.now k false || has l k) (sym (numbers_taken c.args.self.now.pages c.args.row.now (omega arith)))
