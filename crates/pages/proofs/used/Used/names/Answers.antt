use Rattle.std.proofs.Common.{sym, ap, ◌∙◌, arith}
use Rattle.paging.specs.Pages.{has}
use Rattle.paging.proofs.Numbers.{numbers_taken}
use Rattle.pages.proofs.used.Used.names.Goals as goal

pub returns : goal.returns
returns c = c.contains.ensures.value ∙ sym (ap (λ l. has l c.args.k) (numbers_taken c.args.self.now.pages c.args.row.now (omega arith)))
