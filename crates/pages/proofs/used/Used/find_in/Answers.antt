use Rattle.std.proofs.Common.{ℕ, sym, ap, ◌∙◌, arith}
use Rattle.std.specs.List.{find}
use Rattle.paging.specs.Pages.{page, same}
use Rattle.paging.proofs.Numbers.{numbers_taken}
use Rattle.pages.proofs.used.Used.find_in.Goals as goal

pub returns : goal.returns
returns c =
    let t = λ (k : ℕ). same (page c.args.pool.now k) c.args.content.now in
    c.among.ensures ∙ sym (ap (find t) (numbers_taken c.args.self.now.pages c.args.row.now (omega arith)))
