use Rattle.std.proofs.Common.{sym, ap, ◌∙◌, ◌||◌, slice_index, arith}
use Rattle.paging.specs.Pages.{has}
use Rattle.paging.proofs.Different.{later_in}
use Rattle.pages.specs.Used.{in_use}
use Rattle.pages.proofs.used.Used.has_later.Goals as goal

pub returns-then-contains : goal.returns-then-contains
returns-then-contains c =
    let k = slice_index c.args.row.now c.args.i in
    c.if-contains.true ∙ sym (later_in c.args.self.now.pages c.args.row.now (in_use c.args.self.now) c.args.i k c.requires (omega arith) ∙
    ap (λ b. b || has (in_use c.args.self.now) k) (sym c.contains.ensures.value ∙ c.if-contains.true))

pub returns-else-contains : goal.returns-else-contains
returns-else-contains c =
    let k = slice_index c.args.row.now c.args.i in
    c.has.ensures ∙ sym (later_in c.args.self.now.pages c.args.row.now (in_use c.args.self.now) c.args.i k c.requires (omega arith) ∙
    ap (λ b. b || has (in_use c.args.self.now) k) (sym c.contains.ensures.value ∙ c.if-contains.false))
