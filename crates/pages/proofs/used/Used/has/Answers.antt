use Rattle.std.proofs.Common.{sym, ◌∙◌}
use Rattle.paging.specs.Pages.{named}
use Rattle.paging.proofs.Numbers.{has_left, has_either, named_any}
use Rattle.pages.proofs.used.Used.has.Goals as goal

pub returns-then-one_names : goal.returns-then-one_names
returns-then-one_names c =
    let n = named_any c.args.self.now.pages c.args.self.now.rows.now c.args.k in
    c.if-one_names.true ∙ sym (has_left (named c.args.self.now.pages c.args.self.now.rows.now) c.args.self.now.laid.now c.args.k (sym n ∙ sym c.one_names.ensures ∙ c.if-one_names.true))

pub returns-else-one_names : goal.returns-else-one_names
returns-else-one_names c =
    let n = named_any c.args.self.now.pages c.args.self.now.rows.now c.args.k in
    c.contains.ensures.value ∙ has_either (named c.args.self.now.pages c.args.self.now.rows.now) c.args.self.now.laid.now c.args.k (sym n ∙ sym c.one_names.ensures ∙ c.if-one_names.false)
