use Rattle.std.proofs.Common.{◌+◌, ◌++◌, ℕ, drop, sym, ap, ◌∙◌}
use Rattle.std.specs.List.{find}
use Rattle.std.specs.Option.{option_or}
use Rattle.paging.specs.Pages.{page, named, same}
use Rattle.paging.proofs.Numbers.{looked_past, looked_row}
use Rattle.pages.proofs.used.Used.find.Goals as goal
use Rattle.pages.proofs.used.Used.find.Goals.{in-Some+in_default-find_in, in_default}

pub returns-in-Some-find_in : goal.returns-in-Some-find_in
returns-in-Some-find_in c =
    let t = λ (k : ℕ). same (page c.args.pool.now k) c.args.content.now in
    let rest = find t (named c.args.self.now.pages (drop (c.loop-slot.slot-index + 1) c.args.self.now.rows.now) ++ c.args.self.now.laid.now) in
    sym (sym c.loop-slot.invariant ∙
    looked_row t c.args.self.now.pages c.args.self.now.rows.now c.args.self.now.laid.now c.loop-slot.slot-index c.in-Some.row c.loop-slot-test.true c.in-Some.is ∙
    ap (λ o. option_or o rest) (sym c.find_in.ensures ∙ c.in-Some-find_in.is))

pub loop-slot-preserved : goal.loop-slot-preserved
loop-slot-preserved c =
    let t = λ (k : ℕ). same (page c.args.pool.now k) c.args.content.now in
    let rest = find t (named c.args.self.now.pages (drop (c.loop-slot.slot-index + 1) c.args.self.now.rows.now) ++ c.args.self.now.laid.now) in
    elim c.match-slot.branch [
      | in-Some+in_default-find_in w ↦
          sym (looked_row t c.args.self.now.pages c.args.self.now.rows.now c.args.self.now.laid.now c.loop-slot.slot-index w.in-Some.row c.loop-slot-test.true w.in-Some.is ∙
          ap (λ o. option_or o rest) (sym w.find_in.ensures ∙ w.in_default-find_in.is)) ∙ c.loop-slot.invariant
      | in_default w ↦
          sym (looked_past t c.args.self.now.pages c.args.self.now.rows.now c.args.self.now.laid.now c.loop-slot.slot-index c.loop-slot-test.true w.in_default.is) ∙ c.loop-slot.invariant
    ]
