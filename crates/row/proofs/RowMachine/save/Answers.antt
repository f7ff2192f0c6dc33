use Rattle.std.proofs.Common.{◌≡◌, ℕ, ◌*◌, false, rules, get_or, ◌∙◌}
use Rattle.row.specs.Cells.{bit, bits}
use Rattle.row.proofs.Made.{made_at}
use Rattle.row.proofs.Stepping.{packs}
use Rattle.row.proofs.RowMachine.save.Goals as goal

pub returns-clause-after : goal.returns-clause-after
returns-clause-after c =
    let f : ℕ → ℕ = λ k. bit (get_or c.args.self.now.cells k false) in
    let words = packs f c.from_fn-words.result c.from_fn-words.ensures.items.long
    (λ k h. made_at _ _ 8 (λ i y. y ≡ bits f (32 * i) 32) (λ i y q h s. search rules) _ c.from_fn-words.ensures.items k 0 h) in
    rw c.if-buffer-ne-W.false (c.copy_from_slice.ensures.after ∙ words)
