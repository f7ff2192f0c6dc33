use Rattle.std.proofs.Common.{◌≡◌, true, false, rules, ◌∙◌, arith}
use Rattle.row.specs.Cells.{lawful, bit, cell}
use Rattle.row.proofs.Made.{made_at}
use Rattle.row.proofs.Stepping.{load_packed, words_lawful, loads, loads_to}
use Rattle.row.proofs.RowMachine.load.Goals as goal

pub returns-clause-value : goal.returns-clause-value
returns-clause-value c = loads c.args.words.now c.if-words-ne-W.false (words_lawful c.args.words.now c.if-words-ne-W.false (λ j. omega (arith, c.type_inv.words j)))

pub returns-clause-after : goal.returns-clause-after
returns-clause-after c =
    let words = c.args.words.now in
    let l : lawful words ≡ true = words_lawful words c.if-words-ne-W.false (λ j. omega (arith, c.type_inv.words j)) in
    load_packed c.from_fn-self.result words l
    (λ k h. made_at _ _ 256 (λ i y. bit y ≡ cell words i) (λ i y q h s. search rules) _ c.from_fn-self.ensures.items k false h)
    ∙ loads_to words _ c.if-words-ne-W.false l
