use Rattle.std.proofs.Common.{◌≡◌, ℕ, List, refl, ap, ◌∙◌}
use Rattle.row.specs.Cells.{next, packed, cell, stepped}
use Rattle.row.specs.Laws.{stepped_binary}
use Rattle.row.proofs.Examples.{lone}
use Rattle.row.proofs.Packing.{cell_pack}
use Rattle.row.proofs.Stepping.{step_packed}
use Rattle.row.proofs.RowMachine.step.Goals as goal

pub returns : goal.returns
returns c =
    let old : List ℕ = packed c.args.self.now.cells in
    let moves : packed c.advanced-self.result ≡ next c.args.self.now.rule old c.args.input =
    step_packed c.write.new.self.rule c.args.self.now.cells c.write.new.self.cells c.advanced-self.result c.args.input
    c.write.ensures.places c.advanced-self.ensures.places
    ∙ ap (λ (r : ℕ). next r old c.args.input) c.write.ensures.rule in
    record {
      moves = moves;
      rule = ap next c.write.ensures.rule;
      law = refl;
      cells = λ k h. ap (λ (x : List ℕ). cell x k) moves ∙ cell_pack (stepped c.args.self.now.rule old c.args.input) (stepped_binary c.args.self.now.rule old c.args.input) k h;
      lone = lone;
    }
