use Rattle.std.proofs.Common.{refl, ap, ◌∙◌}
use Rattle.tape.proofs.Settings.{built_ok, all_found}
use Rattle.tape.specs.Tables.{empty, tabling, filled}
use Rattle.tape.specs.Turing.{found}
use Rattle.tape.proofs.tape.Tape.set_table.Goals as goal

pub returns-clause-rule : goal.returns-clause-rule
returns-clause-rule c control symbol h =
    let s = c.args.self.now in
    let es = c.args.entries.now in
    let b = built_ok (tabling s.count 0 es) (filled es empty) c.in_ok-self.field-0 c.in_ok-self.ensures.value in
    ap (λ t. found t control symbol) b.1 ∙ all_found s.count s.few control symbol h es 0 empty refl b.0
