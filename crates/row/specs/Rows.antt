-- What a row holds.
use Rattle.std.specs.Prelude.{ℕ, List}
use Rattle.row.specs.declared.Row.{Row}
use Rattle.row.specs.Cells.{packed}

-- the rule's number
abbrev pub rule_of : Row → ℕ
rule_of row = row.rule

-- the state: the words of the cells
abbrev pub state_of : Row → List ℕ
state_of row = packed row.cells
