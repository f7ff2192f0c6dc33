use Rattle.std.proofs.Common.{refl}
use Rattle.row.specs.Cells.{bits, words}
use Rattle.row.proofs.Row.new.Goals as goal

pub returns-clause-zeros : goal.returns-clause-zeros
unfolding bits words
returns-clause-zeros c = refl
