use Rattle.tape.proofs.Steps.{held_words}
use Rattle.tape.proofs.tape.Tape.set_cell.Goals as goal

pub returns-clause-after : goal.returns-clause-after
returns-clause-after c = held_words c.mark.new.self _ c.mark.ensures
