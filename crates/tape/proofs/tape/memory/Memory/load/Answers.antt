use Rattle.tape.proofs.Marks.{words_from_fits}
use Rattle.tape.specs.Laws.{fit_words}
use Rattle.tape.proofs.tape.memory.Memory.load.Goals as goal

pub invariant_of-self : goal.invariant_of-self
invariant_of-self c =
    rw c.copy_from_slice.ensures.after
    record { long = c.requires.long; head = c.requires.head; fits = fit_words c.args.words.now (words_from_fits c.args.words.now c.type_inv.words) }
