use Rattle.tape.proofs.Settings.{Built}
use Rattle.tape.proofs.tape.build.Given as goal

abbrev pub invariant-loop-index : goal.invariant-loop-index
invariant-loop-index l = Built l.count l.index-counter l.entries l.places
