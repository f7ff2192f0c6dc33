use Rattle.std.proofs.Common.{get_or}
use Rattle.tape.proofs.Marks.{symbol_is}
use Rattle.tape.proofs.tape.memory.Memory.scanned.Goals as goal

pub returns-clause-value : goal.returns-clause-value
returns-clause-value c = let s = c.args.self.now in symbol_is s.words (get_or s.words 1 0) s.long s.head
