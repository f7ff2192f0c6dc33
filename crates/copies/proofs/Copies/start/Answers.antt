use Rattle.std.proofs.Common.{rules}
use Rattle.copies.proofs.Marks.{slot_end}
use Rattle.copies.proofs.Copies.start.Goals as goal

pub overflow_mul-result : goal.overflow_mul-result
overflow_mul-result c = let e = slot_end c.args.self.now.marks c.args.self.now.words.now c.args.self.now.width c.args.slot c.requires in search rules

pub returns-clause-end : goal.returns-clause-end
returns-clause-end c = slot_end c.args.self.now.marks c.args.self.now.words.now c.args.self.now.width c.args.slot c.requires
